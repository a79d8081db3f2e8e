mod NewSource
