-- The levels of open brackets, the innermost first.
use Rattle.std.proofs.Common.{◌≡◌, List, [], ◌∷◌, ◌++◌, ap, map}
use Rattle.std.proofs.lemmas.List.{reverse-append}
use Rattle.photo_filter_text.specs.declared.reader.Level as code
use Rattle.photo_filter_text.specs.Steps.{levels_of, level_of}

pub levels_push : (ls : List code.Level) (l : code.Level) → levels_of (ls ++ l ∷ []) ≡ level_of l ∷ levels_of ls
levels_push ls l = ap (map level_of) (reverse-append ls (l ∷ []))
