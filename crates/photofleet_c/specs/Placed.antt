-- What a call has done to the caller's memory, by the bytes there before and after the call, and by the number of bytes that it
-- tells.
use Rattle.std.specs.Prelude.{◌≡◌, ◌⊎◌, ◌<◌, ℕ, List, ◌++◌, drop, length}

-- the text stands at the front of the memory, and the bytes after it are as they were
pub record Holds (old new : List ℕ) (written : ℕ) (text : List ℕ) : Type 0 where
  pub bytes : new ≡ text ++ drop (length text) old
  pub count : written ≡ length text

-- the text has no room in the memory, which is as it was
pub record HasNoRoom (old new : List ℕ) (written : ℕ) (text : List ℕ) : Type 0 where
  pub same : new ≡ old
  pub count : written ≡ length text
  pub small : length old < length text

-- the text stands in the memory where it has room
abbrev pub IsOffered : List ℕ → List ℕ → ℕ → List ℕ → Type 0
IsOffered old new written text = Holds old new written text ⊎ HasNoRoom old new written text

-- there is no text, and the memory is as it was
pub record IsUntouched (old new : List ℕ) (written : ℕ) : Type 0 where
  pub same : new ≡ old
  pub count : written ≡ 0
