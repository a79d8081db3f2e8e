-- The lines that were taken: none, or the text of a script, which has an LF between two lines.
use Rattle.std.specs.Prelude.{◌≡◌, ◌≢◌, ◌⊎◌, ◌-◌, ◌<◌, ℕ, List, [], ◌∷◌, ◌++◌, length, Option, Some, None, slice_index, EachIndex}
use Rattle.live_script.specs.Live.{IsTold}
use Rattle.live_script.specs.Printed.{IsPrinted}
use Rattle.live_script.specs.Refused.{IsWhy}
use Rattle.live_script.specs.declared.refusal.Refusal.{Refusal}

-- the text of the lines with one more behind them
abbrev pub with_line : Option (List ℕ) → List ℕ → List ℕ
with_line None line = line
with_line (Some text) line = text ++ 10 ∷ line

-- the text of the lines, which is empty where there are none
abbrev pub text_of : Option (List ℕ) → List ℕ
text_of None = []
text_of (Some text) = text

-- what the run of the lines prints, which is nothing where there are none
abbrev pub Prints : Option (List ℕ) → List ℕ → Type 0
Prints None told = told ≡ []
Prints (Some text) told = IsPrinted text told

-- what is told of a line behind the lines: what the run of all of them prints behind what it printed before
abbrev pub Tells : Option (List ℕ) → List ℕ → List ℕ → Type 0
Tells None line told = IsPrinted line told
Tells (Some text) line told = IsTold text (text ++ 10 ∷ line) told

-- the line is the last one of the old lines, and the new ones are all others
pub record IsLast (old new : Option (List ℕ)) (line : List ℕ) : Type 0 where
  pub all : old ≡ Some (with_line new line)
  pub one : EachIndex line (λ k. slice_index line k ≢ 10)

-- the bytes of a file with the lines: an LF ends each
abbrev pub bytes_of : Option (List ℕ) → List ℕ
bytes_of None = []
bytes_of (Some text) = text ++ 10 ∷ []

-- the bytes of a file in which no LF ends the last line
pub record IsOpen (bytes text : List ℕ) : Type 0 where
  pub some : 0 < length bytes
  pub same : text ≡ bytes
  pub last : slice_index bytes (length bytes - 1) ≢ 10

-- the lines of a file with those bytes
abbrev pub AreOf : List ℕ → Option (List ℕ) → Type 0
AreOf bytes None = bytes ≡ []
AreOf bytes (Some text) = (bytes ≡ bytes_of (Some text)) ⊎ IsOpen bytes text

-- why the lines of a file with those bytes give no reports
abbrev pub IsWhyOf : List ℕ → Refusal → Type 0
IsWhyOf bytes why = (text : List ℕ) × AreOf bytes (Some text) × IsWhy text why
