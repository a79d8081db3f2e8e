-- Sessions: the lines that were given, and what their run prints.
use Rattle.std.specs.Prelude.{◌≡◌, ◌⊎◌, ◌↔◌, ℕ, List, ◌∷◌, ◌++◌, Option, Some, None}
use Rattle.live_script.specs.Live.{IsTold}
use Rattle.live_script.specs.Printed.{IsPrinted}
use Rattle.live_script.specs.Refused.{IsScript}
use Rattle.photofleet_c.specs.declared.session.Session.{Session}
use Rattle.photofleet_c.specs.Placed.{HasNoRoom, IsUntouched}
use Rattle.photofleet_c.specs.Refused.{TellsFault, TellsWant}
use Rattle.photofleet_c.specs.Statuses.{IsLineStatus}

-- the session has these bytes, which are a script, and its run prints `output`
pub record Has (bytes : List ℕ) (s : Session) : Type 0 where
  pub source : s.live ≡ bytes
  pub output : List ℕ
  pub printed : IsPrinted bytes output

-- the session's bytes with an LF and a further line
abbrev pub with_line : Session → List ℕ → List ℕ
with_line s line = s.live ++ 10 ∷ line

-- the next session has one more line, and the text is that line's output: what the run of all lines prints after what the run of
-- the lines before it prints
pub record IsStepOf (session : Session) (line : List ℕ) (next : Session) (text : List ℕ) : Type 0 where
  pub has : Has (with_line session line) next
  pub tells : IsTold session.live (with_line session line) text

-- a session was kept, and this is a step of it
pub record IsStep (kept : Option Session) (line : List ℕ) (next : Session) (text : List ℕ) : Type 0 where
  pub session : Session
  pub was : kept ≡ Some session
  pub step : IsStepOf session line next text

-- what a call tells of a line that isn't taken: the fault of all lines, want of memory, or an output that has no room
pub record TellsNoStep (session : Session) (line old new : List ℕ) (written status : ℕ) : Type 0 where
  pub which : (status ≡ 3) ⊎ ((status ≡ 4) ⊎ (status ≡ 5))
  pub fault : status ≡ 3 → TellsFault (with_line session line) old new written
  pub want : status ≡ 4 → IsScript (with_line session line) × TellsWant old new written
  pub small : status ≡ 5 → (next : Session) × (text : List ℕ) × IsStepOf session line next text × HasNoRoom old new written text

-- what a call with a line tells by its status
pub record TellsLine (kept : Option Session) (line old new : List ℕ) (written status : ℕ) : Type 0 where
  pub which : IsLineStatus status
  -- 2: just where none is kept; nothing is told
  pub closed : (status ≡ 2) ↔ (kept ≡ None)
  pub untouched : status ≡ 2 → IsUntouched old new written
  -- 3: the session's lines and this one have a fault
  pub fault : status ≡ 3 → (session : Session) × (kept ≡ Some session) × TellsFault (with_line session line) old new written
  -- 4: the session's lines and this one are a script, and memory was refused
  pub want : status ≡ 4 → (session : Session) × (kept ≡ Some session) × IsScript (with_line session line) × TellsWant old new written
  -- 5: the text that would be told has no room
  pub small : status ≡ 5 → (next : Session) × (text : List ℕ) × IsStep kept line next text × HasNoRoom old new written text
