-- Removal of one element from a list.
use Rattle.std.specs.Prelude.{◌≡◌, ℕ, ◌+◌, ◌<◌, Bool, true, List, ◌++◌, length, take, drop, slice_get, Some}

module _ {T : Type 0} where
  -- x passes p and stood in the old list; the others stay, in their order
  pub record IsTakenOut (p : T → Bool) (old : List T) (x : T) (new : List T) : Type 0 where
    pub place : ℕ
    pub within : place < length old
    pub at : slice_get old place ≡ Some x
    pub passes : p x ≡ true
    pub rest : new ≡ take place old ++ drop (place + 1) old
