-- Lists in blocks.
use Rattle.std.specs.Prelude.{◌≡◌, ℕ, ◌+◌, ◌<◌, ◌≤◌, Bool, true, false, Option, Some, None, List, ◌∷◌, ◌++◌, length, take, drop, slice_index_or, Vec}
use Rattle.std.specs.List.{flat_map, All}
use Rattle.std.specs.List.Sorted.{IsPartitionPoint}
use Rattle.std.specs.declared.alloc.Global.{Global}

module _ {T : Type 0} where
  -- the blocks joined
  abbrev pub joined : List (Vec T Global) → List T
  joined blocks = flat_map (λ block. block.items) blocks

  abbrev pub IsFilled : Vec T Global → Type 0
  IsFilled block = 0 < length block.items

  -- no block is empty
  abbrev pub AreFilled : List (Vec T Global) → Type 0
  AreFilled blocks = All IsFilled blocks

  -- what a list in blocks keeps: its blocks, none of them empty, and how many elements they have
  pub record IsKept (blocks : List (Vec T Global)) (len : ℕ) : Type 0 where
    pub filled : AreFilled blocks
    pub len_is : len ≡ length (joined blocks)

  -- how many elements stand before block b
  abbrev pub start_of : List (Vec T Global) → ℕ → ℕ
  start_of blocks b = length (joined (take b blocks))

  -- n elements of block b stand from its place k on; k may be behind the last
  pub record IsAt (blocks : List (Vec T Global)) (b k n : ℕ) : Type 0 where
    pub block : b < length blocks
    pub within : (d : Vec T Global) → k + n ≤ length (slice_index_or blocks b d).items

  -- there is an element, and it passes p
  abbrev pub passes : (T → Bool) → Option T → Bool
  passes p None = false
  passes p (Some x) = p x

  -- the elements that fail p and pass q stand from the first place to before the second
  pub record AreBetween (p q : T → Bool) (xs : List T) (from to : ℕ) : Type 0 where
    pub order : from ≤ to
    pub within : to ≤ length xs
    pub first : IsPartitionPoint (λ y. p y ≡ true) (λ y. p y ≡ false) xs from
    pub last : IsPartitionPoint (λ y. q y ≡ true) (λ y. q y ≡ false) xs to

  -- x stands in place of the elements that fail p and pass q
  pub record IsReplaced (p q : T → Bool) (old : List T) (x : T) (new : List T) : Type 0 where
    pub from : ℕ
    pub to : ℕ
    pub between : AreBetween p q old from to
    pub list : new ≡ take from old ++ x ∷ drop to old
