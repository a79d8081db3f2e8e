-- Machinery of the proofs: the blocks that are there before elements come.
use Rattle.std.specs.Prelude.{◌≡◌, ℕ, ◌+◌, ◌^◌, ◌<◌, ◌≤◌, List, [], ◌++◌, length, Vec, vec_capacity}
use Rattle.std.specs.List.{All}
use Rattle.std.specs.declared.alloc.Global.{Global}
use Rattle.block_list.specs.Blocks.{joined, AreFilled}

module _ {T : Type 0} where
  -- an empty block with room
  pub record IsSpare (block : Vec T Global) : Type 0 where
    pub empty : block.items ≡ []
    pub room : 0 < vec_capacity block

  -- spare blocks, and one block with room for all elements
  pub record HasRoom (spare : Vec (Vec T Global) Global) (whole : Vec T Global) (all : ℕ) : Type 0 where
    pub spares : All IsSpare spare.items
    pub place : 0 < vec_capacity spare
    pub room : all ≤ vec_capacity whole
    pub fits : all < 2 ^ 64

  -- the elements are in blocks, or all in the one block, and there is room for those that may come
  pub record IsGrowingList (blocks : List (Vec T Global)) (spare : Vec (Vec T Global) Global) (whole : Vec T Global) (len more : ℕ) : Type 0 where
    pub filled : AreFilled blocks
    pub len_is : len ≡ length (whole.items ++ joined blocks)
    pub apart : 0 < length whole.items → blocks ≡ []
    pub room : HasRoom spare whole (len + more)
