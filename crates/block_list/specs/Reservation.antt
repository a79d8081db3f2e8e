-- Memory reserved for new elements.
use Rattle.std.specs.Prelude.{ℕ, List}

-- reserved room: how many elements the list may have when it is opened, and how many may come
pub record Reserved : Type 0 where
  pub most : ℕ
  pub more : ℕ

-- a list with room: its elements, and how many may come
pub record Growing (T : Type 0) : Type 0 where
  pub items : List T
  pub more : ℕ
