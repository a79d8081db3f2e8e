-- Machinery of the proofs: the union of two operands beyond its star, as the code writes it.
use Rattle.std.specs.Prelude.{◌≡◌, ℕ, suc, ◌<◌, true, List, [], length}
use Rattle.item_knowledge.specs.Tables.{at}
use Rattle.item_knowledge.specs.Entries.{Entry}
use Rattle.item_knowledge.specs.Excess.{union_vector}
use Rattle.item_knowledge.specs.Fragments.{Fragment, is_normal, known, entries_at}
use Rattle.item_knowledge.specs.Gathering.{IsIndex, paired, table_of}
use Rattle.item_knowledge.specs.Rows.{rows_of}

-- what the union of two operands has beyond its star: a normal form with its index. Each picture has there the join of its two
-- fragments, and each fragment has the vector of some picture
pub record IsBeyond (star : List Entry) (fs : List Fragment) (xs : List (ℕ × ℕ)) (gs : List Fragment) (ys : List (ℕ × ℕ)) (us : List Fragment) (zs : List (ℕ × ℕ)) : Type 0 where
  pub first : entries_at us 0 ≡ []
  pub normal : is_normal us ≡ true
  pub index : IsIndex zs us
  pub vectors : (p : ℕ) → known us p ≡ union_vector star fs gs (at 0 xs p, at 0 ys p)
  pub named : (k : ℕ) → suc k < length us → (p : ℕ) × (entries_at us (suc k) ≡ union_vector star fs gs (at 0 xs p, at 0 ys p))

-- the rows are those of what the union has beyond its star
pub record IsWritten (star : List Entry) (fs : List Fragment) (xs : List (ℕ × ℕ)) (gs : List Fragment) (ys : List (ℕ × ℕ)) (out : List (List ℕ)) (index : List (ℕ × ℕ)) : Type 0 where
  pub us : List Fragment
  pub rows : out ≡ rows_of us
  pub union : IsBeyond star fs xs gs ys us index

-- the pictures of two operands with their vectors in the union, beyond its star
abbrev pub union_table : List Entry → List Fragment → List Fragment → List (ℕ × ℕ) → List (ℕ × ℕ) → List (ℕ × List Entry)
union_table star fs gs xs ys = table_of [] (union_vector star fs gs) (paired xs ys)
