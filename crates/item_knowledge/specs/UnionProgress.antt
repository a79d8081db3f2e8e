-- Machinery of the proofs: what holds while a union is written.
use Rattle.std.specs.Prelude.{◌≡◌, ℕ, ◌*◌, ◌≤◌, List, [], ◌++◌, length}
use Rattle.fragment_arena.specs.Arena.{run}
use Rattle.item_knowledge.specs.DistinctUnion.{singles, spread_of, IsSpread}
use Rattle.item_knowledge.specs.Entries.{Entry}
use Rattle.item_knowledge.specs.Excess.{union_vector}
use Rattle.item_knowledge.specs.Fragments.{Fragment}
use Rattle.item_knowledge.specs.declared.pair_cursor.PairCursor.{PairCursor}
use Rattle.item_knowledge.specs.PairCursor.{left_of}
use Rattle.item_knowledge.specs.Rows.{fragments_of}

-- a union that is written in part: the written fragments, then a run of the left's that is still to be written, then the rest
pub record IsWrittenUpTo (left right : List (List ℕ)) (xs ys : List (ℕ × ℕ)) (star : List Entry) (out : List (List ℕ)) (index joined : List (ℕ × ℕ)) (at : PairCursor) (from to : ℕ) : Type 0 where
  pub gs : List Fragment
  pub rest : gs ++ singles [] (union_vector star (fragments_of left) (fragments_of right)) (left_of at xs ys) ≡ spread_of star (fragments_of left) (fragments_of right) xs ys
  pub spread : IsSpread left gs (out ++ run left (2 * from) (2 * to)) index joined
  pub order : from ≤ to
  pub there : to ≤ length (fragments_of left)
