use Rattle.std.proofs.Common.{◌≡◌, ℕ, ◌<◌, drop, length, get_or}
use Rattle.std.specs.List.{list_all}
use Rattle.item_knowledge.specs.Entries.{leq}
use Rattle.item_knowledge.specs.Fragments.{entries_at}
use Rattle.item_knowledge.specs.Gathering.{vector_of}
use Rattle.item_knowledge.specs.Rows.{fragments_of}
use Rattle.item_knowledge.specs.Searching.{IsUpTo}
use Rattle.item_knowledge.proofs.knowledge_rows.is_within.Given as goal

abbrev pub invariant-loop-i : goal.invariant-loop-i
invariant-loop-i l =
    let test = λ (r : ℕ × ℕ). leq (entries_at (fragments_of l.rows) r.1) (vector_of (fragments_of l.others) l.others_index r.0) in
    record {
      rest : list_all test (drop l.i l.index) ≡ list_all test l.index;
      place : l.i < length l.index → IsUpTo (get_or l.index l.i (0, 0)).0 l.others_index l.place;
    }
