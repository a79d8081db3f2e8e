use Rattle.std.proofs.Common.{◌++◌, refl, ap, sym, ◌∙◌, append-nil}
use Rattle.item_knowledge.specs.Entries.{is_vector}
use Rattle.item_knowledge.specs.Fragments.{Fragment}
use Rattle.item_knowledge.specs.TableRows.{entries_of}
use Rattle.item_knowledge.proofs.JoinLemmas.{lent_vector}
use Rattle.item_knowledge.proofs.TableRowLemmas.{bounds_vector}
use Rattle.item_knowledge.proofs.fragment.Fragment.vector.Goals as goal

pub from_entries-requires : goal.from_entries-requires
from_entries-requires c =
    let all = ap (λ es. entries_of c.loop-bound.bounds.items ++ es) (sym (c.in_default.ensures.none refl)) ∙ c.loop-bound.invariant.rest in
    bounds_vector c.loop-bound.bounds.items (ap is_vector (sym (append-nil (entries_of c.loop-bound.bounds.items)) ∙ all ∙ ap (λ (f : Fragment). f.entries) (sym c.self.view_is)) ∙ lent_vector c.self.inside.row.now c.self.inside.star.now c.self.invariant)
