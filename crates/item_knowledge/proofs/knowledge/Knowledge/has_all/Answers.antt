use Rattle.std.proofs.Common.{◌≡◌, sym, ap, ◌∙◌}
use Rattle.item_knowledge.specs.Fragments.{knows}
use Rattle.item_knowledge.specs.Rows.{fragments_of}
use Rattle.item_knowledge.specs.Kept.{is_operand_within}
use Rattle.item_knowledge.proofs.KeptLemmas.{within_pairs}
use Rattle.item_knowledge.proofs.StagedLemmas.{known_of}
use Rattle.item_knowledge.proofs.knowledge.Knowledge.has_all.Goals as goal

pub returns : goal.returns
returns c =
    let is : c.is_within.result ≡ is_operand_within (fragments_of c.other.inside.live) c.other.inside.index.items (fragments_of c.self.inside.live) c.self.inside.index.items =
    c.is_within.ensures ∙ (λ i. is_operand_within (fragments_of c.other.inside.live) (c.deref.ensures.value i) (fragments_of c.self.inside.live) (c.deref-2.ensures.value i)) in
    let both = within_pairs c.self.inside.live c.other.inside.live c.self.inside.index.items c.other.inside.index.items c.self.invariant.kept c.other.invariant.kept in (
      λ yes_within p v z k. sym (ap (λ fs. knows fs p v) (known_of c.self.view_is)) ∙ both.0 (sym is ∙ yes_within) p v z (ap (λ fs. knows fs p v) (known_of c.other.view_is) ∙ k),
      λ all. is ∙ both.1 (λ p v z k. ap (λ fs. knows fs p v) (known_of c.self.view_is) ∙ all p v z (sym (ap (λ fs. knows fs p v) (known_of c.other.view_is)) ∙ k)),
    )
