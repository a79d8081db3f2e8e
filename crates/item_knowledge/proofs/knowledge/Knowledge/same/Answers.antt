use Rattle.std.proofs.Common.{◌≡◌, true, sym, subst, ap, ◌∙◌}
use Rattle.std.specs.Cmp.{both_ways}
use Rattle.item_knowledge.specs.Fragments.{knows, is_normal}
use Rattle.item_knowledge.proofs.FragmentLemmas.{one_normal}
use Rattle.item_knowledge.proofs.StagedLemmas.{known_of}
use Rattle.item_knowledge.proofs.knowledge.Knowledge.same.Goals as goal

pub returns-then-has_all-clause-value : goal.returns-then-has_all-clause-value
returns-then-has_all-clause-value c = (
  λ yes. one_normal c.args.self.now.known c.args.other.now.known
      (subst (λ hs. is_normal hs ≡ true) (known_of c.self.view_is) c.self.invariant.kept.normal)
      (subst (λ hs. is_normal hs ≡ true) (known_of c.other.view_is) c.other.invariant.kept.normal)
      (λ p v z. both_ways _ _ (c.has_all-then-has_all.ensures.0 yes p v z) (c.has_all.ensures.0 c.if-has_all.true p v z)),
  λ e. c.has_all-then-has_all.ensures.1 (λ p v z k. sym (ap (λ hs. knows hs p v) e) ∙ k),
)

pub returns-then-has_all-clause-pairs : goal.returns-then-has_all-clause-pairs
returns-then-has_all-clause-pairs c = (
  λ yes p v z. both_ways _ _ (c.has_all-then-has_all.ensures.0 yes p v z) (c.has_all.ensures.0 c.if-has_all.true p v z),
  λ all. c.has_all-then-has_all.ensures.1 (λ p v z k. sym (all p v z) ∙ k),
)
