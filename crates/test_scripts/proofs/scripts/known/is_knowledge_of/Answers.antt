use Rattle.std.proofs.Common.{subst, arith}
use Rattle.item_knowledge.specs.Fragments.{nothing}
use Rattle.photo_script.specs.Reports.{IsFragmentOfScript}
use Rattle.test_scripts.proofs.Everywhere.{all_places, one_more}
use Rattle.test_scripts.proofs.scripts.known.is_knowledge_of.Goals as goal

pub loop-k-preserved : goal.loop-k-preserved
loop-k-preserved c = one_more _ c.loop-k.k c.loop-k.invariant (subst (IsFragmentOfScript c.args.script.now) c.fragment.ensures (c.is_fragment_of.ensures c.if-not-is_fragment_of.false))

pub returns : goal.returns
returns c = λ _. all_places _ c.args.knowledge.now.known nothing (λ k h. c.loop-k.invariant k (omega arith))
