use Rattle.std.proofs.Common.{ℕ, ◌<◌, get_or}
use Rattle.item_knowledge.specs.Fragments.{nothing}
use Rattle.photo_script.specs.Reports.{IsFragmentOfScript}
use Rattle.test_scripts.proofs.scripts.known.is_knowledge_of.Given as goal

abbrev pub invariant-loop-k : goal.invariant-loop-k
invariant-loop-k l = (k : ℕ) → k < l.k → IsFragmentOfScript l.script (get_or l.knowledge.known k nothing)
