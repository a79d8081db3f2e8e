use Rattle.photo_batcher.specs.Steps.{IsGoneBack}
use Rattle.photo_batcher.proofs.batches.Plan.chain_of.Given as goal

abbrev pub invariant-loop-before : goal.invariant-loop-before
invariant-loop-before l = IsGoneBack l.self l.number l.last l.chain.items

abbrev pub decreases-loop-before : goal.decreases-loop-before
decreases-loop-before l = l.last
