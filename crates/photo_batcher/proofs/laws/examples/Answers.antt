use Rattle.photo_batcher.proofs.WorkedExamples.{four_batches, four_in_order, named_in_a_version, nothing_planned}
use Rattle.photo_batcher.proofs.laws.examples.Goals as goal

pub returns-clause-four_batches : goal.returns-clause-four_batches
returns-clause-four_batches c = four_batches

pub returns-clause-four_in_order : goal.returns-clause-four_in_order
returns-clause-four_in_order c = four_in_order

pub returns-clause-named_in_a_version : goal.returns-clause-named_in_a_version
returns-clause-named_in_a_version c = named_in_a_version

pub returns-clause-nothing_planned : goal.returns-clause-nothing_planned
returns-clause-nothing_planned c = nothing_planned
