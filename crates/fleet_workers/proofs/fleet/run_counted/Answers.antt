use Rattle.std.proofs.Common.{◌∙◌, ap}
use Rattle.fleet_model.specs.Tallies.{tally_of}
use Rattle.fleet_workers.proofs.fleet.run_counted.Goals as goal

pub open-requires-clause-tally : goal.open-requires-clause-tally
open-requires-clause-tally g c = c.tally_of.ensures.tally ∙ ap tally_of c.deref.ensures ∙ c.requires.tally
