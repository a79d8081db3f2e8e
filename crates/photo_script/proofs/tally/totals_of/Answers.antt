use Rattle.std.proofs.Common.{◌∙◌}
use Rattle.fleet_model.specs.Runs.{reports_of}
use Rattle.photo_script.proofs.Counted.{moved_as_all_told}
use Rattle.photo_script.proofs.tally.totals_of.Goals as goal

pub returns : goal.returns
returns c fleet told =
    let moved = c.moved_by.ensures ∙ moved_as_all_told _ (reports_of fleet) told in
    rw (c.tally-tally.ensures, moved)
