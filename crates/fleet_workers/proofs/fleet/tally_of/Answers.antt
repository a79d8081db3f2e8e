use Rattle.std.proofs.Common.{arith}
use Rattle.fleet_workers.proofs.Opened.{countable}
use Rattle.fleet_workers.proofs.fleet.tally_of.Goals as goal

pub returns-clause-countable : goal.returns-clause-countable
returns-clause-countable c =
    let count = c.commands-commands.ensures.count in
    let most = c.commands-commands.ensures.at_most in
    countable c.args.script.now c.tally.result (omega (arith, count, most)) c.tally.ensures
