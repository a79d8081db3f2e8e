use Rattle.std.proofs.Common.{Err, ap}
use Rattle.fleet_runner.proofs.Sources.{refused-source}
use Rattle.fleet_runner.proofs.source.read_source.Goals as goal

pub returns-in-Err-clause-refused : goal.returns-in-Err-clause-refused
returns-in-Err-clause-refused g c =
    refused-source (g.R.Read.remaining c.args.reader.now) c.fault_of.result c.fault_of.ensures.none (λ e. c.in-Err.ensures.large (ap Err (c.fault_of.ensures.large e)))
