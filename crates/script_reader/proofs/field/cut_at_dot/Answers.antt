use Rattle.script_reader.proofs.Cuts.{dot-found}
use Rattle.script_reader.proofs.field.cut_at_dot.Goals as goal

pub returns : goal.returns
returns c = dot-found c.args.text.now c.split_once.result c.split_once.ensures.cases
