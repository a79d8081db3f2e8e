use Rattle.script_reader.proofs.Cuts.{cut-found}
use Rattle.script_reader.proofs.field.cut_at_colon.Goals as goal

pub returns : goal.returns
returns c = cut-found c.args.text.now c.split_once.result c.split_once.ensures.cases
