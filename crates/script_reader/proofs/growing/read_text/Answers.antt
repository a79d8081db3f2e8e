use Rattle.std.proofs.Common.{◌∙◌}
use Rattle.script_reader.proofs.Whole.{script_of-text}
use Rattle.script_reader.proofs.Grown.{taken_text}
use Rattle.script_reader.proofs.growing.read_text.Goals as goal

pub returns-in-Ok-clause-grown : goal.returns-in-Ok-clause-grown
returns-in-Ok-clause-grown c = taken_text c.args.text.now c.read_pieces.new.self c.in-Ok.lines c.requires c.utf8.text c.in-Ok.ensures.count c.in-Ok.ensures.taken c.in-Ok.ensures.read

pub returns-in-Err-clause-refused : goal.returns-in-Err-clause-refused
returns-in-Err-clause-refused c = λ other. script_of-text c.args.text.now c.requires c.utf8.text ∙ c.in-Err.ensures.refused other
