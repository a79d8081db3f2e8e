use Rattle.script_reader.proofs.Numbers.{picture-is}
use Rattle.script_reader.proofs.field.picture_of.Goals as goal

pub returns : goal.returns
returns c = picture-is c.args.text.now _ c.new.result c.in_ok-number_of.ensures.0.0 c.in_ok-number_of.ensures.1 c.new.ensures
