use Rattle.std.proofs.Common.{arith}
use Rattle.script_reader.specs.Steps.{seen}
use Rattle.script_reader.proofs.Arguments.{field, texts-five}
use Rattle.script_reader.proofs.Changing.{edit_line-edition}
use Rattle.script_reader.proofs.reader.Reader.read_edit.Goals as goal

pub returns : goal.returns
returns c =
    let at = field c.args.arguments.now in
    rw (texts-five c.args.arguments.now (omega arith), edit_line-edition (seen c.args.self.now) (at 0) (at 1) (at 2) (at 3) (at 4)) c.edit.ensures
