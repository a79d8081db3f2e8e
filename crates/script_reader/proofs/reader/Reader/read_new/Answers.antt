use Rattle.std.proofs.Common.{arith}
use Rattle.script_reader.specs.Steps.{seen}
use Rattle.script_reader.proofs.Arguments.{field, texts-five}
use Rattle.script_reader.proofs.Taking.{new_line-creation}
use Rattle.script_reader.proofs.reader.Reader.read_new.Goals as goal

pub returns : goal.returns
returns c =
    let at = field c.args.arguments.now in
    rw (texts-five c.args.arguments.now (omega arith), new_line-creation (seen c.args.self.now) (at 0) (at 1) (at 2) (at 3) (at 4)) c.create.ensures
