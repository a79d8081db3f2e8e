use Rattle.script_reader.proofs.Grown.{taken_none}
use Rattle.script_reader.proofs.growing.GrowingScript.new.Goals as goal

pub returns-clause-grown : goal.returns-clause-grown
returns-clause-grown c = taken_none _ c.new.ensures
