use Rattle.script_text.proofs.Needed.{read-is-printable}
use Rattle.script_text.proofs.laws.read_is_printable.Goals as goal

pub returns : goal.returns
returns c = read-is-printable
