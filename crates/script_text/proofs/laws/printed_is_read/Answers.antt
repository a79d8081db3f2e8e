use Rattle.script_text.proofs.Printed.{printed-is-read}
use Rattle.script_text.proofs.laws.printed_is_read.Goals as goal

pub returns : goal.returns
returns c = printed-is-read
