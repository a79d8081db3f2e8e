use Rattle.script_text.proofs.CommandLines.{command-line}
use Rattle.script_text.proofs.laws.line_is_read.Goals as goal

pub returns : goal.returns
returns c = λ s x before can is. (command-line s can.named can.apart x can.within can.in_range can.fits can.values can.short).says before is
