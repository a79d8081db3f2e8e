use Rattle.std.proofs.Common.{◌≡◌, ◌+◌, ◌-◌, slice_get, Some, string_bytes, ap, ◌∙◌, arith}
use Rattle.script_text.proofs.LineTurns.{command-put}
use Rattle.script_text.proofs.text.push_commands.Goals as goal

pub loop-i-preserved : goal.loop-i-preserved
loop-i-preserved c =
    let s = c.args.script.now in
    let i = c.loop-i.i in
    let place : i ≡ i + 1 - 1 = omega arith in
    let at : slice_get s.commands i ≡ Some c.command.result.now = ap (slice_get s.commands) place ∙ c.command.ensures.command in
    let fits = c.if-not-branch.false in
    command-put s s.commands (string_bytes c.args.text.now) (string_bytes c.loop-i.text) i c.loop-i.invariant c.command.result.now at (string_bytes c.push_command.new.text)
    (c.in_ok-push_command.ensures.fits.0 fits) (c.in_ok-push_command.ensures.values fits) (c.in_ok-push_command.ensures.text fits)
