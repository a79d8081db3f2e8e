use Rattle.std.proofs.Common.{string_bytes, sym, ◌∙◌}
use Rattle.std.proofs.lemmas.Bool.{false≢true}
use Rattle.script_text.specs.Parts.{FitsDevice}
use Rattle.script_text.proofs.LineTurns.{device-put, device-refused}
use Rattle.script_text.proofs.text.push_devices.Goals as goal

pub returns-then-not-branch-clause-fit : goal.returns-then-not-branch-clause-fit
returns-then-not-branch-clause-fit c =
    let s = c.args.script.now in
    let bad = λ (fits : FitsDevice c.name.result.now c.filter.result.now). false≢true (sym c.if-not-branch.true ∙ c.in_ok-push_device.ensures.fits.1 fits) in
    (λ t. absurd (false≢true t), λ all. absurd (device-refused s.names s.filters (string_bytes c.args.text.now) (string_bytes c.loop-i.text) c.loop-i.i c.loop-i.invariant c.name.result.now c.filter.result.now c.name.ensures c.filter.ensures bad all))

pub loop-i-preserved : goal.loop-i-preserved
loop-i-preserved c =
    let s = c.args.script.now in
    let fits = c.if-not-branch.false in
    device-put s.names s.filters (string_bytes c.args.text.now) (string_bytes c.loop-i.text) c.loop-i.i c.loop-i.invariant c.name.result.now c.filter.result.now c.name.ensures c.filter.ensures (string_bytes c.push_device.new.text)
    (c.in_ok-push_device.ensures.fits.0 fits) (c.in_ok-push_device.ensures.text fits)
