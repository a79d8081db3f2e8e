use Rattle.std.proofs.Common.{◌≡◌, subst}
use Rattle.std.specs.Prelude.{Ok}
use Rattle.fleet_model.specs.Contents.{Contents}
use Rattle.script_reader.specs.Growing.{script_in}
use Rattle.script_reader.specs.Reading.{script_of}
use Rattle.live_script.specs.Live.{IsLonger, with_line}
use Rattle.live_script.proofs.Others.{told_lines}
use Rattle.live_script.proofs.several.with_lines.Goals as goal

pub returns-in-Ok-begun_behind-clause-told : goal.returns-in-Ok-begun_behind-clause-told
returns-in-Ok-begun_behind-clause-told c =
    let printed = c.text.ensures.printed.1 in
    let new = script_in c.in-Ok.script in
    let same = c.text.ensures.text in
    let read = subst (λ t. script_of (with_line t c.args.lines.now) ≡ Ok new) same c.in-Ok.ensures.grown.read in
    let longer = subst (λ t. (old : Contents) → script_of t ≡ Ok old → IsLonger old new) same c.in-Ok.ensures.longer printed.script printed.read in
    told_lines c.args.live.now (with_line c.args.live.now c.args.lines.now) _ _ new c.accepted_stays_sound.ensures printed read longer (c.in-Ok-begun_behind.ensures.told printed.script printed.read)
