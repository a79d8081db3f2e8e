use Rattle.std.proofs.Common.{◌≡◌, arith, subst, sym}
use Rattle.std.proofs.lemmas.Grind.{common_steps}
use Rattle.std.proofs.lemmas.Bool.{OnFalse_at, OnTrue_at, not-false, not-true}
use Rattle.live_script.specs.Live.{IsLive, with_line}
use Rattle.live_script.proofs.Behind.{back_live, comes_behind, grown_line, some_lines, taken_live, told_text}
use Rattle.live_script.proofs.lines.given_line.Goals as goal

pub returns-then-is_err-clause-live : goal.returns-then-is_err-clause-live
returns-then-is_err-clause-live c =
    let live = c.requires.live in let text = c.args.source.now.items in
    let went = c.take_back.ensures.back text c.args.script.now.lines (c.in-Ok.ensures.back text live.grown) in
    subst (λ t. IsLive t c.take_back.new.self c.args.fleet.now) (sym c.reserve.ensures.items)
    (back_live text c.args.script.now c.take_back.new.self c.args.fleet.now c.args.fleet.now live went.0 went.1 live.shown)

pub returns-then-not-told-clause-live : goal.returns-then-not-told-clause-live
returns-then-not-told-clause-live c =
    let live = c.requires.live in let text = c.args.source.now.items in
    let behind = comes_behind text c.in-Ok.said c.args.script.now c.push.new.self c.args.fleet.now c.script.result.now live (c.in-Ok.ensures.said text live.grown) c.script.ensures in
    let went = c.take_back-then-not-told.ensures.back text c.args.script.now.lines (c.in-Ok.ensures.back text live.grown) in
    subst (λ t. IsLive t c.take_back-then-not-told.new.self c.run_line.new.fleet) (sym c.reserve.ensures.items)
    (back_live text c.args.script.now c.take_back-then-not-told.new.self c.args.fleet.now c.run_line.new.fleet live went.0 went.1 (OnFalse_at (not-true _ c.if-not-told.true) c.in-Ok-run_line.ensures.left behind))

pub returns-then-not-told-clause-told : goal.returns-then-not-told-clause-told
returns-then-not-told-clause-told c =
    let live = c.requires.live in let text = c.args.source.now.items in
    let behind = comes_behind text c.in-Ok.said c.args.script.now c.push.new.self c.args.fleet.now c.script.result.now live (c.in-Ok.ensures.said text live.grown) c.script.ensures in
    told_text text c.args.line.now c.in-Ok-run_line.told.text.items c.args.script.now c.push.new.self c.args.fleet.now c.script.result.now c.accepted_stays_sound.ensures live
    (grown_line c.args.script.now.lines text c.args.line.now c.push.new.self live.some (c.in-Ok.ensures.grown text live.grown)) c.script.ensures (c.in-Ok-run_line.ensures.told behind)

pub returns-else-not-told-clause-live : goal.returns-else-not-told-clause-live
returns-else-not-told-clause-live c =
    let live = c.requires.live in let text = c.args.source.now.items in
    let is : c.extend_from_slice-has_room.new.self.items ≡ with_line text c.args.line.now = grind (arith, common_steps) in
    subst (λ t. IsLive t c.push.new.self c.run_line.new.fleet) (sym is)
    (taken_live (with_line text c.args.line.now) c.push.new.self c.run_line.new.fleet c.script.result.now (grown_line c.args.script.now.lines text c.args.line.now c.push.new.self live.some (c.in-Ok.ensures.grown text live.grown))
    (some_lines c.args.script.now.lines text c.args.line.now c.push.new.self live.some (c.in-Ok.ensures.grown text live.grown)) c.script.ensures c.in-Ok-run_line.ensures.answered
    (OnTrue_at (not-false _ c.if-not-told.false) c.in-Ok-run_line.ensures.taken))

pub returns-else-not-told-clause-told : goal.returns-else-not-told-clause-told
returns-else-not-told-clause-told c =
    let live = c.requires.live in let text = c.args.source.now.items in
    let behind = comes_behind text c.in-Ok.said c.args.script.now c.push.new.self c.args.fleet.now c.script.result.now live (c.in-Ok.ensures.said text live.grown) c.script.ensures in
    told_text text c.args.line.now c.in-Ok-run_line.told.text.items c.args.script.now c.push.new.self c.args.fleet.now c.script.result.now c.accepted_stays_sound.ensures live
    (grown_line c.args.script.now.lines text c.args.line.now c.push.new.self live.some (c.in-Ok.ensures.grown text live.grown)) c.script.ensures (c.in-Ok-run_line.ensures.told behind)

pub returns-in-Err-run_line-clause-live : goal.returns-in-Err-run_line-clause-live
returns-in-Err-run_line-clause-live c =
    let live = c.requires.live in let text = c.args.source.now.items in
    let behind = comes_behind text c.in-Ok.said c.args.script.now c.push.new.self c.args.fleet.now c.script.result.now live (c.in-Ok.ensures.said text live.grown) c.script.ensures in
    let went = c.take_back-in-Err-run_line.ensures.back text c.args.script.now.lines (c.in-Ok.ensures.back text live.grown) in
    subst (λ t. IsLive t c.take_back-in-Err-run_line.new.self c.run_line.new.fleet) (sym c.reserve.ensures.items)
    (back_live text c.args.script.now c.take_back-in-Err-run_line.new.self c.args.fleet.now c.run_line.new.fleet live went.0 went.1 (c.in-Err-run_line.ensures.kept behind))
