use Rattle.live_script.proofs.Behind.{back_live, comes_behind, grown_line, told_text}
use Rattle.live_script.proofs.lines.asked_line.Goals as goal

pub returns-in-Ok-told-clause-live : goal.returns-in-Ok-told-clause-live
returns-in-Ok-told-clause-live c =
    let live = c.requires.live in let text = c.args.source.now in
    let went = c.take_back.ensures.back text c.args.script.now.lines (c.in-Ok.ensures.back text live.grown) in
    let behind = comes_behind text c.in-Ok.said c.args.script.now c.push.new.self c.args.fleet.now c.script.result.now live (c.in-Ok.ensures.said text live.grown) c.script.ensures in
    back_live text c.args.script.now c.take_back.new.self c.args.fleet.now c.ask_line-told.new.fleet live went.0 went.1 (c.ask_line-told.ensures.kept behind)

pub returns-in-Ok-told-clause-told : goal.returns-in-Ok-told-clause-told
returns-in-Ok-told-clause-told c =
    let live = c.requires.live in let text = c.args.source.now in
    let behind = comes_behind text c.in-Ok.said c.args.script.now c.push.new.self c.args.fleet.now c.script.result.now live (c.in-Ok.ensures.said text live.grown) c.script.ensures in
    told_text text c.args.line.now c.in-Ok-told.text.items c.args.script.now c.push.new.self c.args.fleet.now c.script.result.now c.accepted_stays_sound.ensures live
    (grown_line c.args.script.now.lines text c.args.line.now c.push.new.self live.some (c.in-Ok.ensures.grown text live.grown)) c.script.ensures (c.in-Ok-told.ensures.told behind)

pub returns-in-Err-told-clause-live : goal.returns-in-Err-told-clause-live
returns-in-Err-told-clause-live c =
    let live = c.requires.live in let text = c.args.source.now in
    let went = c.take_back.ensures.back text c.args.script.now.lines (c.in-Ok.ensures.back text live.grown) in
    let behind = comes_behind text c.in-Ok.said c.args.script.now c.push.new.self c.args.fleet.now c.script.result.now live (c.in-Ok.ensures.said text live.grown) c.script.ensures in
    back_live text c.args.script.now c.take_back.new.self c.args.fleet.now c.ask_line-told.new.fleet live went.0 went.1 (c.ask_line-told.ensures.kept behind)
