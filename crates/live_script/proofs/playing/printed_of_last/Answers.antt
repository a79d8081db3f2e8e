use Rattle.live_script.proofs.Played.{with_fleet}
use Rattle.live_script.proofs.playing.printed_of_last.Goals as goal

pub returns-then-is_still-clause-still : goal.returns-then-is_still-clause-still
returns-then-is_still-clause-still c = λ asks b. c.text_of_last.ensures.still asks (with_fleet c.args.slot.now c.make_ready.new.slot c.in-Some.fleet c.args.script.now b (c.in_ok-make_ready.ensures.kept b) c.in-Some.is)

pub returns-then-is_still-clause-kept : goal.returns-then-is_still-clause-kept
returns-then-is_still-clause-kept c = λ b. c.text_of_last.ensures.still c.if-is_still.ensures (with_fleet c.args.slot.now c.make_ready.new.slot c.in-Some.fleet c.args.script.now b (c.in_ok-make_ready.ensures.kept b) c.in-Some.is)

pub returns-in-Ok-clause-told : goal.returns-in-Ok-clause-told
returns-in-Ok-clause-told c = λ b. c.in-Ok.ensures.told (with_fleet c.args.slot.now c.make_ready.new.slot c.in-Some.fleet c.args.script.now b (c.in_ok-make_ready.ensures.kept b) c.in-Some.is)

pub returns-in-Ok-clause-still : goal.returns-in-Ok-clause-still
returns-in-Ok-clause-still c = λ asks b. c.text_of_last.ensures.still asks (with_fleet c.args.slot.now c.make_ready.new.slot c.in-Some.fleet c.args.script.now b (c.in_ok-make_ready.ensures.kept b) c.in-Some.is)
