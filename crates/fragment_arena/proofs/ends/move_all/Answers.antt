use Rattle.std.proofs.Common.{refl, arith}
use Rattle.fragment_arena.proofs.EndLemmas.{can-move-at, still-there, moved-one}
use Rattle.fragment_arena.proofs.ends.move_all.Goals as goal

pub overflow_sub-ends : goal.overflow_sub-ends
overflow_sub-ends c =
    let ends = c.args.ends.now in
    let can = can-move-at c.args.first c.args.at ends c.loop-i.i 0 c.requires (omega (arith, c.loop-i-test.true)) in
    omega (arith, can.0, still-there c.args.first c.args.at ends c.loop-i.ends c.loop-i.i 0 c.loop-i.invariant)

pub overflow_cast-ends-in-loop-i : goal.overflow_cast-ends-in-loop-i
overflow_cast-ends-in-loop-i c =
    let ends = c.args.ends.now in
    let can = can-move-at c.args.first c.args.at ends c.loop-i.i 0 c.requires (omega (arith, c.loop-i-test.true)) in
    record { fits = omega (arith, can.1, still-there c.args.first c.args.at ends c.loop-i.ends c.loop-i.i 0 c.loop-i.invariant) }

pub loop-i-preserved : goal.loop-i-preserved
loop-i-preserved c = moved-one c.args.first c.args.at c.args.ends.now c.loop-i.ends c.loop-i.i _ 0 (omega (arith, c.loop-i-test.true)) refl c.loop-i.invariant
