use Rattle.std.proofs.Common.{◌+◌, ◌≤◌, length, take, arith}
use Rattle.std.proofs.lemmas.List.{length-take}
use Rattle.bounded_read.proofs.Taking.{taken_more}
use Rattle.bounded_read.proofs.whole.read_whole.Goals as goal

pub returns-then-is_err-clause-taken : goal.returns-then-is_err-clause-taken
returns-then-is_err-clause-taken g c =
    let bytes = c.loop-piece.bytes.items in
    let piece = take c.in-Ok.count c.read.new.buf in
    let cut = length-take c.in-Ok.count c.read.new.buf in
    let room = length-take c.min-room.result c.loop-piece.piece in
    let few : length bytes + length piece ≤ c.args.most + 1 = omega (arith, cut, room) in
    taken_more _ (g.R.Read.remaining c.loop-piece.reader) _ bytes piece _ c.loop-piece.invariant.read c.in-Ok.ensures.bytes.0 few
