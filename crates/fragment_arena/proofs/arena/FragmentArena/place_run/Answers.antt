use Rattle.std.proofs.Common.{◌≤◌, arith}
use Rattle.fragment_arena.proofs.RunLemmas.{many-placed}
use Rattle.fragment_arena.proofs.arena.FragmentArena.place_run.Goals as goal

pub loop-place-preserved : goal.loop-place-preserved
loop-place-preserved c =
    let end = c.place_stretch-place.result in
    let new = c.place_stretch-place.new.self in
    let low : c.args.from ≤ end = omega (arith, c.loop-place.invariant.0, c.place_stretch-place.ensures.further) in (
      low,
      c.place_stretch-place.ensures.there,
      many-placed c.args.other.now.rows c.args.from c.args.to c.loop-place.place end c.args.self.now.rows c.loop-place.self.rows new.rows c.args.self.now.reserved_words c.loop-place.self.reserved_words new.reserved_words
          c.args.self.now.reserved_rows c.loop-place.self.reserved_rows new.reserved_rows c.loop-place.invariant.0 c.place_stretch-place.ensures.further c.place_stretch-place.ensures.there
          c.place_stretch-place.ensures.rows c.place_stretch-place.ensures.words c.place_stretch-place.ensures.slots c.loop-place.invariant.2,
    )
