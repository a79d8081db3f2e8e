use Rattle.std.proofs.Common.{◌<◌, [], length, arith}
use Rattle.std.proofs.lemmas.Grind.{common_steps}
use Rattle.item_knowledge.specs.VectorIndex.{vectors_at}
use Rattle.item_knowledge.proofs.MergeLemmas.{drop_next}
use Rattle.item_knowledge.proofs.union.write.Goals as goal

pub loop-k-preserved : goal.loop-k-preserved
loop-k-preserved c =
    let k = c.loop-k.k in
    let rows = vectors_at c.args.vectors.now c.args.by_vector.now.numbers.items in
    let less : k < length c.args.groups.now = omega arith in
    let inside : k < length rows = omega (arith, less, c.requires.counted) in
    record { rest = grind (arith, common_steps, drop_next c.args.groups.now k c.index-groups-k.result less, drop_next rows k [] inside, c.requires.whole k inside, c.in_ok-place.ensures, c.in_ok-place-2.ensures.placed, c.loop-k.invariant.rest) }
