use Rattle.std.proofs.Common.{◌≡◌, ◌+◌, ◌∙◌, [], ap, arith, append-nil}
use Rattle.std.proofs.lemmas.Grind.{common_steps}
use Rattle.block_list.specs.Blocks.{joined, start_of}
use Rattle.block_list.specs.Reservation.{Growing}
use Rattle.block_list.proofs.Turn.{replaced}
use Rattle.block_list.proofs.reservation.GrowingList.insert_behind.Goals as goal

pub returns-then-not-is_empty-clause-list : goal.returns-then-not-is_empty-clause-list
returns-then-not-is_empty-clause-list g c = λ p h parts.
    let none : c.self.inside.whole.items ≡ [] = grind (arith, common_steps) in
    let is : joined c.deref.result.now ≡ c.args.self.now.items = ap joined c.deref.ensures.value ∙ (rw none at (ap (λ (r : Growing g.row.T.Denot). r.items) c.self.view_is)) in
    let (block, place) = c.spot_of-block.result in
    let i = start_of c.deref.result.now block + place in
    rw none (replaced p p _ _ _ i i c.args.item is (omega arith) c.spot_of-block.ensures.bound parts parts (c.spot_of-block.ensures.partitioned p h) (λ parted point. point) (rw (← c.deref.ensures.value) at c.place_in.ensures.list))

pub returns-clause-list : goal.returns-clause-list
returns-clause-list g c = λ p h parts.
    let is : c.deref-2.result.now ≡ c.args.self.now.items = c.deref-2.ensures.value ∙ c.gather.ensures.items ∙ ap (λ (r : Growing g.row.T.Denot). r.items) c.self.view_is in
    let i = c.partition_point-place.result in
    rw (c.gather.ensures.none, append-nil) (replaced p p _ _ _ i i c.args.item is (omega arith) c.partition_point-place.ensures.bound parts parts (c.partition_point-place.ensures.partitioned p h) (λ parted point. point) (rw (← c.deref-2.ensures.value) at c.place_within.ensures.items))
