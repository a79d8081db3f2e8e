use Rattle.std.proofs.Common.{◌≡◌, ◌+◌, ◌∙◌, suc, refl, sym, ap, arith}
use Rattle.std.proofs.lemmas.List.{set_split}
use Rattle.block_list.specs.Blocks.{joined, start_of, passes}
use Rattle.block_list.proofs.Turn.{here, passes_within, turns_at, turns_behind, turns_later, replaced}
use Rattle.block_list.proofs.block_list.BlockList.replace_between.Goals as goal

pub returns-then-not-passes-clause-ok : goal.returns-then-not-passes-clause-ok
returns-then-not-passes-clause-ok g c = λ p q hp hq parts_p parts_q wider.
    let is : joined c.as_slice-blocks.result.now ≡ c.args.self.now = ap joined c.as_slice-blocks.ensures.value ∙ c.self.view_is in
    let (block, place) = c.spot_of-block.result in
    let i = start_of c.as_slice-blocks.result.now block + place in
    let there = ap (passes q) (sym c.element_behind.ensures) ∙ sym (c.passes.ensures q hq) ∙ c.if-not-passes.true in
    replaced p q _ c.args.self.now _ i i c.args.item is (omega arith) c.spot_of-block.ensures.bound parts_p parts_q (c.spot_of-block.ensures.partitioned p hp)
    (λ parted point. turns_at q _ i c.spot_of-block.ensures.bound (λ k x e. wider _ (point.0 k x (omega arith) (omega arith))) (λ x l. here q _ i x l ∙ there) parted)
    (rw (← c.as_slice-blocks.ensures.value) at c.in_ok-insert_in.ensures.ok)

pub returns-then-not-passes-2-clause-ok : goal.returns-then-not-passes-2-clause-ok
returns-then-not-passes-2-clause-ok g c = λ p q hp hq parts_p parts_q wider.
    let is : joined c.as_slice-blocks.result.now ≡ c.args.self.now = ap joined c.as_slice-blocks.ensures.value ∙ c.self.view_is in
    let (block, place) = c.spot_of-block.result in
    let i = start_of c.as_slice-blocks.result.now block + place in
    let there = ap (passes q) (sym c.element_behind.ensures) ∙ sym (c.passes.ensures q hq) ∙ c.if-not-passes.false in
    let next = ap (passes q) (sym c.element_behind-then-place-len.ensures) ∙ sym (c.passes-then-place-len.ensures q hq) ∙ c.if-not-passes-2.true in
    let inside = passes_within q _ i there in
    let to : start_of c.as_slice-blocks.result.now block + (place + 1) ≡ suc i = omega arith in
    replaced p q _ c.args.self.now _ i (start_of c.as_slice-blocks.result.now block + (place + 1)) c.args.item is (omega arith) (omega arith) parts_p parts_q (c.spot_of-block.ensures.partitioned p hp)
    (λ parted point. turns_behind q _ i _ there next (omega arith) parted)
    (rw to ((rw (← c.as_slice-blocks.ensures.value) at c.set_in.ensures.set) ∙ set_split _ i c.args.item inside))

pub returns-clause-ok : goal.returns-clause-ok
returns-clause-ok g c = λ p q hp hq parts_p parts_q wider.
    let is : joined c.as_slice-blocks.result.now ≡ c.args.self.now = ap joined c.as_slice-blocks.ensures.value ∙ c.self.view_is in
    let (block, place) = c.spot_of-block.result in
    let i = start_of c.as_slice-blocks.result.now block + place in
    let there = ap (passes q) (sym c.element_behind.ensures) ∙ sym (c.passes.ensures q hq) ∙ c.if-not-passes.false in
    let last = c.partition_point-to.ensures.partitioned q hq parts_q in
    let more = turns_later q c.args.self.now i c.partition_point-to.result c.args.item (rw is at there) last in
    replaced p q c.args.self.now c.args.self.now _ i c.partition_point-to.result c.args.item refl (omega (arith, more)) c.partition_point-to.ensures.bound parts_p parts_q (rw is at (c.spot_of-block.ensures.partitioned p hp)) (λ parted point. last) ((rw c.index_of-from.ensures at c.replace_range.ensures) more)
