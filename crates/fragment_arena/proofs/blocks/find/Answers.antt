use Rattle.std.proofs.Common.{rules, length, ap, ◌∙◌, arith}
use Rattle.fragment_arena.proofs.BlockLemmas.{block_at-any, before-first, before-next, still-there}
use Rattle.fragment_arena.proofs.blocks.find.Goals as goal

pub loop-row-init : goal.loop-row-init
loop-row-init c = omega (arith, before-first c.args.blocks.now)

pub offset_bounds-blocks-block : goal.offset_bounds-blocks-block
offset_bounds-blocks-block c =
    let there = still-there c.args.blocks.now c.loop-row.block c.loop-row.row c.args.place c.loop-row.invariant c.requires in
    search rules

pub bounds-blocks-block : goal.bounds-blocks-block
bounds-blocks-block c = still-there c.args.blocks.now c.loop-row.block c.loop-row.row c.args.place c.loop-row.invariant c.requires

pub offset_bounds-blocks-block-in-loop-row : goal.offset_bounds-blocks-block-in-loop-row
offset_bounds-blocks-block-in-loop-row c =
    let there = still-there c.args.blocks.now c.loop-row.block c.loop-row.row c.args.place c.loop-row.invariant c.requires in
    search rules

pub bounds-blocks-block-in-loop-row : goal.bounds-blocks-block-in-loop-row
bounds-blocks-block-in-loop-row c = still-there c.args.blocks.now c.loop-row.block c.loop-row.row c.args.place c.loop-row.invariant c.requires

pub overflow_sub-row : goal.overflow_sub-row
overflow_sub-row c =
    let blocks = c.args.blocks.now in
    let there = still-there blocks c.loop-row.block c.loop-row.row c.args.place c.loop-row.invariant c.requires in
    let first = ap (λ b. length b.rows) (c.index-blocks-block.is ∙ block_at-any blocks c.loop-row.block c.index-blocks-block.result there) in
    let again = ap (λ b. length b.rows) (c.index-blocks-block-in-loop-row.is ∙ block_at-any blocks c.loop-row.block c.index-blocks-block-in-loop-row.result there) in
    omega (arith, first, again, c.rows.ensures.value, c.rows-row.ensures.value, c.loop-row-test.true)

pub overflow_add-block : goal.overflow_add-block
overflow_add-block c =
    let there = still-there c.args.blocks.now c.loop-row.block c.loop-row.row c.args.place c.loop-row.invariant c.requires in
    search rules

pub loop-row-smaller : goal.loop-row-smaller
loop-row-smaller c =
    let there = still-there c.args.blocks.now c.loop-row.block c.loop-row.row c.args.place c.loop-row.invariant c.requires in
    omega (arith, there)

pub loop-row-preserved : goal.loop-row-preserved
loop-row-preserved c =
    let blocks = c.args.blocks.now in
    let there = still-there blocks c.loop-row.block c.loop-row.row c.args.place c.loop-row.invariant c.requires in
    let first = ap (λ b. length b.rows) (c.index-blocks-block.is ∙ block_at-any blocks c.loop-row.block c.index-blocks-block.result there) in
    let again = ap (λ b. length b.rows) (c.index-blocks-block-in-loop-row.is ∙ block_at-any blocks c.loop-row.block c.index-blocks-block-in-loop-row.result there) in
    omega (arith, before-next blocks c.loop-row.block there, first, again, c.rows.ensures.value, c.rows-row.ensures.value, c.loop-row-test.true, c.loop-row.invariant)

pub returns : goal.returns
returns c =
    let blocks = c.args.blocks.now in
    let there = still-there blocks c.loop-row.block c.loop-row.row c.args.place c.loop-row.invariant c.requires in
    let is = ap (λ b. length b.rows) (c.index-blocks-block.is ∙ block_at-any blocks c.loop-row.block c.index-blocks-block.result there) in
    record { block_is_there = there; row_is_there = omega (arith, is, c.rows.ensures.value, c.loop-row-test.false); counted = c.loop-row.invariant }
