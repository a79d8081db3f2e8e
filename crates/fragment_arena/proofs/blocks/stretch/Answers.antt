use Rattle.std.proofs.Common.{◌+◌, ◌-◌, ◌<◌, ◌≤◌, length, ap, ◌∙◌, refl, arith}
use Rattle.fragment_arena.specs.Rows.{block_at}
use Rattle.fragment_arena.proofs.BlockLemmas.{block_at-any, run-in}
use Rattle.fragment_arena.proofs.blocks.stretch.Goals as goal

pub returns : goal.returns
returns c =
    let blocks = c.args.blocks.now in
    let is = c.find-block.ensures in
    let block = c.find-block.result.0 in
    let first = c.find-block.result.1 in
    let end = c.min-end.result in
    let count = ap (λ b. length b.rows) (c.index-blocks-block.is ∙ block_at-any blocks block c.index-blocks-block.result is.block_is_there) in
    let some : first < end = omega (arith, c.min-end.ensures, c.saturating_add.ensures, c.rows.ensures.value, c.rows.ensures.fits, count, is.row_is_there, c.requires.order) in
    let within : end ≤ length (block_at blocks block).rows = omega (arith, c.min-end.ensures, c.rows.ensures.value, count) in
    record {
      block_is_there = is.block_is_there;
      some = some;
      within = within;
      not_beyond = omega (arith, c.min-end.ensures, c.saturating_add.ensures);
      same = run-in blocks c.args.from block first (c.args.from + (end - first)) end is (omega (arith, some)) within refl;
    }
