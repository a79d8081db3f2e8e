use Rattle.std.proofs.Common.{◌≡◌, ◌-◌, ◌<◌, ◌++◌, [], length, sym, ap, ◌∙◌, arith, append-nil}
use Rattle.std.proofs.lemmas.List.{nil_from_length}
use Rattle.fragment_arena.specs.Rows.{rows_of, block_at}
use Rattle.fragment_arena.proofs.BlockLemmas.{rows-same, rows-added, block_at-any}
use Rattle.fragment_arena.proofs.blocks.add.Goals as goal

pub returns-then-rows-eq0-clause-rows : goal.returns-then-rows-eq0-clause-rows
returns-then-rows-eq0-clause-rows c =
    let blocks = c.args.blocks.now.items in
    let k = c.len-count.result - 1 in
    let there : k < length blocks = omega (arith, c.len-count.ensures, c.if-count-gt0.true, c.args.blocks.now.ok.0) in
    let last = c.index.ensures ∙ block_at-any blocks k c.index.result.now there in
    let none : (block_at blocks k).rows ≡ [] = nil_from_length (block_at blocks k).rows (ap (λ b. length b.rows) (sym last) ∙ omega (arith, c.rows.ensures.value, c.if-rows-eq0.true)) in
    rows-same blocks k c.in_ok-block.block there (c.in_ok-block.ensures.rows ∙ sym none)

pub returns-clause-rows : goal.returns-clause-rows
returns-clause-rows c =
    let blocks = c.args.blocks.now.items in
    ap rows_of c.in_ok-push.ensures.items ∙ rows-added blocks c.in_ok-block.block ∙ ap (λ rows. rows_of blocks ++ rows) c.in_ok-block.ensures.rows ∙ append-nil (rows_of blocks)
