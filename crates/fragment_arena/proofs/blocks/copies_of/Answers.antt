use Rattle.std.proofs.Common.{◌≡◌, ◌++◌, [], ◌∷◌, ap, ◌∙◌}
use Rattle.fragment_arena.specs.Rows.{rows_of}
use Rattle.fragment_arena.proofs.BlockLemmas.{copied}
use Rattle.fragment_arena.proofs.blocks.copies_of.Goals as goal

pub loop-i-preserved : goal.loop-i-preserved
loop-i-preserved c =
    let new : c.push.new.self.items ≡ c.loop-i.copies.items ++ c.in_ok-copy.field-0 ∷ [] = c.in_ok-push.ensures.items in
    ap rows_of new
    ∙ copied c.args.blocks.now c.loop-i.copies.items c.loop-i.i c.in_ok-copy.field-0 c.index-blocks-i.result c.loop-i-test.true (c.in_ok-copy.ensures ∙ ap (λ b. b.rows) c.index-blocks-i.is) c.loop-i.invariant
