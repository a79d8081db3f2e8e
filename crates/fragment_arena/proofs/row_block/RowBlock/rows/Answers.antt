use Rattle.std.proofs.Common.{ap, ◌∙◌}
use Rattle.fragment_arena.proofs.EndLemmas.{count-is}
use Rattle.fragment_arena.proofs.row_block.RowBlock.rows.Goals as goal

pub returns-clause-value : goal.returns-clause-value
returns-clause-value c =
    let inside = c.self.inside in
    c.len.ensures ∙ inside.ends.ok.0 ∙ count-is inside.words.words inside.ends.items c.args.self.now.rows (ap (λ b. b.rows) c.self.view_is) c.self.invariant
