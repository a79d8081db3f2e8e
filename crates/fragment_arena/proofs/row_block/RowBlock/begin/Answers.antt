use Rattle.std.proofs.Common.{ap, arith}
use Rattle.fragment_arena.proofs.EndLemmas.{begin-read, count-is}
use Rattle.fragment_arena.proofs.row_block.RowBlock.begin.Goals as goal

pub index-requires : goal.index-requires
index-requires c =
    let inside = c.self.inside in
    let count = count-is inside.words.words inside.ends.items c.args.self.now.rows (ap (λ b. b.rows) c.self.view_is) c.self.invariant in
    omega (arith, c.requires, count, c.if-row-eq0.false, inside.ends.ok.0)

pub returns : goal.returns
returns c =
    let inside = c.self.inside in
    begin-read inside.words.words inside.ends.items c.args.self.now.rows (ap (λ b. b.rows) c.self.view_is) c.self.invariant c.args.row c.index.result.now c.if-row-eq0.false c.requires c.index.ensures
