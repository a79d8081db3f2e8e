use Rattle.std.proofs.Common.{◌≡◌, ◌-◌, [], length, get_or, take, drop, ap, ◌∙◌, arith}
use Rattle.fragment_arena.proofs.EndLemmas.{count-is, end-read, end-inside, row-is}
use Rattle.fragment_arena.proofs.row_block.RowBlock.row.Goals as goal

pub index-requires : goal.index-requires
index-requires c =
    let inside = c.self.inside in
    omega (arith, c.requires, inside.ends.ok.0, count-is inside.words.words inside.ends.items c.args.self.now.rows (ap (λ b. b.rows) c.self.view_is) c.self.invariant)

pub overflow_sub-end : goal.overflow_sub-end
overflow_sub-end c =
    let inside = c.self.inside in
    omega (arith, c.begin-from.ensures, end-read inside.words.words inside.ends.items c.args.self.now.rows (ap (λ b. b.rows) c.self.view_is) c.self.invariant c.args.row c.index.result.now c.requires c.index.ensures)

pub slice-requires : goal.slice-requires
slice-requires c =
    let inside = c.self.inside in
    let end = end-read inside.words.words inside.ends.items c.args.self.now.rows (ap (λ b. b.rows) c.self.view_is) c.self.invariant c.args.row c.index.result.now c.requires c.index.ensures in
    let there = end-inside inside.words.words inside.ends.items c.args.self.now.rows (ap (λ b. b.rows) c.self.view_is) c.self.invariant c.args.row c.requires in
    omega (arith, end, c.begin-from.ensures, there)

pub returns : goal.returns
returns c =
    let inside = c.self.inside in
    let end = end-read inside.words.words inside.ends.items c.args.self.now.rows (ap (λ b. b.rows) c.self.view_is) c.self.invariant c.args.row c.index.result.now c.requires c.index.ensures in
    let long : c.index.result.now - c.begin-from.result ≡ length (get_or c.args.self.now.rows c.args.row []) = omega (arith, end, c.begin-from.ensures) in
    c.slice.ensures ∙ ap (λ n. take (c.index.result.now - c.begin-from.result) (drop n inside.words.words)) c.begin-from.ensures
    ∙ row-is inside.words.words inside.ends.items c.args.self.now.rows (ap (λ b. b.rows) c.self.view_is) c.self.invariant c.args.row (c.index.result.now - c.begin-from.result) c.requires long
