use Rattle.std.proofs.Common.{rules, ◌≡◌, ◌+◌, ◌*◌, ◌∙◌, [], get_or, sym, subst, ap}
use Rattle.item_knowledge.specs.Fragments.{entries_at}
use Rattle.item_knowledge.specs.Rows.{pairs, IsRow, fragments_of}
use Rattle.item_knowledge.proofs.RowLemmas.{entries_read, flat_row, pairs_flat}
use Rattle.item_knowledge.proofs.union.entries.Goals as goal

pub returns : goal.returns
returns c =
    let words : c.row.result.now ≡ get_or c.args.rows.now (2 * c.args.number + 1) [] = search rules in
    let is = words ∙ entries_read c.args.rows.now c.args.number c.requires.rows c.requires.number in
    let es = entries_at (fragments_of c.args.rows.now) c.args.number in
    record { words = words; row = subst IsRow (sym is) (flat_row es); entries = ap pairs is ∙ pairs_flat es }
