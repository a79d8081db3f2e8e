use Rattle.std.proofs.Common.{arith}
use Rattle.item_knowledge.proofs.KnowledgeRowLemmas.{shown_at}
use Rattle.item_knowledge.proofs.RowLemmas.{pictures_read}
use Rattle.item_knowledge.proofs.knowledge_rows.KnowledgeRows.fragment.Goals as goal

pub returns : goal.returns
returns c =
    let at = shown_at c.self.inside.star.items c.self.inside.rows c.args.self.now c.self.invariant c.self.view_is c.args.k c.requires.number in
    grind (arith, c.new.ensures, c.row.ensures, pictures_read c.self.inside.rows c.args.k c.self.invariant.are_rows at.there, at.pictures, at.entries, c.entries.ensures.entries, c.deref.ensures.value)
