use Rattle.std.proofs.Common.{ap, ◌∙◌, arith}
use Rattle.item_knowledge.specs.Entries.{bound}
use Rattle.item_knowledge.specs.Rows.{pairs}
use Rattle.item_knowledge.proofs.KnowledgeRowLemmas.{shown_at}
use Rattle.item_knowledge.proofs.knowledge_rows.KnowledgeRows.bound.Goals as goal

pub returns-then-beyond-gt0 : goal.returns-then-beyond-gt0
returns-then-beyond-gt0 c =
    let at = shown_at c.self.inside.star.items c.self.inside.rows c.args.self.now c.self.invariant c.self.view_is c.args.k c.requires.number in
    let beyond = c.bound_of-beyond.ensures ∙ ap (λ es. bound es c.args.author) c.entries.ensures.entries in
    omega (arith, at.bounds c.args.author, beyond, c.self.invariant.exceeds c.args.k c.args.author (omega arith))

pub returns : goal.returns
returns c =
    let at = shown_at c.self.inside.star.items c.self.inside.rows c.args.self.now c.self.invariant c.self.view_is c.args.k c.requires.number in
    let beyond = c.bound_of-beyond.ensures ∙ ap (λ es. bound es c.args.author) c.entries.ensures.entries in
    omega (arith, at.bounds c.args.author, beyond, c.bound_of.ensures ∙ ap (λ ws. bound (pairs ws) c.args.author) c.deref.ensures.value)
