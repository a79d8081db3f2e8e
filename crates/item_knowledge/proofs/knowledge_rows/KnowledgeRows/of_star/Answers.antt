use Rattle.std.proofs.Common.{rules, ◌≡◌, [], ◌∷◌, sym, subst, ◌∙◌}
use Rattle.item_knowledge.specs.Rows.{IsRow}
use Rattle.item_knowledge.proofs.KnowledgeRowLemmas.{star_shown}
use Rattle.item_knowledge.proofs.knowledge_rows.KnowledgeRows.of_star.Goals as goal

pub returns : goal.returns
returns c =
    let star : c.in_ok-star.star.items ≡ c.args.star.now = search rules in
    star_shown c.in_ok-star.star.items c.begin.new.out (subst IsRow (sym star) c.requires.row) (search rules)
    ∙ (λ i. [] ∷ star i ∷ [])
