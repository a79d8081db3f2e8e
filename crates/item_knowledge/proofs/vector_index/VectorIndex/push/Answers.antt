use Rattle.std.proofs.Common.{rules, arith, refl, ◌≡◌, ◌++◌, ◌∷◌, [], get_or, ap, ◌∙◌}
use Rattle.std.proofs.lemmas.Grind.{common_steps, get_or_default_zero}
use Rattle.item_knowledge.proofs.VectorIndexLemmas.{placed_more}
use Rattle.item_knowledge.proofs.vector_index.VectorIndex.push.Goals as goal

pub returns-clause-found : goal.returns-clause-found
returns-clause-found c rows can =
    let head : c.index.result.now ≡ get_or c.args.self.now.heads.items c.args.bucket 0 = c.index.ensures ∙ get_or_default_zero c.args.self.now.heads.items c.args.bucket c.index.result.now c.requires in
    let before : c.push.new.self.items ≡ c.args.self.now.before.items ++ get_or c.args.self.now.heads.items c.args.bucket 0 ∷ [] = c.in_ok-push.ensures.items ∙ ap (λ n. c.args.self.now.before.items ++ n ∷ []) head in
    let numbers : c.push-2.new.self.items ≡ c.args.self.now.numbers.items ++ c.args.number ∷ [] = search rules in
    placed_more c.args.self.now _ rows c.args.bucket c.args.number can refl before numbers (grind (arith, common_steps))
