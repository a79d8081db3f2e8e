-- A knowledge has one normal form, so it has one right answer.
use Rattle.std.proofs.Common.{sym, ap, ◌∙◌}
use Rattle.item_knowledge.proofs.FragmentLemmas.{one_normal}
use Rattle.photo_script.specs.Laws.{AnswersAreOne}
use Rattle.fleet_model.specs.Answers.{Exactly, KnowledgeIs}
use Rattle.photo_script.specs.Reports.{KnowledgeOf}

pub one_answer : AnswersAreOne
one_answer a b (Exactly right) p q = p ∙ sym q
one_answer a b (KnowledgeIs device known) p q =
    let same = one_normal p.fragments q.fragments p.normal q.normal (λ picture v above. p.denoted picture above v ∙ sym (q.denoted picture above v)) in
    p.given ∙ ap (KnowledgeOf device) same ∙ sym q.given
