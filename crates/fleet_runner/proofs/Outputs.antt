-- A script's run has at most one output.
use Rattle.std.proofs.Common.{◌≡◌, List, [], ◌∷◌, refl, sym, ap, ◌∙◌}
use Rattle.std.specs.List.{AllZip}
use Rattle.fleet_model.specs.Answers.{ModelReport}
use Rattle.photo_script.specs.Reports.{Answer, Tells, texts_from}
use Rattle.fleet_model.specs.Runs.{run, reports_of}
use Rattle.photo_script.specs.Laws.{AnswersAreOne}
use Rattle.fleet_runner.specs.Laws.{OutputsAreOne}

same_answers : AnswersAreOne → (xs ys : List Answer) (rs : List ModelReport) → AllZip Tells xs rs → AllZip Tells ys rs → xs ≡ ys
same_answers one [] [] [] all others = refl
same_answers one (x ∷ xs) ys [] all others = absurd all
same_answers one xs (y ∷ ys) [] all others = absurd others
same_answers one [] ys (r ∷ rs) all others = absurd all
same_answers one (x ∷ xs) [] (r ∷ rs) all others = absurd others
same_answers one (x ∷ xs) (y ∷ ys) (r ∷ rs) all others = λ i. one x y r all.0 others.0 i ∷ same_answers one xs ys rs all.1 others.1 i

pub one_output : AnswersAreOne → OutputsAreOne
one_output one script first second p q =
    p.texts ∙ ap (texts_from script 1) (same_answers one p.answers q.answers (reports_of (run script)) p.right q.right) ∙ sym q.texts
