-- The texts of answers, one after another.
use Rattle.std.proofs.Common.{◌≡◌, ℕ, suc, ◌+◌, ◌<◌, List, [], ◌∷◌, ◌++◌, length, get_or, take, map, refl, sym, ap, ◌∙◌, add-zero, append_assoc, arith}
use Rattle.std.proofs.lemmas.List.{take_more, length-take-le, length-map, get_or-map, append-nil}
use Rattle.photo_script.specs.declared.report.Report.{Report}
use Rattle.fleet_model.specs.Contents.{Contents}
use Rattle.photo_script.specs.Reports.{Answer, answer_of, text_of, texts_from}

texts_from-append : (script : Contents) (n : ℕ) (xs ys : List Answer) → texts_from script n (xs ++ ys) ≡ texts_from script n xs ++ texts_from script (n + length xs) ys
texts_from-append script n [] ys = rw add-zero refl
texts_from-append script n (x ∷ xs) ys =
    let number : n + 1 + length xs ≡ n + suc (length xs) = omega arith in
    ap (λ t. text_of script n x ++ t) (texts_from-append script (n + 1) xs ys ∙ ap (λ k. texts_from script (n + 1) xs ++ texts_from script k ys) number)
    ∙ sym (append_assoc (text_of script n x) (texts_from script (n + 1) xs) (texts_from script (n + suc (length xs)) ys))

-- the texts of the first i answers
abbrev pub first_texts : Contents → ℕ → List Answer → List ℕ
first_texts script i answers = texts_from script 1 (take i answers)

-- the text of one answer more
texts_more : (script : Contents) (i : ℕ) (answers : List Answer) (a : Answer) → i < length answers → a ≡ get_or answers i a
    → first_texts script (i + 1) answers ≡ first_texts script i answers ++ text_of script (i + 1) a
texts_more script i answers a h is =
    let front = take i answers in
    let number : 1 + length front ≡ i + 1 = let long = length-take-le i answers (omega arith) in omega arith in
    ap (texts_from script 1) (take_more answers i a h ∙ ap (λ x. front ++ x ∷ []) (sym is))
    ∙ texts_from-append script 1 front (a ∷ [])
    ∙ ap (λ t. texts_from script 1 front ++ t) (append-nil _ ∙ ap (λ n. text_of script n a) number)

-- one report more stands behind the texts
pub report_added : (script : Contents) (n i : ℕ) (reports : List Report) (r : Report) (old new : List ℕ) → i < length reports → r ≡ get_or reports i r → n ≡ i
    → new ≡ old ++ text_of script (n + 1) (answer_of r) → old ≡ first_texts script i (map answer_of reports) → new ≡ first_texts script (i + 1) (map answer_of reports)
report_added script n i reports r old new h is number added so_far =
    let answers = map answer_of reports in let a = answer_of r in
    let a_is : a ≡ get_or answers i a = ap answer_of is ∙ sym (get_or-map answer_of reports i r a h) in
    added ∙ ap (λ k. old ++ text_of script (k + 1) a) number ∙ ap (λ t. t ++ text_of script (i + 1) a) so_far
    ∙ sym (texts_more script i answers a (rw (length-map reports answer_of) h) a_is)
