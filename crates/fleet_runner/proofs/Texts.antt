-- The texts of answers, one after another.
use Rattle.std.proofs.Common.{◌≡◌, ℕ, suc, ◌+◌, ◌<◌, List, [], ◌∷◌, ◌++◌, length, get_or, take, drop, map, refl, sym, ap, ◌∙◌, subst, add-zero, append_assoc, arith}
use Rattle.std.specs.Prelude.{Option}
use Rattle.std.specs.Io.KnownBytes.{Appends}
use Rattle.std.proofs.KnownBytes.{Appends-trans}
use Rattle.std.proofs.lemmas.List.{take_more, take-append-drop, length-take-le, length-map, get_or-map, append-nil}
use Rattle.photo_script.specs.declared.report.Report.{Report}
use Rattle.fleet_model.specs.Contents.{Contents}
use Rattle.photo_script.specs.Reports.{Answer, answer_of, text_of, texts_from}
use Rattle.fleet_runner.specs.Outputs.{AppendsFront}

texts_from-append : (script : Contents) (n : ℕ) (xs ys : List Answer) → texts_from script n (xs ++ ys) ≡ texts_from script n xs ++ texts_from script (n + length xs) ys
texts_from-append script n [] ys = rw add-zero refl
texts_from-append script n (x ∷ xs) ys =
    let number : n + 1 + length xs ≡ n + suc (length xs) = omega arith in
    ap (λ t. text_of script n x ++ t) (texts_from-append script (n + 1) xs ys ∙ ap (λ k. texts_from script (n + 1) xs ++ texts_from script k ys) number)
    ∙ sym (append_assoc (text_of script n x) (texts_from script (n + 1) xs) (texts_from script (n + suc (length xs)) ys))

-- the texts of the first i answers
abbrev pub first_texts : Contents → ℕ → List Answer → List ℕ
first_texts script i answers = texts_from script 1 (take i answers)

-- the texts with one more answer
texts_more : (script : Contents) (i : ℕ) (answers : List Answer) (a : Answer) → i < length answers → a ≡ get_or answers i a
    → first_texts script (i + 1) answers ≡ first_texts script i answers ++ text_of script (i + 1) a
texts_more script i answers a h is =
    let front = take i answers in
    let number : 1 + length front ≡ i + 1 = let long = length-take-le i answers (omega arith) in omega arith in
    ap (texts_from script 1) (take_more answers i a h ∙ ap (λ x. front ++ x ∷ []) (sym is))
    ∙ texts_from-append script 1 front (a ∷ [])
    ∙ ap (λ t. texts_from script 1 front ++ t) (append-nil _ ∙ ap (λ n. text_of script n a) number)

-- the first texts and the rest are all texts
texts_whole : (script : Contents) (i : ℕ) (answers : List Answer)
    → first_texts script i answers ++ texts_from script (1 + length (take i answers)) (drop i answers) ≡ texts_from script 1 answers
texts_whole script i answers =
    sym (texts_from-append script 1 (take i answers) (drop i answers)) ∙ ap (texts_from script 1) (take-append-drop i answers)

-- the whole texts of the first answers and a front of the next one are a front of all texts
front_of_all : (before here end : Option (List ℕ)) (script : Contents) (i : ℕ) (answers : List Answer) (a : Answer) → i < length answers → a ≡ get_or answers i a
    → Appends before here (first_texts script i answers) → AppendsFront here end (text_of script (i + 1) a) → AppendsFront before end (texts_from script 1 answers)
front_of_all before here end script i answers a h is first part =
    let texts = first_texts script i answers in
    let others = texts_from script (1 + length (take (i + 1) answers)) (drop (i + 1) answers) in
    record {
      front = texts ++ part.front;
      rest = part.rest ++ others;
      whole = append_assoc texts part.front (part.rest ++ others)
          ∙ ap (λ t. texts ++ t) (sym (append_assoc part.front part.rest others) ∙ ap (λ t. t ++ others) part.whole)
          ∙ sym (append_assoc texts (text_of script (i + 1) a) others)
          ∙ ap (λ t. t ++ others) (sym (texts_more script i answers a h is))
          ∙ texts_whole script (i + 1) answers;
      written = Appends-trans before here end texts part.front first part.written;
    }

-- the answer of the report at an index
answer_at : (reports : List Report) (i : ℕ) (r : Report) → i < length reports → r ≡ get_or reports i r → answer_of r ≡ get_or (map answer_of reports) i (answer_of r)
answer_at reports i r h is = ap answer_of is ∙ sym (get_or-map answer_of reports i r (answer_of r) h)

within : (reports : List Report) (i : ℕ) → i < length reports → i < length (map answer_of reports)
within reports i h = rw (length-map reports answer_of) h

-- one more report has been written
pub report_written : (before here after : Option (List ℕ)) (script : Contents) (n i : ℕ) (reports : List Report) (r : Report) (text : List ℕ) → i < length reports → r ≡ get_or reports i r
    → n ≡ i → text ≡ text_of script (n + 1) (answer_of r) → Appends before here (first_texts script i (map answer_of reports)) → Appends here after text
    → Appends before after (first_texts script (i + 1) (map answer_of reports))
report_written before here after script n i reports r text h is number text_is first more =
    let texts = first_texts script i (map answer_of reports) in
    let here_is : text ≡ text_of script (i + 1) (answer_of r) = text_is ∙ ap (λ k. text_of script (k + 1) (answer_of r)) number in
    subst (Appends before after)
    (ap (λ t. texts ++ t) here_is ∙ sym (texts_more script i (map answer_of reports) (answer_of r) (within reports i h) (answer_at reports i r h is)))
    (Appends-trans before here after texts text first more)

-- the text of a report was cut off
pub report_cut : (before here after : Option (List ℕ)) (script : Contents) (n i : ℕ) (reports : List Report) (r : Report) (text : List ℕ) → i < length reports → r ≡ get_or reports i r
    → n ≡ i → text ≡ text_of script (n + 1) (answer_of r) → Appends before here (first_texts script i (map answer_of reports)) → AppendsFront here after text
    → AppendsFront before after (texts_from script 1 (map answer_of reports))
report_cut before here after script n i reports r text h is number text_is first part =
    let here_is : text ≡ text_of script (i + 1) (answer_of r) = text_is ∙ ap (λ k. text_of script (k + 1) (answer_of r)) number in
    front_of_all before here after script i (map answer_of reports) (answer_of r) (within reports i h) (answer_at reports i r h is) first (subst (AppendsFront here after) here_is part)
