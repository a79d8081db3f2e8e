-- The definitions alone compute the worked examples.
use Rattle.std.proofs.Common.{◌≡◌, ℕ, Bool, true, false, eqb, leb, ◌&&◌, ◌||◌, List, [], ◌∷◌, map, Ok, refl, sym, ap, ◌∙◌, subst}
use Rattle.std.proofs.Math.Bool.{or-false}
use Rattle.std.specs.Prelude.{Option}
use Rattle.std.specs.Fmt.{digits}
use Rattle.std.specs.Io.KnownBytes.{Appends}
use Rattle.photo_record.specs.Calendar.{date_of, years_off, months_off}
use Rattle.item_knowledge.specs.Fragments.{Fragment}
use Rattle.photo_device.proofs.OwnLemmas.{one_more, none_up_to, up_to_one}
use Rattle.photo_script.specs.Laws.{AnswersAreOne}
use Rattle.fleet_model.specs.Contents.{Contents}
use Rattle.script_reader.specs.Reading.{script_of}
use Rattle.fleet_model.specs.Answers.{ModelReport, Exactly, KnowledgeIs}
use Rattle.photo_script.specs.Reports.{Answer, Plain, KnowledgeOf, text_of}
use Rattle.fleet_model.specs.Runs.{run, reports_of}
use Rattle.fleet_runner.specs.Outputs.{IsOutput, WritesOutput}
use Rattle.fleet_runner.specs.Examples.{AreAsTold, stored_text, stored_run, printed, below_the_filter, printed_below, with_the_word, changes, printed_changes, two_versions, printed_two_versions, narrower, printed_narrower, refilters, printed_refilters, previews, printed_previews, never_made}
use Rattle.fleet_runner.proofs.Outputs.{one_output}

-- the versions of the first device up to a number, known of every picture
abbrev star : ℕ → List Fragment
star n = record { pictures = []; entries = (0, n) ∷ [] } ∷ []

-- the right answers of a run, in which each knowledge is given by those fragments, or is the first device's up to a number
abbrev answer_to : List Fragment → ModelReport → Answer
answer_to fragments (Exactly a) = Plain a
answer_to fragments (KnowledgeIs device known) = KnowledgeOf device fragments

abbrev answers_to : ℕ → Contents → List Answer
answers_to n script = map (answer_to (star n)) (reports_of (run script))

stored_printed : IsOutput stored_run printed
unfolding text_of digits date_of years_off months_off
stored_printed = record { answers = answers_to 0 stored_run; right = (refl, (refl, tt)); texts = refl }

-- four versions were made, one after another
up_to_four : (b : Bool) (n : ℕ) → (((b && (leb 1 n && leb n 4)) || false) || false) ≡ (((((false || (b && eqb 1 n)) || (b && eqb 2 n)) || (b && eqb 3 n)) || (b && eqb 4 n)) || false)
up_to_four false n = refl
up_to_four true n =
    let one : (false || eqb 1 n) ≡ (leb 1 n && leb n 1) = ap (λ x. x || eqb 1 n) (none_up_to n) ∙ one_more n 0 in
    let two : ((false || eqb 1 n) || eqb 2 n) ≡ (leb 1 n && leb n 2) = ap (λ x. x || eqb 2 n) one ∙ one_more n 1 in
    let three : (((false || eqb 1 n) || eqb 2 n) || eqb 3 n) ≡ (leb 1 n && leb n 3) = ap (λ x. x || eqb 3 n) two ∙ one_more n 2 in
    let four : ((((false || eqb 1 n) || eqb 2 n) || eqb 3 n) || eqb 4 n) ≡ (leb 1 n && leb n 4) = ap (λ x. x || eqb 4 n) three ∙ one_more n 3 in
    or-false ((leb 1 n && leb n 4) || false) ∙ ap (λ x. x || false) (sym four)

below_printed : IsOutput below_the_filter printed_below
unfolding text_of digits date_of years_off months_off
below_printed = record {
  answers = answers_to 1 below_the_filter;
  right = (refl, (refl, (record { fragments = star 1; given = refl; normal = refl; denoted = λ p above v. up_to_one (eqb 0 v.author.word) v.number }, tt)));
  texts = refl;
}

changes_printed : IsOutput changes printed_changes
unfolding text_of digits date_of years_off months_off
changes_printed = record {
  answers = answers_to 4 changes;
  right = (refl, (refl, (refl, (refl, (refl, (refl, (record { fragments = star 4; given = refl; normal = refl; denoted = λ p above v. up_to_four (eqb 0 v.author.word) v.number }, (refl, (refl, tt)))))))));
  texts = refl;
}

-- A picture's known versions beside those of one device: here one version of a second device, whose history has the first
-- version of the first device.
beside : (e a b x y : Bool)
    → (((a && (x || y)) || false) || (((e || false) && ((a && (x || y)) || ((b && x) || false))) || false))
    ≡ ((((a && x) || (a && y)) || false) || (((e && ((((a && x) || false) || false) || (b && x))) || false) || false))
beside e true b true y = refl
beside e true b false true = refl
beside true true true false false = refl
beside true true false false false = refl
beside false true b false false = refl
beside false false b x y = refl
beside true false false x y = refl
beside true false true true y = refl
beside true false true false y = refl

two_beside_one : (e a b : Bool) (n : ℕ)
    → (((a && (leb 1 n && leb n 2)) || false) || (((e || false) && ((a && (leb 1 n && leb n 2)) || ((b && (leb 1 n && leb n 1)) || false))) || false))
    ≡ ((((a && eqb 1 n) || (a && eqb 2 n)) || false) || (((e && ((((a && eqb 1 n) || false) || false) || (b && eqb 1 n))) || false) || false))
two_beside_one e a b n =
    let one : eqb 1 n ≡ (leb 1 n && leb n 1) = ap (λ x. x || eqb 1 n) (none_up_to n) ∙ one_more n 0 in
    let two : (eqb 1 n || eqb 2 n) ≡ (leb 1 n && leb n 2) = ap (λ x. x || eqb 2 n) one ∙ one_more n 1 in
    sym (λ i. ((a && two i) || false) || (((e || false) && ((a && two i) || ((b && one i) || false))) || false)) ∙ beside e a b (eqb 1 n) (eqb 2 n)

-- two versions of the first device, and beside them one version of a picture by the second device
abbrev of_two : List Fragment
of_two = record { pictures = []; entries = (0, 2) ∷ [] } ∷ record { pictures = 7 ∷ []; entries = (0, 2) ∷ (4294967296, 1) ∷ [] } ∷ []

conflict_printed : IsOutput two_versions printed_two_versions
unfolding text_of digits date_of years_off months_off
conflict_printed = record {
  answers = map (answer_to of_two) (reports_of (run two_versions));
  right = (refl, (refl, (refl, (refl, (refl, (refl, (record { fragments = of_two; given = refl; normal = refl; denoted = λ p above v. two_beside_one (eqb 7 p) (eqb 0 v.author.word) (eqb 4294967296 v.author.word) v.number }, (refl, (refl, tt)))))))));
  texts = refl;
}

narrowed_printed : IsOutput narrower printed_narrower
unfolding text_of digits date_of years_off months_off
narrowed_printed = record {
  answers = answers_to 0 narrower;
  right = (refl, (refl, (refl, (refl, (refl, (refl, (refl, (refl, tt))))))));
  texts = refl;
}

refiltered_printed : IsOutput refilters printed_refilters
unfolding text_of digits date_of years_off months_off
refiltered_printed = record {
  answers = answers_to 0 refilters;
  right = (refl, (refl, (refl, (refl, (refl, (refl, (refl, (refl, (refl, (refl, (refl, (refl, tt))))))))))));
  texts = refl;
}

previewed_printed : IsOutput previews printed_previews
unfolding text_of digits date_of years_off months_off
previewed_printed = record {
  answers = answers_to 0 previews;
  right = (refl, (refl, (refl, (refl, (refl, (refl, tt))))));
  texts = refl;
}

-- from the bytes of a script to the bytes of its reports
pub stored_bytes : AnswersAreOne → script_of stored_text ≡ Ok stored_run → (old new : Option (List ℕ)) → WritesOutput old new stored_text → Appends old new printed
stored_bytes one read old new h =
    let both : Ok h.script ≡ Ok stored_run = sym h.read ∙ read in
    let same : h.script ≡ stored_run = cc in
    let is : IsOutput stored_run h.output = subst (λ s. IsOutput s h.output) same h.printed in
    subst (Appends old new) (one_output one stored_run h.output printed is stored_printed) h.written

pub as_told : AnswersAreOne → script_of stored_text ≡ Ok stored_run → AreAsTold
unfolding text_of digits date_of years_off months_off
as_told one read = record {
  read = read;
  stored = stored_printed;
  bytes = stored_bytes one read;
  below = below_printed;
  word = record { answers = answers_to 0 with_the_word; right = (refl, (refl, tt)); texts = refl };
  changed = changes_printed;
  conflict = conflict_printed;
  narrowed = narrowed_printed;
  refiltered = refiltered_printed;
  refiltered_totals = refl;
  previewed = previewed_printed;
  previewed_totals = refl;
  unknown = record { answers = answers_to 0 never_made; right = (refl, tt); texts = refl };
  empty = record { answers = []; right = tt; texts = refl };
  silent = record { answers = []; right = tt; texts = refl };
  empty_totals = refl;
  silent_totals = refl;
}
