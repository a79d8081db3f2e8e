-- What the run of a script prints of the commands behind its first ones.
use Rattle.std.proofs.Common.{◌≡◌, ◌<◌, ◌+◌, ◌∷◌, ◌++◌, ℕ, List, [], length, take, refl, sym, ap, subst, ◌∙◌, append_assoc, length-append, arith}
use Rattle.std.specs.Prelude.{Ok, Some, slice_get}
use Rattle.std.proofs.Math.Seq.{drop-append_seam}
use Rattle.std.proofs.lemmas.List.{append-nil, length-take-le}
use Rattle.photo_filter_text.specs.Tree.{Tree}
use Rattle.fleet_model.specs.Contents.{Contents, contents}
use Rattle.fleet_model.specs.declared.command.Command.{Command}
use Rattle.fleet_steps.specs.Laws.{AcceptedStaysSound}
use Rattle.fleet_steps.specs.Outcomes.{AreRight}
use Rattle.live_fleet.specs.Fleets.{KeptFleet, IsAnswerTo}
use Rattle.photo_script.specs.Reports.{Answer, text_of, texts_from}
use Rattle.script_reader.specs.Reading.{script_of}
use Rattle.live_script.specs.Printed.{IsOutput, IsPrinted}
use Rattle.live_script.specs.Live.{IsAnswered, IsLonger, IsTold, IsToldOf, ShowsRun, first_of}
use Rattle.live_script.proofs.Grew.{first_all}
use Rattle.live_script.proofs.Played.{next_commands, right_more, same_texts, texts_push}

-- the first `place` commands of a script have run, and this was told of those behind the first `count`
pub record IsGathered (script : Contents) (count place : ℕ) (told : List ℕ) : Type 0 where
  pub before : List ℕ
  pub was : IsOutput (first_of count script) before
  pub answers : List Answer
  pub right : AreRight (first_of place script) answers
  pub each : length answers ≡ length (take place script.commands)
  pub texts : before ++ told ≡ texts_from script 1 answers

pub gathered_none : (script : Contents) (count : ℕ) (told : List ℕ) → told ≡ [] → IsAnswered (first_of count script) → IsGathered script count count told
gathered_none script count told none h =
    let text = texts_from (first_of count script) 1 h.answers in
    record {
      before = text;
      was = record { answers = h.answers; right = h.right; texts = refl };
      answers = h.answers;
      right = h.right;
      each = h.each;
      texts = ap (λ t. text ++ t) none ∙ append-nil text ∙ same_texts script.names script.filters script.filters (take count script.commands) script.commands 1 h.answers;
    }

module _ (script : Contents) (count n k : ℕ) (c : Command) (fleet : KeptFleet) (answer : Answer) (here : slice_get script.commands k ≡ Some c) (place : k ≡ n) (within : n < length script.commands)
    (shown : ShowsRun (first_of n script) fleet) (tells : IsAnswerTo c fleet answer) where
  pub gathered_more : (number : ℕ) (told new : List ℕ) → number ≡ n + 1 → new ≡ told ++ text_of script number answer → IsGathered script count n told → IsGathered script count (n + 1) new
  gathered_more number told new count_is is h =
      let commands = take n script.commands in
      let next : first_of (n + 1) script ≡ contents script.names script.filters (commands ++ c ∷ []) = next_commands script n k c here place in
      let long : length commands ≡ n = length-take-le n script.commands (omega arith) in
      let place_is : 1 + length h.answers ≡ number = omega (arith, count_is, long, h.each) in
      record {
        before = h.before;
        was = h.was;
        answers = h.answers ++ answer ∷ [];
        right = subst (λ s. AreRight s (h.answers ++ answer ∷ [])) (sym next) (right_more script.names script.filters commands c fleet h.answers answer h.right shown tells);
        each = length-append h.answers (answer ∷ []) ∙ ap (λ m. m + 1) h.each ∙ sym (length-append commands (c ∷ [])) ∙ ap (λ (s : Contents). length s.commands) (sym next);
        texts = ap (λ t. h.before ++ t) is ∙ sym (append_assoc h.before told (text_of script number answer)) ∙ ap (λ t. t ++ text_of script number answer) h.texts
            ∙ ap (λ m. texts_from script 1 h.answers ++ text_of script m answer) (sym place_is) ∙ sym (texts_push script 1 h.answers answer);
      }

pub shown_all : (script : Contents) (n : ℕ) (fleet : KeptFleet) → n ≡ length script.commands → ShowsRun (first_of n script) fleet → ShowsRun script fleet
shown_all script n fleet all h = subst (λ s. ShowsRun s fleet) (first_all script n all) h

pub answered_all : (script : Contents) (count n : ℕ) (told : List ℕ) → n ≡ length script.commands → IsGathered script count n told → IsAnswered script
answered_all script count n told all h = record {
  answers = h.answers;
  right = subst (λ s. AreRight s h.answers) (first_all script n all) h.right;
  each = h.each ∙ ap (λ (s : Contents). length s.commands) (first_all script n all);
}

pub told_all : (script : Contents) (count n : ℕ) (told : List ℕ) → n ≡ length script.commands → IsGathered script count n told → IsToldOf (first_of count script) script told
told_all script count n told all h = record {
  before = h.before;
  was = h.was;
  is = record { answers = h.answers; right = subst (λ s. AreRight s h.answers) (first_all script n all) h.right; texts = h.texts };
}

-- a script without commands prints nothing

none_right : (names : List (List ℕ)) (filters : List Tree) (answers : List Answer) → AreRight (contents names filters []) answers → answers ≡ []
none_right names filters [] h = refl
none_right names filters (answer ∷ more) h = absurd h

none_printed : (script : Contents) (text : List ℕ) → script.commands ≡ [] → IsOutput script text → text ≡ []
none_printed script text none h =
    h.texts ∙ ap (texts_from script 1) (none_right script.names script.filters h.answers (subst (λ cs. AreRight (contents script.names script.filters cs) h.answers) none h.right))

-- what is told behind no command is all that is printed
pub told_first : (script : Contents) (told : List ℕ) → IsToldOf (first_of 0 script) script told → IsOutput script told
told_first script told h = subst (λ t. IsOutput script (t ++ told)) (none_printed (first_of 0 script) h.before refl h.was) h.is

pub printed_first : (text told : List ℕ) (script : Contents) → AcceptedStaysSound → script_of text ≡ Ok script → IsToldOf (first_of 0 script) script told → IsPrinted text told
printed_first text told script sound read h = record { script = script; read = read; sound = sound _ _ read; printed = told_first script told h }

-- a script that has grown by lines

told_longer : (old new : Contents) (told text : List ℕ) → IsLonger old new → IsOutput old text → IsToldOf (first_of (length old.commands) new) new told → IsToldOf old new told
told_longer old new told text longer was h = by old.commands refl
  where
    by : (commands : List Command) → old.commands ≡ commands → IsToldOf old new told
    by [] is =
        let none : length old.commands ≡ 0 = ap length is in
        record {
          before = [];
          was = subst (IsOutput old) (none_printed old text is was) was;
          is = told_first new told (subst (λ n. IsToldOf (first_of n new) new told) none h);
        }
    by (c ∷ commands) is =
        let count = ap length is in
        subst (λ s. IsToldOf s new told) (longer.first (omega (arith, count))) h

-- what is told of lines behind a text
pub told_lines : (text whole told text_of_old : List ℕ) (new : Contents) → AcceptedStaysSound → (p : IsPrinted text text_of_old) → script_of whole ≡ Ok new → IsLonger p.script new
    → IsToldOf (first_of (length p.script.commands) new) new told → IsTold text whole told
told_lines text whole told text_of_old new sound p read longer h =
    let is = told_longer p.script new told text_of_old longer p.printed h in
    record {
      before = is.before;
      after = is.before ++ told;
      was = record { script = p.script; read = p.read; sound = p.sound; printed = is.was };
      is = record { script = new; read = read; sound = sound _ _ read; printed = is.is };
      behind = sym (drop-append_seam is.before told);
    }
