-- A fleet that shows the run of a script, and what is told of it, with one line more.
use Rattle.std.proofs.Common.{◌≡◌, ℕ, suc, ◌+◌, ◌-◌, List, [], ◌∷◌, ◌++◌, length, set, refl, sym, ap, ◌∙◌, subst, add-zero, append_assoc, length-append, arith}
use Rattle.std.specs.Prelude.{Option, Some, Result, Ok, Err, IfSome, OnErr, slice_get, take}
use Rattle.std.specs.List.{AllZip}
use Rattle.std.proofs.lemmas.List.{append-nil, set-get_or, take_more}
use Rattle.std.proofs.lemmas.Option.{slice_get_within, get_or_from_slice_get}
use Rattle.photo_filter_text.specs.Tree.{Tree, All}
use Rattle.photo_version.specs.Author.{author}
use Rattle.photo_model.specs.Device.{ModelDevice, opening}
use Rattle.photo_device.specs.Device.{Shows}
use Rattle.fleet_model.specs.declared.command.Command.{Command}
use Rattle.fleet_model.specs.declared.command.Command.TheVariants as command
use Rattle.fleet_model.specs.declared.command.CommandKind.TheVariants.{Question}
use Rattle.fleet_model.specs.Contents.{Contents, contents}
use Rattle.fleet_model.specs.Answers.{Made, NotHeld, NotNarrower, Narrowed, Refiltered, Pulled, Preview, Listed, Conflicts, Knows}
use Rattle.fleet_model.specs.Runs.{Fleet, device_at, run, reports_of}
use Rattle.fleet_model.specs.Steps.{effect_on, devices_after}
use Rattle.fleet_model.specs.Sound.{IsSoundThroughout}
use Rattle.fleet_model.specs.Tallies.{kind_of}
use Rattle.fleet_model.proofs.Zipped.{zip_push}
use Rattle.script_reader.specs.Reading.{script_of}
use Rattle.script_reader.specs.declared.growing.Said.{Said}
use Rattle.script_reader.specs.declared.growing.Said.TheVariants as said
use Rattle.photo_script.specs.Reports.{Answer, Plain, KnowledgeOf, Tells, text_of, texts_from}
use Rattle.fleet_steps.specs.Outcomes.{AreRight}
use Rattle.live_fleet.specs.Fleets.{KeptFleet, HasRun, IsAnswerTo}
use Rattle.live_script.specs.Printed.{IsOutput, IsPrinted}
use Rattle.live_script.specs.Live.{ComesBehind, IsAnswered, IsLast, IsStill, IsToldOf, ShowsRun, first_of}
use Rattle.live_script.proofs.Longer.{runs_longer, reports_longer, got_last}

-- one command more
pub shows_more : (names : List (List ℕ)) (filters : List Tree) (commands : List Command) (c : Command) (old new : KeptFleet) → ShowsRun (contents names filters commands) old
    → HasRun c old new → length new.devices ≡ length old.devices → ShowsRun (contents names filters (commands ++ c ∷ [])) new
shows_more names filters commands c old new h ran same =
    let before = run (contents names filters commands) in
    let shows = ran.shows before h.shown in
    let longer = runs_longer names filters commands c in
    record {
      shown = record {
        devices = subst (AllZip Shows new.devices) (sym (ap (λ (f : Fleet). f.devices) longer)) shows.devices;
        log = shows.log ∙ sym (ap (λ (f : Fleet). f.log) longer);
      };
      long = same ∙ h.long;
    }

pub right_more : (names : List (List ℕ)) (filters : List Tree) (commands : List Command) (c : Command) (old : KeptFleet) (answers : List Answer) (answer : Answer) → AreRight (contents names filters commands) answers
    → ShowsRun (contents names filters commands) old → IsAnswerTo c old answer → AreRight (contents names filters (commands ++ c ∷ [])) (answers ++ answer ∷ [])
right_more names filters commands c old answers answer right shown tells =
    let before = run (contents names filters commands) in
    subst (AllZip Tells (answers ++ answer ∷ [])) (sym (reports_longer names filters commands c)) (zip_push Tells answers (reports_of before) answer (effect_on before.devices c).report right (tells before shown.shown))

pub answered_more : (names : List (List ℕ)) (filters : List Tree) (commands : List Command) (c : Command) (old : KeptFleet) (answer : Answer) → IsAnswered (contents names filters commands)
    → ShowsRun (contents names filters commands) old → IsAnswerTo c old answer → IsAnswered (contents names filters (commands ++ c ∷ []))
answered_more names filters commands c old answer h shown tells = record {
  answers = h.answers ++ answer ∷ [];
  right = right_more names filters commands c old h.answers answer h.right shown tells;
  each = length-append h.answers (answer ∷ []) ∙ ap (λ n. n + 1) h.each ∙ sym (length-append commands (c ∷ []));
}

-- the texts speak of the devices alone, whatever the commands are
same_text : (names : List (List ℕ)) (f g : List Tree) (a b : List Command) (n : ℕ) (answer : Answer) → text_of (contents names f a) n answer ≡ text_of (contents names g b) n answer
unfolding text_of
same_text names f g a b n (Plain (Made v place)) = refl
same_text names f g a b n (Plain NotHeld) = refl
same_text names f g a b n (Plain NotNarrower) = refl
same_text names f g a b n (Plain (Narrowed count)) = refl
same_text names f g a b n (Plain (Refiltered stored waiting)) = refl
same_text names f g a b n (Plain (Pulled counts)) = refl
same_text names f g a b n (Plain (Preview counts)) = refl
same_text names f g a b n (Plain (Listed k store out)) = refl
same_text names f g a b n (Plain (Conflicts k pictures)) = refl
same_text names f g a b n (KnowledgeOf k fragments) = refl
same_text names f g a b n (Plain (Knows known)) = refl

pub same_texts : (names : List (List ℕ)) (f g : List Tree) (a b : List Command) (n : ℕ) (answers : List Answer) → texts_from (contents names f a) n answers ≡ texts_from (contents names g b) n answers
same_texts names f g a b n [] = refl
same_texts names f g a b n (answer ∷ more) = λ i. same_text names f g a b n answer i ++ same_texts names f g a b (n + 1) more i

pub texts_push : (script : Contents) (n : ℕ) (xs : List Answer) (x : Answer) → texts_from script n (xs ++ x ∷ []) ≡ texts_from script n xs ++ text_of script (n + length xs) x
texts_push script n [] x = append-nil (text_of script n x) ∙ ap (λ k. text_of script k x) (sym (add-zero n))
texts_push script n (y ∷ ys) x =
    let number : n + 1 + length ys ≡ n + suc (length ys) = omega arith in
    ap (λ t. text_of script n y ++ t) (texts_push script (n + 1) ys x ∙ ap (λ k. texts_from script (n + 1) ys ++ text_of script k x) number)
    ∙ sym (append_assoc (text_of script n y) (texts_from script (n + 1) ys) (text_of script (n + suc (length ys)) x))

-- and the text of its report stands behind the others
pub told_more : (names : List (List ℕ)) (filters : List Tree) (commands : List Command) (c : Command) (old : KeptFleet) (answer : Answer) (number : ℕ) (text : List ℕ) → IsAnswered (contents names filters commands)
    → ShowsRun (contents names filters commands) old → IsAnswerTo c old answer → number ≡ length (commands ++ c ∷ []) → text ≡ text_of (contents names filters (commands ++ c ∷ [])) number answer
    → IsToldOf (contents names filters commands) (contents names filters (commands ++ c ∷ [])) text
told_more names filters commands c old answer number text h shown tells count is =
    let short : Contents = contents names filters commands in
    let longer : Contents = contents names filters (commands ++ c ∷ []) in
    let place : 1 + length h.answers ≡ number = omega (arith, count, h.each, length-append commands (c ∷ [])) in
    record {
      before = texts_from short 1 h.answers;
      was = record { answers = h.answers; right = h.right; texts = refl };
      is = record {
        answers = h.answers ++ answer ∷ [];
        right = right_more names filters commands c old h.answers answer h.right shown tells;
        texts = ap (λ t. texts_from short 1 h.answers ++ t) is ∙ ap (λ t. t ++ text_of longer number answer) (same_texts names filters filters commands (commands ++ c ∷ []) 1 h.answers)
            ∙ ap (λ k. texts_from longer 1 h.answers ++ text_of longer k answer) (sym place) ∙ sym (texts_push longer 1 h.answers answer);
      };
    }

-- a question leaves what a fleet shows

on_first : (ds : List ModelDevice) (k : ℕ) → set ds k (device_at ds k) ≡ ds
on_first ds k = set-get_or ds k (opening (author k) All)

question_devices : (ds : List ModelDevice) (c : Command) → kind_of c ≡ Question → devices_after ds c ≡ ds
question_devices ds (command.New k p r) h = cc
question_devices ds (command.Edit k p r) h = cc
question_devices ds (command.Remove k p) h = cc
question_devices ds (command.Pull t s) h = cc
question_devices ds (command.Narrow k tree) h = cc
question_devices ds (command.Refilter k tree) h = cc
question_devices ds (command.Preview t s) h = ap (λ (l : List ModelDevice). set l s (device_at ds s)) (on_first ds t) ∙ on_first ds s
question_devices ds (command.List k) h = on_first ds k
question_devices ds (command.Conflicts k) h = on_first ds k
question_devices ds (command.Knowledge k) h = on_first ds k
question_devices ds (command.Knows k p v) h = on_first ds k

question_entries : (ds : List ModelDevice) (c : Command) → kind_of c ≡ Question → (effect_on ds c).entries ≡ []
question_entries ds (command.New k p r) h = cc
question_entries ds (command.Edit k p r) h = cc
question_entries ds (command.Remove k p) h = cc
question_entries ds (command.Pull t s) h = cc
question_entries ds (command.Narrow k tree) h = cc
question_entries ds (command.Refilter k tree) h = cc
question_entries ds (command.Preview t s) h = refl
question_entries ds (command.List k) h = refl
question_entries ds (command.Conflicts k) h = refl
question_entries ds (command.Knowledge k) h = refl
question_entries ds (command.Knows k p v) h = refl

shows_still : (script : Contents) (c : Command) (old new : KeptFleet) → kind_of c ≡ Question → HasRun c old new → length new.devices ≡ length old.devices → ShowsRun script old → ShowsRun script new
shows_still script c old new asks ran same h =
    let before = run script in
    let shows = ran.shows before h.shown in
    record {
      shown = record {
        devices = subst (AllZip Shows new.devices) (question_devices before.devices c asks) shows.devices;
        log = shows.log ∙ ap (λ es. before.log ++ es) (question_entries before.devices c asks) ∙ append-nil before.log;
      };
      long = same ∙ h.long;
    }

-- the last command of a script is the one that came behind the others

some_same : {A : Type 0} (x y : A) → Some x ≡ Some y → x ≡ y
some_same x y e = cc

is_last : (script old : Contents) (d c : Command) → script ≡ contents old.names old.filters (old.commands ++ d ∷ []) → IsLast c script → script ≡ contents old.names old.filters (old.commands ++ c ∷ [])
is_last script old d c e last =
    let place : length (old.commands ++ d ∷ []) - 1 ≡ length old.commands = omega (arith, length-append old.commands (d ∷ [])) in
    let found : slice_get (old.commands ++ d ∷ []) (length (old.commands ++ d ∷ []) - 1) ≡ Some c = subst (IsLast c) e last in
    let same : Some d ≡ Some c = sym (got_last old.commands d) ∙ sym (ap (slice_get (old.commands ++ d ∷ [])) place) ∙ found in
    subst (λ x. script ≡ contents old.names old.filters (old.commands ++ x ∷ [])) (some_same d c same) e

module _ (script : Contents) (fleet : KeptFleet) (b : ComesBehind said.Command (Some fleet) script) (c : Command) (last : IsLast c script) where
  longer_is : script ≡ contents b.old.names b.old.filters (b.old.commands ++ c ∷ [])
  longer_is = is_last script b.old b.adds.0 c b.adds.1 last

  pub shows_last : (new : KeptFleet) → HasRun c fleet new → length new.devices ≡ length fleet.devices → ShowsRun script new
  shows_last new ran same = subst (λ s. ShowsRun s new) (sym longer_is) (shows_more b.old.names b.old.filters b.old.commands c fleet new b.shown ran same)

  pub answered_last : (answer : Answer) → IsAnswerTo c fleet answer → IsAnswered script
  answered_last answer tells = subst IsAnswered (sym longer_is) (answered_more b.old.names b.old.filters b.old.commands c fleet answer b.answered b.shown tells)

  pub told_last : (answer : Answer) (number : ℕ) (text : List ℕ) → IsAnswerTo c fleet answer → number ≡ length script.commands → text ≡ text_of script number answer → IsToldOf b.old script text
  told_last answer number text tells count is = subst (λ s. IsToldOf b.old s text) (sym longer_is)
      (told_more b.old.names b.old.filters b.old.commands c fleet answer number text b.answered b.shown tells
      (count ∙ ap (λ (s : Contents). length s.commands) longer_is) (is ∙ ap (λ s. text_of s number answer) longer_is))

  pub still_last : (new : KeptFleet) → IsStill said.Command script → HasRun c fleet new → length new.devices ≡ length fleet.devices → ShowsRun b.old new
  still_last new asks ran same = shows_still b.old c fleet new (asks c last) ran same b.shown

-- a line that says nothing

pub told_nothing : (fleet : Option KeptFleet) (script : Contents) (b : ComesBehind said.Nothing fleet script) → IsToldOf b.old script []
told_nothing fleet script b =
    let h = b.answered in let text = texts_from b.old 1 h.answers in
    let was : IsOutput b.old text = record { answers = h.answers; right = h.right; texts = refl } in
    record { before = text; was = was; is = subst (λ s. IsOutput s (text ++ [])) (sym b.adds) (subst (IsOutput b.old) (sym (append-nil text)) was) }

-- what the run of the lines prints

pub printed_live : (text : List ℕ) (script : Contents) → script_of text ≡ Ok script → IsSoundThroughout script → IsAnswered script → (told : List ℕ) × IsPrinted text told
printed_live text script read sound h = (
  texts_from script 1 h.answers,
  record {
    script = script;
    read = read;
    sound = sound;
    printed = record { answers = h.answers; right = h.right; texts = refl };
  },
)

-- the first commands of a script

pub next_commands : (script : Contents) (n k : ℕ) (c : Command) → slice_get script.commands k ≡ Some c → k ≡ n → first_of (n + 1) script ≡ contents script.names script.filters (take n script.commands ++ c ∷ [])
next_commands script n k c here place =
    let found : slice_get script.commands n ≡ Some c = subst (λ i. slice_get script.commands i ≡ Some c) place here in
    ap (contents script.names script.filters) (take_more script.commands n c (slice_get_within script.commands n c found)
    ∙ ap (λ x. take n script.commands ++ x ∷ []) (get_or_from_slice_get script.commands n c c found))

pub shows_next : (script : Contents) (n k : ℕ) (c : Command) (old new : KeptFleet) → slice_get script.commands k ≡ Some c → k ≡ n → ShowsRun (first_of n script) old → HasRun c old new → length new.devices ≡ length old.devices → ShowsRun (first_of (n + 1) script) new
shows_next script n k c old new here place h ran same =
    subst (λ s. ShowsRun s new) (sym (next_commands script n k c here place)) (shows_more script.names script.filters (take n script.commands) c old new h ran same)

pub answered_next : (script : Contents) (n k : ℕ) (c : Command) (old : KeptFleet) (answer : Answer) → slice_get script.commands k ≡ Some c → k ≡ n → ShowsRun (first_of n script) old → IsAnswerTo c old answer → IsAnswered (first_of n script) → IsAnswered (first_of (n + 1) script)
answered_next script n k c old answer here place shown tells h =
    subst IsAnswered (sym (next_commands script n k c here place)) (answered_more script.names script.filters (take n script.commands) c old answer h shown tells)

pub at_last : (script : Contents) (n : ℕ) (c : Command) → slice_get script.commands (n - 1) ≡ Some c → n ≡ length script.commands → IsLast c script
at_last script n c here e = subst (λ k. slice_get script.commands (k - 1) ≡ Some c) e here

-- the same line behind the same script, with the fleet that is there
abbrev pub with_fleet : (slot now : Option KeptFleet) (fleet : KeptFleet) (script : Contents) (b : ComesBehind said.Command slot script) → IfSome now (ShowsRun b.old) → now ≡ Some fleet → ComesBehind said.Command (Some fleet) script
with_fleet slot now fleet script b shown is = record { old = b.old; answered = b.answered; shown = subst (λ s. IfSome s (ShowsRun b.old)) is shown; adds = b.adds }

pub nothing_case : (kind : Said) (fleet : Option KeptFleet) (script : Contents) (told : List ℕ) → kind ≡ said.Nothing → told ≡ [] → (b : ComesBehind kind fleet script) → IsToldOf b.old script told
nothing_case said.Nothing fleet script told e none b = subst (IsToldOf b.old script) (sym none) (told_nothing fleet script b)
nothing_case said.Device fleet script told e none b = cc
nothing_case said.Command fleet script told e none b = cc

pub command_case : (kind : Said) (fleet : Option KeptFleet) (script : Contents) (P : Contents → Type 0) → kind ≡ said.Command → ((b : ComesBehind said.Command fleet script) → P b.old) → (b : ComesBehind kind fleet script) → P b.old
command_case said.Nothing fleet script P e f b = cc
command_case said.Device fleet script P e f b = cc
command_case said.Command fleet script P e f b = f b

pub on_err_weaker : {T E : Type 0} (r : Result T E) (P Q : Type 0) → (P → Q) → OnErr r P → OnErr r Q
on_err_weaker (Ok x) P Q f h = tt
on_err_weaker (Err e) P Q f h = f h
