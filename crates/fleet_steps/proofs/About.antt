-- A run's answers name only devices of its script.
use Rattle.std.proofs.Common.{◌≡◌, ◌⊎◌, ℕ, ◌+◌, ◌/◌, ◌<◌, ◌≤◌, Bool, true, false, not, ◌&&◌, ◌||◌, eqb, ltb, cond, List, [], ◌∷◌, ◌++◌, length, map, inl, inr, refl, sym, ◌∙◌, subst, arith}
use Rattle.std.proofs.lemmas.Bool.{and_parts, or_cases, or_left, or_right, eqb-true}
use Rattle.std.specs.Prelude.{filter, Option, Some, None, IfSome}
use Rattle.photo_record.specs.declared.record.Record.{Record}
use Rattle.photo_record.specs.declared.record.Record.TheVariants.{Removed}
use Rattle.std.specs.List.{AllByRecursion, list_any}
use Rattle.photo_filter_text.specs.Tree.{Tree}
use Rattle.photo_filter_rules.specs.Matching.{matches}
use Rattle.photo_filter_rules.specs.Covers.{covers}
use Rattle.photo_version.specs.Author.{epoch_of_author, same_author}
use Rattle.photo_version.specs.Version.{Version, same_version}
use Rattle.item_knowledge.specs.Fragments.{knows}
use Rattle.photo_model.specs.Entry.{Entry, entry_before, others, put_entry_if, put_entries, is_of_other, supersedes}
use Rattle.photo_model.specs.Device.{ModelDevice, known, holds, knows_entry, selects, new_entry, next_version, made, is_held, narrowed}
use Rattle.photo_model.specs.Refiltered.{refiltered}
use Rattle.photo_model.specs.Conflicts.{conflicts_of, versions_of, pictures_of}
use Rattle.photo_model.specs.Telling.{tell}
use Rattle.photo_model.specs.Pull.{taken, handed, noticed, told, learns_all, leaves_store, leaves_out, pulled, handed_over}
use Rattle.fleet_model.specs.declared.command.Command.{Command}
use Rattle.fleet_model.specs.declared.command.Command.TheVariants as command
use Rattle.fleet_model.specs.Contents.{Contents, devices_of}
use Rattle.fleet_model.specs.Answers.{NotHeld, NotNarrower, Exactly}
use Rattle.photo_script.specs.Reports.{Answer, Tells, TellsKnowledge, IsOfScript, AreOfScript, IsConflictOfScript, AreConflictsOfScript, IsAbout}
use Rattle.fleet_model.specs.Runs.{effect, making, telling, changing, narrowing, pulling, previewing, opening_from}
use Rattle.fleet_steps.specs.Running.{IsOfRun, IsOfFleet}
use Rattle.photo_model.proofs.AllLemmas.{all_append, all_filter, all_put}
use Rattle.fleet_steps.proofs.KnownLemmas.{each_known}
use Rattle.fleet_model.proofs.Effects.{all_are, narrowed_effect, changing_second, narrowing_second}
use Rattle.fleet_model.proofs.Epochs.{next_device}

all_puts : (P : Entry → Type 0) (es entries : List Entry) → AllByRecursion P es → AllByRecursion P entries → AllByRecursion P (put_entries es entries)
all_puts P [] entries new all = all
all_puts P (e ∷ es) entries new all = all_put P entry_before e _ new.0 (all_puts P es entries new.1 all)

all_map : {X Y : Type 0} (P : X → Type 0) (Q : Y → Type 0) (f : X → Y) (xs : List X) → ((x : X) → P x → Q (f x)) → AllByRecursion P xs → AllByRecursion Q (map f xs)
all_map P Q f [] each all = tt
all_map P Q f (x ∷ xs) each all = (each x all.0, all_map P Q f xs each all.1)

-- what follows from an item that passes a test
any_passes : {X : Type 0} (P : X → Type 0) (R : Type 0) (q : X → Bool) (xs : List X) → ((x : X) → P x → q x ≡ true → R) → AllByRecursion P xs → list_any q xs ≡ true → R
any_passes P R q [] each all h = cc
any_passes P R q (x ∷ xs) each all h = elim (or_cases (q x) (list_any q xs) h) [
  | inl here ↦ each x all.0 here
  | inr later ↦ any_passes P R q xs each all.1 later
]

-- a picture's new entry replaces the old ones in one place; other pictures' entries stay
all_made : (P : Entry → Type 0) (b : Bool) (e : Entry) (picture : ℕ) (entries : List Entry) → P e → AllByRecursion P entries → AllByRecursion P (put_entry_if b e (others picture entries))
all_made P true e picture entries p all = all_put P entry_before e _ p (all_filter P (is_of_other picture) entries all)
all_made P false e picture entries p all = all_filter P (is_of_other picture) entries all

-- the devices that a script opens with
opening_of_fleet : (script : Contents) (n : ℕ) (filters : List Tree) → n + length filters ≤ length script.names → AllByRecursion (IsOfFleet script) (opening_from n filters)
opening_of_fleet script n [] h = tt
opening_of_fleet script n (x ∷ xs) h = (record { author = omega arith; store = tt; out = tt; knows = λ p v none. cc }, opening_of_fleet script (n + 1) xs (omega arith))

pub opening_known : (script : Contents) → length script.filters ≤ length script.names → AllByRecursion (IsOfFleet script) (opening_from 0 script.filters)
opening_known script h = opening_of_fleet script 0 script.filters (omega arith)

one_of_three : (a b c : Bool) → ((a || b) || c) ≡ true → ((a || c) ≡ true) ⊎ (b ≡ true)
one_of_three true b c h = inl refl
one_of_three false true c h = inr refl
one_of_three false false c h = inl h

-- what a device knows after it made a version is that version, or was known before
one_known : (script : Contents) (d : ModelDevice) (p : ℕ) (v : Version) → IsOfFleet script d → ((d.every v || same_version (next_version d) v) || d.of p v) ≡ true → IsOfScript script v
one_known script d p v of here =
    elim (one_of_three (d.every v) (same_version (next_version d) v) (d.of p v) here) [
      | inl before ↦ of.knows p v before
      | inr new ↦ subst (λ n. n / 4294967296 < length script.names) (eqb-true d.author.word v.author.word (and_parts (same_author d.author v.author) (eqb (d.counter + 1) v.number) new).0) of.author
    ]

-- a device that makes a version stays of the script
made_known : (script : Contents) (d : ModelDevice) (picture : ℕ) (content : Record) → IsOfFleet script d → IsOfFleet script (made d picture content)
made_known script d picture content of =
    let new : IsOfRun script (new_entry d picture content) = record { itself = of.author; history = λ v here. of.knows picture v here } in
    record {
      author = of.author;
      store = all_made (IsOfRun script) (matches d.tree content) (new_entry d picture content) picture d.store new of.store;
      out = all_made (IsOfRun script) (not (matches d.tree content)) (new_entry d picture content) picture d.out new of.out;
      knows = λ p v here. one_known script d p v of here;
    }

-- so does a device that makes a version only where it holds the picture
changing_known : (script : Contents) (d : ModelDevice) (other : Option ModelDevice) (picture : ℕ) (content : Record) → IsOfFleet script d → IsOfFleet script (changing d other picture content).first
changing_known script d other picture content of =
    elim (is_held d picture) as (λ b. IsOfFleet script (cond b (making d other picture content) (telling d other (Exactly NotHeld))).first) [
      | true ↦ made_known script d picture content of
      | false ↦ of
    ]

-- which versions entries tell of
told_known : (script : Contents) (es : List Entry) (p : ℕ) (v : Version) → AllByRecursion (IsOfRun script) es → tell es p v ≡ true → IsOfScript script v
told_known script es p v all h = any_passes (IsOfRun script) (IsOfScript script v) (λ e. (eqb e.picture p) && (e.history v || same_version e.version v)) es
    (λ e of here. elim (or_cases (e.history v) (same_version e.version v) (and_parts (eqb e.picture p) (e.history v || same_version e.version v) here).1) [
      | inl in_history ↦ of.history v in_history
      | inr itself ↦ subst (λ n. n / 4294967296 < length script.names) (eqb-true e.version.author.word v.author.word (and_parts (same_author e.version.author v.author) (eqb e.version.number v.number) itself).0) of.itself
    ]) all h

module _ (script : Contents) (t s : ModelDevice) (of_t : IsOfFleet script t) (of_s : IsOfFleet script s) where
  taken_known : AllByRecursion (IsOfRun script) (taken t s)
  taken_known = all_filter (IsOfRun script) (λ e. not (knows_entry t e) && selects t e) s.store of_s.store

  handed_known : AllByRecursion (IsOfRun script) (handed t s)
  handed_known = all_filter (IsOfRun script) (λ e. not (knows_entry t e)) s.out of_s.out

  noticed_known : AllByRecursion (IsOfRun script) (noticed t s)
  noticed_known = all_filter (IsOfRun script) (λ e. not (knows_entry t e) && (not (selects t e) && list_any (supersedes e) (holds t))) s.store of_s.store

  coming_known : AllByRecursion (IsOfRun script) (taken t s ++ handed t s)
  coming_known = all_append (IsOfRun script) (taken t s) (handed t s) taken_known handed_known

  all_told : AllByRecursion (IsOfRun script) (told t s)
  all_told = all_append (IsOfRun script) (taken t s ++ handed t s) (noticed t s) coming_known noticed_known

  -- what the target knows after a pull it knew before, was told, or the source knew
  learned_known : (p : ℕ) (v : Version) → known (pulled t s) p v ≡ true → IsOfScript script v
  learned_known p v h = elim (or_cases (t.every v || (learns_all t s && s.every v)) (t.of p v || (tell (told t s) p v || (learns_all t s && s.of p v))) h) [
    | inl every ↦ elim (or_cases (t.every v) (learns_all t s && s.every v) every) [
      | inl own ↦ of_t.knows p v (or_left (t.every v) (t.of p v) own)
      | inr others ↦ of_s.knows p v (or_left (s.every v) (s.of p v) (and_parts (learns_all t s) (s.every v) others).1)
    ]
    | inr of_picture ↦ elim (or_cases (t.of p v) (tell (told t s) p v || (learns_all t s && s.of p v)) of_picture) [
      | inl own ↦ of_t.knows p v (or_right (t.every v) (t.of p v) own)
      | inr more ↦ elim (or_cases (tell (told t s) p v) (learns_all t s && s.of p v) more) [
        | inl tells ↦ told_known script (told t s) p v all_told tells
        | inr others ↦ of_s.knows p v (or_right (s.every v) (s.of p v) (and_parts (learns_all t s) (s.of p v) others).1)
      ]
    ]
  ]

  -- a device that pulls from another stays of the script
  pub pulled_known : IsOfFleet script (pulled t s)
  pulled_known = record {
    author = of_t.author;
    store = all_puts (IsOfRun script) (filter (selects t) (taken t s ++ handed t s)) (filter (λ e. not (leaves_store t s e)) t.store)
        (all_filter (IsOfRun script) (selects t) (taken t s ++ handed t s) coming_known) (all_filter (IsOfRun script) (λ e. not (leaves_store t s e)) t.store of_t.store);
    out = all_puts (IsOfRun script) (filter (λ e. not (selects t e)) (taken t s ++ handed t s)) (filter (λ e. not (leaves_out t s e)) t.out)
        (all_filter (IsOfRun script) (λ e. not (selects t e)) (taken t s ++ handed t s) coming_known) (all_filter (IsOfRun script) (λ e. not (leaves_out t s e)) t.out of_t.out);
    knows = learned_known;
  }

  -- the source stays of the script too
  pub handed_over_known : IsOfFleet script (handed_over t s)
  handed_over_known = record { author = of_s.author; store = of_s.store; out = all_filter (IsOfRun script) (knows_entry t) s.out of_s.out; knows = of_s.knows }

-- a device that gets another filter stays of the script
narrowed_known : (script : Contents) (d : ModelDevice) (tree : Tree) → IsOfFleet script d → IsOfFleet script (narrowed tree d)
narrowed_known script d tree of = record {
  author = of.author;
  store = all_filter (IsOfRun script) (λ e. matches tree e.content) d.store of.store;
  out = all_puts (IsOfRun script) (filter (λ e. not (matches tree e.content)) d.store) d.out (all_filter (IsOfRun script) (λ e. not (matches tree e.content)) d.store of.store) of.out;
  knows = of.knows;
}

-- a device that begins its next epoch with any filter stays of the script
refiltered_known : (script : Contents) (d : ModelDevice) (tree : Tree) → epoch_of_author d.author < 4294967295 → IsOfFleet script d → IsOfFleet script (refiltered tree d)
refiltered_known script d tree few of =
    let all = all_append (IsOfRun script) d.store d.out of.store of.out in
    record {
      author = subst (λ n. n < length script.names) (sym (next_device d.author few)) of.author;
      store = all_puts (IsOfRun script) (filter (λ e. matches tree e.content) (holds d)) [] (all_filter (IsOfRun script) (λ e. matches tree e.content) (holds d) all) tt;
      out = all_puts (IsOfRun script) (filter (λ e. not (matches tree e.content)) (holds d)) [] (all_filter (IsOfRun script) (λ e. not (matches tree e.content)) (holds d) all) tt;
      knows = λ p v h. told_known script (holds d) p v all h;
    }

narrowing_known : (script : Contents) (d : ModelDevice) (other : Option ModelDevice) (tree : Tree) → IsOfFleet script d → IsOfFleet script (narrowing d other tree).first
narrowing_known script d other tree of =
    elim (covers d.tree tree) as (λ b. IsOfFleet script (cond b (narrowed_effect d other tree) (telling d other (Exactly NotNarrower))).first) [
      | true ↦ narrowed_known script d tree of
      | false ↦ of
    ]

-- the entries of a device name versions of the script

entries_about : (script : Contents) (es : List Entry) → AllByRecursion (IsOfRun script) es → AreOfScript script es
entries_about script es all = all_are (IsOfRun script) (λ e. IsOfScript script e.version) es (λ e of. of.itself) all

changing_about : (script : Contents) (d : ModelDevice) (other : Option ModelDevice) (picture : ℕ) (content : Record) → IsOfFleet script d
    → (answer : Answer) → Tells answer (changing d other picture content).report → IsAbout script answer
changing_about script d other picture content of answer tells =
    elim (is_held d picture) as (λ b. Tells answer (cond b (making d other picture content) (telling d other (Exactly NotHeld))).report → IsAbout script answer) [
      | true ↦ λ is. subst (IsAbout script) (sym is) of.author
      | false ↦ λ is. subst (IsAbout script) (sym is) tt
    ] tells

-- the knowledge of a device names versions of the script
knowledge_about : (script : Contents) (d : ModelDevice) (n : ℕ) → n < length script.names → IsOfFleet script d → (answer : Answer) → TellsKnowledge answer n (known d) → IsAbout script answer
knowledge_about script d n h of answer tells =
    let each = λ (p : ℕ) (v : Version) (above : 0 < p) (here : knows tells.fragments p v ≡ true). of.knows p v (sym (tells.denoted p above v) ∙ here) in
    subst (IsAbout script) (sym tells.given) (h, each_known tells.fragments (IsOfScript script) tells.normal each)

narrowing_about : (script : Contents) (d : ModelDevice) (other : Option ModelDevice) (tree : Tree) (answer : Answer) → Tells answer (narrowing d other tree).report → IsAbout script answer
narrowing_about script d other tree answer tells =
    elim (covers d.tree tree) as (λ b. Tells answer (cond b (narrowed_effect d other tree) (telling d other (Exactly NotNarrower))).report → IsAbout script answer) [
      | true ↦ λ is. subst (IsAbout script) (sym is) tt
      | false ↦ λ is. subst (IsAbout script) (sym is) tt
    ] tells

pulling_about : (script : Contents) (d : ModelDevice) (other : Option ModelDevice) (answer : Answer) → Tells answer (pulling d other).report → IsAbout script answer
pulling_about script d None answer tells = subst (IsAbout script) (sym tells) tt
pulling_about script d (Some s) answer tells = subst (IsAbout script) (sym tells) tt

previewing_about : (script : Contents) (d : ModelDevice) (other : Option ModelDevice) (answer : Answer) → Tells answer (previewing d other).report → IsAbout script answer
previewing_about script d None answer tells = subst (IsAbout script) (sym tells) tt
previewing_about script d (Some s) answer tells = subst (IsAbout script) (sym tells) tt

-- the versions of a picture are of the script
conflict_about : (script : Contents) (es : List Entry) (p : ℕ) → AllByRecursion (IsOfRun script) es → IsConflictOfScript script (versions_of es p)
conflict_about script es p all = all_map (IsOfRun script) (IsOfScript script) (λ e. e.version) (filter (λ e. eqb e.picture p) es) (λ e of. of.itself) (all_filter (IsOfRun script) (λ e. eqb e.picture p) es all)

each_about : (script : Contents) (es : List Entry) (ps : List ℕ) → AllByRecursion (IsOfRun script) es → AreConflictsOfScript script (map (versions_of es) ps)
each_about script es [] all = tt
each_about script es (p ∷ ps) all = (conflict_about script es p all, each_about script es ps all)

conflicts_about : (script : Contents) (d : ModelDevice) → IsOfFleet script d → AreConflictsOfScript script (conflicts_of d)
conflicts_about script d of =
    let es = put_entries d.store d.out in
    all_filter (IsConflictOfScript script) (λ c. ltb 1 (length c.versions)) (map (versions_of es) (pictures_of es)) (each_about script es (pictures_of es) (all_puts (IsOfRun script) d.store d.out of.store of.out))

-- a command's devices stay of the script, and its right answer names devices of the script

pub effect_known : (script : Contents) (c : Command) (d : ModelDevice) (other : Option ModelDevice) → epoch_of_author d.author < 4294967295 → IsOfFleet script d → IfSome other (IsOfFleet script) → IsOfFleet script (effect c d other).first
effect_known script (command.New n picture content) d other few of more = made_known script d picture content of
effect_known script (command.Edit n picture content) d other few of more = changing_known script d other picture content of
effect_known script (command.Remove n picture) d other few of more = changing_known script d other picture Removed of
effect_known script (command.Pull target source) d None few of more = of
effect_known script (command.Pull target source) d (Some s) few of more = pulled_known script d s of more
effect_known script (command.Narrow n tree) d other few of more = narrowing_known script d other tree of
effect_known script (command.Refilter n tree) d other few of more = refiltered_known script d tree few of
effect_known script (command.Preview target source) d None few of more = of
effect_known script (command.Preview target source) d (Some s) few of more = of
effect_known script (command.List n) d other few of more = of
effect_known script (command.Conflicts n) d other few of more = of
effect_known script (command.Knowledge n) d other few of more = of
effect_known script (command.Knows n picture v) d other few of more = of

pub effect_known_second : (script : Contents) (c : Command) (d : ModelDevice) (other : Option ModelDevice) → IsOfFleet script d → IfSome other (IsOfFleet script) → IfSome (effect c d other).second (IsOfFleet script)
effect_known_second script (command.New n picture content) d other of more = more
effect_known_second script (command.Edit n picture content) d other of more = subst (λ o. IfSome o (IsOfFleet script)) (sym (changing_second d other picture content)) more
effect_known_second script (command.Remove n picture) d other of more = subst (λ o. IfSome o (IsOfFleet script)) (sym (changing_second d other picture Removed)) more
effect_known_second script (command.Pull target source) d None of more = tt
effect_known_second script (command.Pull target source) d (Some s) of more = handed_over_known script d s of more
effect_known_second script (command.Narrow n tree) d other of more = subst (λ o. IfSome o (IsOfFleet script)) (sym (narrowing_second d other tree)) more
effect_known_second script (command.Refilter n tree) d other of more = more
effect_known_second script (command.Preview target source) d None of more = tt
effect_known_second script (command.Preview target source) d (Some s) of more = more
effect_known_second script (command.List n) d other of more = more
effect_known_second script (command.Conflicts n) d other of more = more
effect_known_second script (command.Knowledge n) d other of more = more
effect_known_second script (command.Knows n picture v) d other of more = more

pub effect_about : (script : Contents) (c : Command) (d : ModelDevice) (other : Option ModelDevice) → (devices_of c).0 < length script.names → IsOfFleet script d
    → (answer : Answer) → Tells answer (effect c d other).report → IsAbout script answer
effect_about script (command.New n picture content) d other h of answer tells = subst (IsAbout script) (sym tells) of.author
effect_about script (command.Edit n picture content) d other h of answer tells = changing_about script d other picture content of answer tells
effect_about script (command.Remove n picture) d other h of answer tells = changing_about script d other picture Removed of answer tells
effect_about script (command.Pull target source) d other h of answer tells = pulling_about script d other answer tells
effect_about script (command.Narrow n tree) d other h of answer tells = narrowing_about script d other tree answer tells
effect_about script (command.Refilter n tree) d other h of answer tells = subst (IsAbout script) (sym tells) tt
effect_about script (command.Preview target source) d other h of answer tells = previewing_about script d other answer tells
effect_about script (command.List n) d other h of answer tells = subst (IsAbout script) (sym tells) (h, entries_about script d.store of.store, entries_about script d.out of.out)
effect_about script (command.Conflicts n) d other h of answer tells = subst (IsAbout script) (sym tells) (h, conflicts_about script d of)
effect_about script (command.Knowledge n) d other h of answer tells = knowledge_about script d n h of answer tells
effect_about script (command.Knows n picture v) d other h of answer tells = subst (IsAbout script) (sym tells) tt
