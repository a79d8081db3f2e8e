-- The version that a command has just made, as a device holds it, and which commands make one.
use Rattle.std.proofs.Common.{◌≡◌, ℕ, ◌<◌, Bool, true, false, cond, ◌==◌, List, [], ◌∷◌, ◌++◌, length, get_or, set, inl, inr, refl, sym, ap, ap₂, ◌∙◌, subst, length-set, arith}
use Rattle.std.specs.Prelude.{Option, Some, None}
use Rattle.std.specs.List.{AllZip}
use Rattle.std.specs.Option.{option_to_list}
use Rattle.std.proofs.lemmas.Bool.{and_parts, and_from, eq-eqb}
use Rattle.std.proofs.lemmas.List.{map-append}
use Rattle.photo_record.specs.declared.record.Record.{Record}
use Rattle.photo_record.specs.declared.record.Record.TheVariants.{Removed}
use Rattle.photo_filter_text.specs.Tree.{Tree, All}
use Rattle.photo_filter_rules.specs.Matching.{matches}
use Rattle.photo_filter_rules.specs.Covers.{covers}
use Rattle.photo_version.specs.Author.{author}
use Rattle.photo_version.specs.Version.{Version, same_version}
use Rattle.photo_device.specs.declared.held.Held.{Held}
use Rattle.photo_model.specs.Entry.{Entry}
use Rattle.photo_device.specs.Held.{entry_of, entries_of, is_of, find_version_of}
use Rattle.photo_model.specs.Device.{ModelDevice, holds, is_held, opening, made, new_entry, new_place, next_version}
use Rattle.photo_device.specs.Device.{Kept, Shows}
use Rattle.fleet_model.specs.declared.command.Command.{Command}
use Rattle.fleet_model.specs.declared.command.Command.TheVariants as command
use Rattle.fleet_model.specs.Contents.{devices_of}
use Rattle.fleet_model.specs.Answers.{Made, NotHeld, NotNarrower, Exactly}
use Rattle.photo_script.specs.Reports.{Plain, Answer, Tells}
use Rattle.fleet_model.specs.Runs.{making, telling, changing, narrowing, pulling, device_at}
use Rattle.fleet_model.specs.Members.{In, here, there}
use Rattle.fleet_model.specs.Steps.{devices_after, effect_on}
use Rattle.fleet_steps.specs.Issued.{picture_of, version_told}
use Rattle.fleet_model.proofs.Members.{in_nothing, in_left, in_right}
use Rattle.fleet_model.proofs.Superseding.{clash, is_same_version}
use Rattle.fleet_model.proofs.Making.{in_holds_made, new_stored, new_out}
use Rattle.fleet_model.proofs.Zipped.{zip_at, zip_long}
use Rattle.fleet_model.proofs.Places.{at_same}
use Rattle.fleet_model.proofs.Effects.{narrowed_effect}

later_one : (p : ℕ) (v : Version) (e : Entry) (h : Held) (hs : List Held) → e.picture ≡ p → e.version ≡ v → is_of h p v ≡ false → In e (entries_of (h ∷ hs)) → In e (entries_of hs)
later_one p v e h hs picture version is (there j) = j
later_one p v e h hs picture version is (here same) =
    let one : (h.picture == p) ≡ true = eq-eqb _ _ (sym (ap (λ (x : Entry). x.picture) same) ∙ picture) in
    let other : same_version h.version v ≡ true = is_same_version _ _ (sym (ap (λ (x : Entry). x.version) same) ∙ version) in
    clash _ (and_from _ _ one other) is

-- the first version found shows the only entry of that picture and version
found_only : (p : ℕ) (v : Version) (e : Entry) (helds : List Held) → In e (entries_of helds) → e.picture ≡ p → e.version ≡ v
    → ((g : Entry) → In g (entries_of helds) → (g.picture == p) ≡ true → g ≡ e) → entries_of (option_to_list (find_version_of p v helds)) ≡ e ∷ []
found_only p v e [] i picture version only = in_nothing i
found_only p v e (h ∷ hs) i picture version only = by_test (is_of h p v) refl (λ j. found_only p v e hs j picture version (λ g k same. only g (there k) same))
  where
    by_test : (b : Bool) → is_of h p v ≡ b → (In e (entries_of hs) → entries_of (option_to_list (find_version_of p v hs)) ≡ e ∷ []) → entries_of (option_to_list (cond b (Some h) (find_version_of p v hs))) ≡ e ∷ []
    by_test true is rest = ap (λ x. x ∷ []) (only (entry_of h) (here refl) (and_parts _ _ is).0)
    by_test false is rest = rest (later_one p v e h hs picture version is i)

new_held : (m : ModelDevice) (p : ℕ) (r : Record) → In (new_entry m p r) (holds (made m p r))
new_held m p r = by_test (matches m.tree r) refl
  where
    by_test : (b : Bool) → matches m.tree r ≡ b → In (new_entry m p r) (holds (made m p r))
    by_test true is = in_left (made m p r).out (new_stored m p r is)
    by_test false is = in_right (made m p r).store (new_out m p r is)

only_new : (m : ModelDevice) (p : ℕ) (r : Record) (g : Entry) → In g (holds (made m p r)) → (g.picture == p) ≡ true → g ≡ new_entry m p r
only_new m p r g i same = elim (in_holds_made m p r i) [ inl e ↦ e | inr other ↦ clash _ same other.1 ]

-- a device holds the new entry of the version that it made last
pub made_found : (d : Kept) (m : ModelDevice) (p : ℕ) (r : Record) → Shows d (made m p r)
    → entries_of (option_to_list (find_version_of p (next_version m) (d.store ++ d.out))) ≡ new_entry m p r ∷ []
made_found d m p r shows =
    let all : entries_of (d.store ++ d.out) ≡ holds (made m p r) = map-append entry_of d.store d.out ∙ ap₂ (λ x y. x ++ y) shows.store shows.out in
    found_only p (next_version m) (new_entry m p r) (d.store ++ d.out)
    (subst (In (new_entry m p r)) (sym all) (new_held m p r)) refl refl
    (λ g i same. only_new m p r g (subst (In g) all i) same)

-- a command that makes a version
pub making_issued : (d : Kept) (m : ModelDevice) (other : Option ModelDevice) (p : ℕ) (r : Record) (a : Answer) (v : Version) → a ≡ Plain (Made (next_version m) (new_place m r)) → version_told a ≡ Some v → Shows d (made m p r)
    → entries_of (option_to_list (find_version_of p v (d.store ++ d.out))) ≡ (making m other p r).entries
making_issued d m other p r a v told is shows =
    let same : Some v ≡ Some (next_version m) = sym is ∙ ap version_told told in
    let v_is : v ≡ next_version m = cc in
    subst (λ w. entries_of (option_to_list (find_version_of p w (d.store ++ d.out))) ≡ new_entry m p r ∷ []) (sym v_is) (made_found d m p r shows)

-- the device that a command changed, at its place
placed : (devices : List Kept) (models : List ModelDevice) (k : ℕ) (x : ModelDevice) (d0 : Kept) → k < length devices → AllZip Shows devices (set models k x) → Shows (get_or devices k d0) x
placed devices models k x d0 h shown =
    let long = zip_long Shows devices (set models k x) shown ∙ length-set models k x in
    subst (Shows (get_or devices k d0)) (at_same models k x (omega (arith, long))) (zip_at Shows devices (set models k x) k d0 (opening (author k) All) shown h)

abbrev IsIssued : List Kept → Kept → ℕ → ℕ → Version → List Entry → Type 0
IsIssued devices d0 k p v entries = entries_of (option_to_list (find_version_of p v ((get_or devices k d0).store ++ (get_or devices k d0).out))) ≡ entries

new_issued : (devices : List Kept) (models : List ModelDevice) (d0 : Kept) (k p q : ℕ) (r : Record) (a : Answer) (v : Version) → k < length devices → q ≡ p
    → AllZip Shows devices (set models k (made (device_at models k) q r)) → a ≡ Plain (Made (next_version (device_at models k)) (new_place (device_at models k) r)) → version_told a ≡ Some v
    → IsIssued devices d0 k p v (new_entry (device_at models k) q r ∷ [])
new_issued devices models d0 k p q r a v h same shown told is =
    let m = device_at models k in
    subst (λ x. IsIssued devices d0 k x v (new_entry m q r ∷ [])) same (making_issued (get_or devices k d0) m None q r a v told is (placed devices models k (made m q r) d0 h shown))

either_issued : (devices : List Kept) (models : List ModelDevice) (d0 : Kept) (k p q : ℕ) (r : Record) (a : Answer) (v : Version) (b : Bool) → k < length devices → q ≡ p
    → AllZip Shows devices (set models k (cond b (making (device_at models k) None q r) (telling (device_at models k) None (Exactly NotHeld))).first)
    → Tells a (cond b (making (device_at models k) None q r) (telling (device_at models k) None (Exactly NotHeld))).report → version_told a ≡ Some v
    → IsIssued devices d0 k p v (cond b (making (device_at models k) None q r) (telling (device_at models k) None (Exactly NotHeld))).entries
either_issued devices models d0 k p q r a v true h same shown told is = new_issued devices models d0 k p q r a v h same shown told is
either_issued devices models d0 k p q r a v false h same shown told is = let not_made = ap version_told told in cc

change_issued : (devices : List Kept) (models : List ModelDevice) (d0 : Kept) (k p q : ℕ) (r : Record) (a : Answer) (v : Version) → k < length devices → q ≡ p
    → AllZip Shows devices (set models k (changing (device_at models k) None q r).first) → Tells a (changing (device_at models k) None q r).report → version_told a ≡ Some v
    → IsIssued devices d0 k p v (changing (device_at models k) None q r).entries
change_issued devices models d0 k p q r a v h same shown told is = either_issued devices models d0 k p q r a v (is_held (device_at models k) q) h same shown told is

-- the log gains what the device holds of the version that the command reports as made
pub issued_is : (devices : List Kept) (models : List ModelDevice) (d0 : Kept) (c : Command) (a : Answer) (p : ℕ) (v : Version) → (devices_of c).0 < length devices → picture_of c ≡ Some p → version_told a ≡ Some v
    → AllZip Shows devices (devices_after models c) → Tells a (effect_on models c).report → IsIssued devices d0 (devices_of c).0 p v (effect_on models c).entries
issued_is devices models d0 (command.New k q r) a p v h of is shown told = let same : q ≡ p = cc in new_issued devices models d0 k p q r a v h same shown told is
issued_is devices models d0 (command.Edit k q r) a p v h of is shown told = let same : q ≡ p = cc in change_issued devices models d0 k p q r a v h same shown told is
issued_is devices models d0 (command.Remove k q) a p v h of is shown told = let same : q ≡ p = cc in change_issued devices models d0 k p q Removed a v h same shown told is
issued_is devices models d0 (command.Pull t s) a p v h of is shown told = cc
issued_is devices models d0 (command.Narrow k tree) a p v h of is shown told = cc
issued_is devices models d0 (command.Refilter k tree) a p v h of is shown told = cc
issued_is devices models d0 (command.Preview t s) a p v h of is shown told = cc
issued_is devices models d0 (command.List k) a p v h of is shown told = cc
issued_is devices models d0 (command.Conflicts k) a p v h of is shown told = cc
issued_is devices models d0 (command.Knowledge k) a p v h of is shown told = cc
issued_is devices models d0 (command.Knows k q w) a p v h of is shown told = cc

pub narrowing_logs : (d : ModelDevice) (other : Option ModelDevice) (tree : Tree) → (narrowing d other tree).entries ≡ []
narrowing_logs d other tree =
    elim (covers d.tree tree) as (λ b. (cond b (narrowed_effect d other tree) (telling d other (Exactly NotNarrower))).entries ≡ []) [ true ↦ refl | false ↦ refl ]

pulling_logs : (d : ModelDevice) (other : Option ModelDevice) → (pulling d other).entries ≡ []
pulling_logs d None = refl
pulling_logs d (Some s) = refl

-- a command that names no picture makes no version
pub none_named : (models : List ModelDevice) (c : Command) → picture_of c ≡ None → (effect_on models c).entries ≡ []
none_named models (command.New k q r) of = cc
none_named models (command.Edit k q r) of = cc
none_named models (command.Remove k q) of = cc
none_named models (command.Pull t s) of = pulling_logs (device_at models t) (Some (device_at models s))
none_named models (command.Narrow k tree) of = narrowing_logs (device_at models k) None tree
none_named models (command.Refilter k tree) of = refl
none_named models (command.Preview t s) of = refl
none_named models (command.List k) of = refl
none_named models (command.Conflicts k) of = refl
none_named models (command.Knowledge k) of = refl
none_named models (command.Knows k q w) of = refl
