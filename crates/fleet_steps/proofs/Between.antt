-- Commands on one device and on two devices of a run.
use Rattle.std.proofs.Common.{◌≡◌, ◌≢◌, ℕ, ◌+◌, ◌-◌, ◌<◌, ◌≤◌, Bool, true, false, cond, eqb, inl, inr, subst₂, List, [], ◌∷◌, ◌++◌, length, get_or, set, take, drop, refl, sym, ap, ◌∙◌, subst, arith}
use Rattle.std.specs.Prelude.{Option, Some, None, Result, Ok, Err, OnOk, OnErr, IfOk, IfSome}
use Rattle.std.specs.Option.{option_map}
use Rattle.std.specs.List.{AllZip}
use Rattle.std.proofs.lemmas.List.{append-nil, take_all, drop_all, get_or_append_left, get_or-append-add, set-append_left, set-append_right, length-set, map-append}
use Rattle.std.proofs.lemmas.Bool.{ne_eqb, cases_eq}
use Rattle.photo_filter_text.specs.Tree.{All}
use Rattle.photo_version.specs.Author.{author, device_of_author, is_earlier_epoch}
use Rattle.photo_version.specs.Version.{Version, version, same_version}
use Rattle.photo_device.specs.declared.held.Held.{Held}
use Rattle.photo_model.specs.Entry.{Entry}
use Rattle.photo_device.specs.Held.{find_version, entry_of, entries_of}
use Rattle.photo_model.specs.Device.{ModelDevice, holds, known, opening}
use Rattle.photo_device.specs.Device.{Kept, Shows}
use Rattle.photo_model.specs.Pull.{handed_over}
use Rattle.fleet_model.specs.Runs.{effect, device_at, with_second}
use Rattle.photo_device.proofs.Counts.{same_version_is}
use Rattle.fleet_model.specs.Members.{In, here, there}
use Rattle.fleet_model.specs.declared.command.Command.{Command}
use Rattle.fleet_model.specs.declared.command.Command.TheVariants as command
use Rattle.photo_script.specs.declared.report.Report.{Report}
use Rattle.fleet_model.specs.Contents.{devices_of, IsWithin}
use Rattle.photo_script.specs.Reports.{Tells, answer_of}
use Rattle.fleet_model.specs.Steps.{devices_after, effect_on}
use Rattle.fleet_steps.specs.Between.{MayPull, AreReady, HaveRun}
use Rattle.fleet_steps.specs.Wanting.{MayWantMemory}
use Rattle.fleet_model.proofs.Zipped.{zip_at, zip_set, zip_long}

-- the version that was found among those held
record IsFound (v : Version) (helds : List Held) (h : Held) : Type 0 where
  held : In (entry_of h) (entries_of helds)
  is : h.version ≡ v

found : (v : Version) (helds : List Held) (h : Held) → find_version v helds ≡ Some h → IsFound v helds h
found v [] h e = cc
found v (x ∷ xs) h e = by_test (same_version x.version v) (same_version_is x.version v) (found v xs h) e
  where
    by_test : (b : Bool) → (b ≡ true → x.version ≡ v) → (find_version v xs ≡ Some h → IsFound v xs h) → cond b (Some x) (find_version v xs) ≡ Some h → IsFound v (x ∷ xs) h
    by_test true here_is more e =
        let same : x ≡ h = cc in
        record { held = here (ap entry_of (sym same)); is = ap (λ (y : Held). y.version) (sym same) ∙ here_is refl }
    by_test false here_is more e = let later = more e in record { held = there later.held; is = later.is }

-- the entries that a device holds are those of the model device that it shows
held_by : (d : Kept) (m : ModelDevice) → Shows d m → entries_of (d.store ++ d.out) ≡ holds m
held_by d m shows = map-append entry_of d.store d.out ∙ (λ i. shows.store i ++ shows.out i)

-- each of the ready devices may pull from each other
pub may_pull : (devices : List Kept) (t s : ℕ) (d e : Kept) → AreReady devices → t < length devices → s < length devices → s ≢ t → MayPull (get_or devices t d) (get_or devices s e)
may_pull devices t s d e are ht hs other =
    let models = are.models in
    let long = zip_long Shows devices models are.shown in
    let target = get_or devices t d in
    let source = get_or devices s e in
    let tm = device_at models t in
    let sm = device_at models s in
    let t_shows : Shows target tm = zip_at Shows devices models t d (opening (author t) All) are.shown ht in
    let s_shows : Shows source sm = zip_at Shows devices models s e (opening (author s) All) are.shown hs in
    let tin : t < length models = omega arith in
    let sin : s < length models = omega arith in
    let by_t : device_of_author target.author ≡ t = ap device_of_author t_shows.author ∙ are.ready.author t tin in
    let by_s : device_of_author source.author ≡ s = ap device_of_author s_shows.author ∙ are.ready.author s sin in
    record {
      differ = (λ i. eqb (by_t i) (by_s i)) ∙ ne_eqb t s (λ e. other (sym e));
      one = λ v h g ft fs.
          let th = found v (target.store ++ target.out) h ft in
          let sh = found v (source.store ++ source.out) g fs in
          let th_in : In (entry_of h) (holds tm) = subst (In (entry_of h)) (held_by target tm t_shows) th.held in
          let sh_in : In (entry_of g) (holds sm) = subst (In (entry_of g)) (held_by source sm s_shows) sh.held in
          ap (λ (x : Entry). x.picture) (are.ready.one t s tin sin (entry_of h) (entry_of g) th_in sh_in (th.is ∙ sym sh.is));
      own = record {
        own = λ p n above k.
            let known_too : known sm p (version tm.author n) ≡ true = ap (λ a. known sm p (version a n)) (sym t_shows.author) ∙ sym (s_shows.known p above (version target.author n)) ∙ k in
            let counted = are.ready.own t s p n tin sin known_too in
            let same = t_shows.counter in
            omega arith;
        later = λ p v above later. s_shows.known p above v ∙ are.ready.later t s p v tin sin (subst (λ a. is_earlier_epoch a v.author ≡ true) t_shows.author later);
      };
    }

-- a list that is split in two: an item of the front, and the first item of the back

pub front_at : {A : Type 0} (xs front back : List A) (i : ℕ) (d : A) → xs ≡ front ++ back → i < length front → get_or front i d ≡ get_or xs i d
front_at xs front back i d cut h = sym (ap (λ l. get_or l i d) cut ∙ get_or_append_left front back d i h)

pub back_at : {A : Type 0} (xs front back : List A) (k : ℕ) (d : A) → xs ≡ front ++ back → length front ≡ k → get_or back 0 d ≡ get_or xs k d
back_at xs front back k d cut long =
    let place : length front + 0 ≡ k = omega arith in
    sym (ap (λ l. get_or l k d) cut ∙ ap (λ n. get_or (front ++ back) n d) (sym place) ∙ get_or-append-add front back 0 d)

pub both_set : {A : Type 0} (xs front back : List A) (i k : ℕ) (a b : A) → xs ≡ front ++ back → length front ≡ k → i < k → set front i a ++ set back 0 b ≡ set (set xs i a) k b
both_set xs front back i k a b cut long h =
    let none : k - k ≡ 0 = omega arith in
    let same : length (set front i a) ≡ k = omega (arith, long, length-set front i a) in
    sym (ap (λ l. set (set l i a) k b) cut ∙ ap (λ l. set l k b) (set-append_left front back i a (omega arith)) ∙ set-append_right (set front i a) back k k b same (omega arith) ∙ ap (λ n. set front i a ++ set back n b) none)

-- the items of a list that overwrites one of the same length
pub written_back : {A : Type 0} (new items : List A) (n : ℕ) → length new ≡ length items → n ≡ length items → take n (new ++ drop (length new) items) ≡ new
written_back new items n same long =
    ap (λ l. take n (new ++ l)) (drop_all (length new) items (omega arith)) ∙ ap (take n) (append-nil new) ∙ take_all n new (omega arith)

-- the target may pull from the source, where the target is at a lower place
pub may_pull_behind : (devices front back : List Kept) (t s : ℕ) (d e : Kept) → AreReady devices → devices ≡ front ++ back → length front ≡ s → t < s → s < length devices → MayPull (get_or front t d) (get_or back 0 e)
may_pull_behind devices front back t s d e are cut long h hs =
    subst (λ (x : Kept). MayPull x (get_or back 0 e)) (sym (front_at devices front back t d cut (omega arith)))
    (subst (MayPull (get_or devices t d)) (sym (back_at devices front back s e cut long)) (may_pull devices t s d e are (omega arith) hs (omega arith)))

-- the target may pull from the source, where the target is at a higher place
pub may_pull_ahead : (devices front back : List Kept) (t s : ℕ) (d e : Kept) → AreReady devices → devices ≡ front ++ back → length front ≡ t → s < t → t < length devices → MayPull (get_or back 0 d) (get_or front s e)
may_pull_ahead devices front back t s d e are cut long h ht =
    subst (λ (x : Kept). MayPull x (get_or front s e)) (sym (back_at devices front back t d cut long))
    (subst (MayPull (get_or devices t d)) (sym (front_at devices front back s e cut (omega arith))) (may_pull devices t s d e are ht (omega arith) (omega arith)))

-- a command on two devices

-- two different places of devices
pub record AreTwo (devices : List Kept) (t s : ℕ) : Type 0 where
  pub target : t < length devices
  pub source : s < length devices
  pub apart : s ≢ t
  pub ahead : s ≤ t → s < t

pub two_within : (c : Command) (devices : List Kept) (t s : ℕ) → (devices_of c).0 ≡ t → (devices_of c).1 ≡ Some s → IsWithin (length devices) c → AreTwo devices t s
two_within c devices t s first second within =
    let target : t < length devices = subst (λ (k : ℕ). k < length devices) first within.0 in
    let other : (s < length devices) × (s ≢ t) = subst₂ (λ (k : ℕ) (o : Option ℕ). IfSome o (λ n. (n < length devices) × (n ≢ k))) first second within.1 in
    record {
      target = target;
      source = other.0;
      apart = other.1;
      ahead = λ least. elim (cases_eq s t) [ inl same ↦ absurd (other.1 same) | inr apart ↦ omega (arith, least, apart) ];
    }

-- the command gives back a second device where it got one
second_stays : (c : Command) (s : ℕ) (m other : ModelDevice) → (devices_of c).1 ≡ Some s → (x : ModelDevice) × ((effect c m (Some other)).second ≡ Some x)
second_stays (command.New k p r) s m other two = cc
second_stays (command.Edit k p r) s m other two = cc
second_stays (command.Remove k p) s m other two = cc
second_stays (command.Pull t k) s m other two = (handed_over m other, refl)
second_stays (command.Narrow k tree) s m other two = cc
second_stays (command.Refilter k tree) s m other two = cc
second_stays (command.Preview t k) s m other two = (other, refl)
second_stays (command.List k) s m other two = cc
second_stays (command.Conflicts k) s m other two = cc
second_stays (command.Knowledge k) s m other two = cc
second_stays (command.Knows k p v) s m other two = cc

-- its effect, by the places of its devices
two_after : (c : Command) (models : List ModelDevice) (t s : ℕ) (x : ModelDevice) → (devices_of c).0 ≡ t → (devices_of c).1 ≡ Some s → (effect c (device_at models t) (Some (device_at models s))).second ≡ Some x
    → devices_after models c ≡ set (set models t (effect c (device_at models t) (Some (device_at models s))).first) s x
two_after c models t s x first second is = (λ i.
    let done = effect c (device_at models (first i)) (option_map (device_at models) (second i)) in
    with_second (second i) done.second (set models (first i) done.first))
    ∙ ap (λ (o : Option ModelDevice). with_second (Some s) o (set models t (effect c (device_at models t) (Some (device_at models s))).first)) is

-- the devices after the command
pub two_show : {E : Type 0} (r : Result Report E) (devices new : List Kept) (c : Command) (t s : ℕ) (d e target source a b : Kept) → target ≡ get_or devices t d → source ≡ get_or devices s e → t < length devices → s < length devices → new ≡ set (set devices t a) s b
    → (devices_of c).0 ≡ t → (devices_of c).1 ≡ Some s
    → OnOk r ((tm sm : ModelDevice) → Shows target tm → Shows source sm → Shows a (effect c tm (Some sm)).first)
    → OnOk r ((tm sm : ModelDevice) → Shows target tm → Shows source sm → IfSome (effect c tm (Some sm)).second (Shows b))
    → OnOk r (HaveRun c devices new)
two_show (Err refused) devices new c t s d e target source a b is_t is_s ht hs is_new first second shows_first shows_second = tt
two_show (Ok report) devices new c t s d e target source a b is_t is_s ht hs is_new first second shows_first shows_second = λ models shown.
    let tm = device_at models t in
    let sm = device_at models s in
    let t_shows : Shows target tm = subst (λ (x : Kept). Shows x tm) (sym is_t) (zip_at Shows devices models t d (opening (author t) All) shown ht) in
    let s_shows : Shows source sm = subst (λ (x : Kept). Shows x sm) (sym is_s) (zip_at Shows devices models s e (opening (author s) All) shown hs) in
    let done = effect c tm (Some sm) in
    let x = second_stays c s tm sm second in
    let b_shows : Shows b x.0 = subst (λ (o : Option ModelDevice). IfSome o (Shows b)) x.1 (shows_second tm sm t_shows s_shows) in
    subst (λ (l : List Kept). AllZip Shows l (devices_after models c)) (sym is_new)
    (subst (AllZip Shows (set (set devices t a) s b)) (sym (two_after c models t s x.0 first second x.1))
    (zip_set Shows (set devices t a) (set models t done.first) s b x.0 (zip_set Shows devices models t a done.first shown (shows_first tm sm t_shows s_shows)) b_shows))

-- the report on the command
pub two_tell : {E : Type 0} (r : Result Report E) (devices : List Kept) (c : Command) (t s : ℕ) (d e target source : Kept) → target ≡ get_or devices t d → source ≡ get_or devices s e → t < length devices → s < length devices
    → (devices_of c).0 ≡ t → (devices_of c).1 ≡ Some s
    → IfOk r (λ report. (tm sm : ModelDevice) → Shows target tm → Shows source sm → Tells (answer_of report) (effect c tm (Some sm)).report)
    → IfOk r (λ report. (models : List ModelDevice) → AllZip Shows devices models → Tells (answer_of report) (effect_on models c).report)
two_tell (Err refused) devices c t s d e target source is_t is_s ht hs first second tells = tt
two_tell (Ok report) devices c t s d e target source is_t is_s ht hs first second tells = λ models shown.
    let tm = device_at models t in
    let sm = device_at models s in
    let t_shows : Shows target tm = subst (λ (x : Kept). Shows x tm) (sym is_t) (zip_at Shows devices models t d (opening (author t) All) shown ht) in
    let s_shows : Shows source sm = subst (λ (x : Kept). Shows x sm) (sym is_s) (zip_at Shows devices models s e (opening (author s) All) shown hs) in
    let same : (effect c tm (Some sm)).report ≡ (effect_on models c).report = λ i. (effect c (device_at models (sym first i)) (option_map (device_at models) (sym second i))).report in
    subst (Tells (answer_of report)) same (tells tm sm t_shows s_shows)

-- a command on one device

alone_after : (c : Command) (models : List ModelDevice) → (devices_of c).1 ≡ None → devices_after models c ≡ set models (devices_of c).0 (effect c (device_at models (devices_of c).0) None).first
alone_after c models alone = λ i.
    let done = effect c (device_at models (devices_of c).0) (option_map (device_at models) (alone i)) in
    with_second (alone i) done.second (set models (devices_of c).0 done.first)

pub one_shows : {E : Type 0} (r : Result Report E) (devices : List Kept) (c : Command) (k : ℕ) (d old new : Kept) → (devices_of c).1 ≡ None → k ≡ (devices_of c).0 → old ≡ get_or devices k d → k < length devices
    → OnOk r ((m : ModelDevice) → Shows old m → Shows new (effect c m None).first)
    → OnOk r ((models : List ModelDevice) → AllZip Shows devices models → AllZip Shows (set devices k new) (devices_after models c))
one_shows (Err refused) devices c k d old new alone place is h shows = tt
one_shows (Ok report) devices c k d old new alone place is h shows = λ models shown.
    let m = device_at models k in
    let before : Shows old m = subst (λ (x : Kept). Shows x m) (sym is) (zip_at Shows devices models k d (opening (author k) All) shown h) in
    let after : AllZip Shows (set devices k new) (set models k (effect c m None).first) = zip_set Shows devices models k new (effect c m None).first shown (shows m before) in
    let same : set models k (effect c m None).first ≡ devices_after models c = ap (λ j. set models j (effect c (device_at models j) None).first) place ∙ sym (alone_after c models alone) in
    subst (AllZip Shows (set devices k new)) same after

pub one_tells : {E : Type 0} (r : Result Report E) (devices : List Kept) (c : Command) (k : ℕ) (d old : Kept) → (devices_of c).1 ≡ None → k ≡ (devices_of c).0 → old ≡ get_or devices k d → k < length devices
    → IfOk r (λ report. (m : ModelDevice) → Shows old m → Tells (answer_of report) (effect c m None).report)
    → IfOk r (λ report. (models : List ModelDevice) → AllZip Shows devices models → Tells (answer_of report) (effect_on models c).report)
one_tells (Err refused) devices c k d old alone place is h tells = tt
one_tells (Ok report) devices c k d old alone place is h tells = λ models shown.
    let m = device_at models k in
    let before : Shows old m = subst (λ (x : Kept). Shows x m) (sym is) (zip_at Shows devices models k d (opening (author k) All) shown h) in
    let same : (effect c m None).report ≡ (effect_on models c).report = ap (λ j. (effect c (device_at models j) None).report) place ∙ (λ i. (effect c (device_at models (devices_of c).0) (option_map (device_at models) (sym alone i))).report) in
    subst (Tells (answer_of report)) same (tells m before)

-- when a command on one device may want memory, and when one on two devices may
pub one_wants : {E : Type 0} (r : Result Report E) (devices : List Kept) (c : Command) (k : ℕ) (d old : Kept) → k ≡ (devices_of c).0 → old ≡ get_or devices k d → k < length devices
    → OnErr r ((m : ModelDevice) → Shows old m → MayWantMemory c m)
    → OnErr r ((models : List ModelDevice) → AllZip Shows devices models → MayWantMemory c (device_at models (devices_of c).0))
one_wants (Ok report) devices c k d old place is h wants = tt
one_wants (Err refused) devices c k d old place is h wants = λ models shown.
    let m = device_at models k in
    let before : Shows old m = subst (λ (x : Kept). Shows x m) (sym is) (zip_at Shows devices models k d (opening (author k) All) shown h) in
    subst (λ (j : ℕ). MayWantMemory c (device_at models j)) place (wants m before)
