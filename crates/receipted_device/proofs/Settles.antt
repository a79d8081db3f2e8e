-- Settling: what a device gives up for receipts, and that it may still take what it might before.
use Rattle.std.proofs.Common.{◌≡◌, ℕ, ◌≤◌, ◌<◌, Bool, true, false, not, ◌||◌, List, [], ◌∷◌, ◌++◌, Some, cond, length, refl, sym, ap, subst, ◌∙◌, arith, inl, inr}
use Rattle.std.specs.Prelude.{filter}
use Rattle.std.specs.List.{list_any}
use Rattle.std.proofs.lemmas.Bool.{cases_Bool}
use Rattle.std.proofs.lemmas.List.{map-append, length-map}
use Rattle.photo_version.specs.Author.{Author, same_device, is_earlier_epoch}
use Rattle.photo_version.specs.Version.{Version, version, same_version}
use Rattle.item_knowledge.specs.Fragments.{knows}
use Rattle.photo_model.specs.Entry.{without}
use Rattle.photo_model.specs.Device.{ModelDevice, known, holds, without_waiting}
use Rattle.photo_device.specs.declared.held.Held.{Held}
use Rattle.photo_device.specs.Held.{entry_of, entries_of, versions_of, count_of, find_version}
use Rattle.photo_device.specs.Device.{Kept, Shows, unstaged}
use Rattle.photo_device.specs.Own.{IsDevice}
use Rattle.photo_device.proofs.Counts.{count_of-append, same_version_self, same_version_is}
use Rattle.photo_device.proofs.Shown.{entries-filter}
use Rattle.photo_pull.specs.MayPull.{MayPull}
use Rattle.photo_pull.proofs.Members as members
use Rattle.photo_pull.proofs.Members.{any_map, any_swap, only_one, filter_alike}
use Rattle.fleet_model.specs.Members.{In, here, there}
use Rattle.household_model.specs.Replica as model
use Rattle.receipted_device.specs.Receipts.{receipts_in}
use Rattle.receipted_device.specs.Shown.{KeptReplica, ShowsReplica}
use Rattle.receipted_device.specs.Meeting.{MayTake, MayMeet}
use Rattle.receipted_device.specs.Settling.{is_settled, settled}

-- of a list that has each version once, a test keeps the versions that pass it
kept_versions : (p : Held → Bool) (xs : List Held) (h : Held) → members.In h xs → count_of h.version xs ≤ 1 → list_any (λ v. same_version v h.version) (versions_of (filter p xs)) ≡ p h
kept_versions p xs h held once =
    let same : Held → Bool = λ g. same_version g.version h.version in
    any_map (λ v. same_version v h.version) (λ (g : Held). g.version) (filter p xs) ∙ any_swap same p xs ∙ ap (list_any p) (only_one same h xs held (same_version_self h.version) once) ∙ by (p h)
  where
    by : (b : Bool) → (b || false) ≡ b
    by b = grind arith

module _ (old : Kept) (copy : KeptReplica) (d : ModelDevice) (c : model.Replica) (is : IsDevice (unstaged old)) (shows : Shows old d) (copied : ShowsReplica copy c) where
  -- the model settles what the program does
  settled_shown : (h : Held) → model.is_receipted d c (entry_of h) ≡ is_settled old.author copy h
  settled_shown h = copied.receipts (model.receipt_for d.author (entry_of h)) ∙ ap (λ (a : Author). receipts_in copy.receipts (model.receipt_for a (entry_of h))) (sym shows.author)

  out_once : (h : Held) → count_of h.version old.out ≤ 1
  out_once h = let once = is.once h.version in omega (arith, count_of-append h.version old.store old.out)

  left_shown : (given : List Held) → given ≡ filter (is_settled old.author copy) old.out → without (versions_of given) d.out ≡ filter (λ e. not (model.is_receipted d c e)) d.out
  left_shown given given_is =
      let kept = λ (h : Held) (held : members.In h old.out).
      ap (λ gs. not (list_any (λ v. same_version v h.version) (versions_of gs))) given_is
      ∙ ap not (kept_versions (is_settled old.author copy) old.out h held (out_once h) ∙ sym (settled_shown h)) in
      ap (without (versions_of given)) (sym shows.out)
      ∙ sym (entries-filter (λ e. not (list_any (λ v. same_version v e.version) (versions_of given))) old.out)
      ∙ ap entries_of (filter_alike (λ h. not (list_any (λ v. same_version v h.version) (versions_of given))) (λ h. not (model.is_receipted d c (entry_of h))) old.out kept)
      ∙ entries-filter (λ e. not (model.is_receipted d c e)) old.out
      ∙ ap (filter (λ e. not (model.is_receipted d c e))) shows.out

  pub shows_settled : (given : List Held) (new : Kept) → given ≡ filter (is_settled old.author copy) old.out → Shows new (without_waiting (versions_of given) d) → Shows new (settled d c)
  shows_settled given new given_is after = subst (λ out. Shows new (record d { out = out })) (left_shown given given_is) after

  pub settled_count : (given : List Held) → given ≡ filter (is_settled old.author copy) old.out → length given ≡ length (filter (model.is_receipted d c) d.out)
  settled_count given given_is =
      ap length given_is
      ∙ ap length (filter_alike (is_settled old.author copy) (λ h. model.is_receipted d c (entry_of h)) old.out (λ h _. sym (settled_shown h)))
      ∙ sym (length-map (filter (λ h. model.is_receipted d c (entry_of h)) old.out) entry_of)
      ∙ ap length (entries-filter (model.is_receipted d c) old.out ∙ ap (filter (model.is_receipted d c)) shows.out)

-- what a filter keeps is in the list

in_kept : {X : Type 0} (p : X → Bool) (x : X) (xs : List X) → In x (filter p xs) → In x xs
in_kept p x [] held = held
in_kept p x (y ∷ ys) held = elim (cases_Bool (p y)) [
  | inl is ↦ elim (rw is at held) [ here e ↦ here e | there more ↦ there (in_kept p x ys more) ]
  | inr apart ↦ there (in_kept p x ys (rw apart at held))
]

in_both : {X : Type 0} (p : X → Bool) (x : X) (xs ys : List X) → In x (xs ++ filter p ys) → In x (xs ++ ys)
in_both p x [] ys held = in_kept p x ys held
in_both p x (z ∷ zs) ys (here e) = here e
in_both p x (z ∷ zs) ys (there more) = there (in_both p x zs ys more)

-- settling takes nothing from what a pull asks
pub still_may_take : (d : ModelDevice) (c : model.Replica) (copied : ModelDevice) → MayTake d copied → MayTake (settled d c) copied
still_may_take d c copied may = record {
  differ = may.differ;
  one = λ e g held. may.one e g (in_both (λ x. not (model.is_receipted d c x)) e d.store d.out held);
  made = may.made;
  begun = may.begun;
}

-- the version that was found among those held
record IsFound (v : Version) (helds : List Held) (h : Held) : Type 0 where
  held : In (entry_of h) (entries_of helds)
  is : h.version ≡ v

found : (v : Version) (helds : List Held) (h : Held) → find_version v helds ≡ Some h → IsFound v helds h
found v [] h e = cc
found v (x ∷ xs) h e = by_test (same_version x.version v) (same_version_is x.version v) (found v xs h) e
  where
    by_test : (b : Bool) → (b ≡ true → x.version ≡ v) → (find_version v xs ≡ Some h → IsFound v xs h) → cond b (Some x) (find_version v xs) ≡ Some h → IsFound v (x ∷ xs) h
    by_test true here_is more e =
        let same : x ≡ h = cc in
        record { held = here (ap entry_of (sym same)); is = ap (λ (y : Held). y.version) (sym same) ∙ here_is refl }
    by_test false here_is more e = let later = more e in record { held = there later.held; is = later.is }

held_by : (d : Kept) (m : ModelDevice) → Shows d m → entries_of (d.store ++ d.out) ≡ holds m
held_by d m shows = map-append entry_of d.store d.out ∙ (λ i. shows.store i ++ shows.out i)

-- what a pull asks of two devices holds where it holds of the model's
pub may_pull_shown : (t s : Kept) (tm sm : ModelDevice) → Shows t tm → Shows s sm → MayTake tm sm → MayPull t s
may_pull_shown t s tm sm t_shows s_shows may = record {
  differ = (λ i. same_device (t_shows.author i) (s_shows.author i)) ∙ may.differ;
  one = λ v h g ft fs.
      let th = found v (t.store ++ t.out) h ft in
      let sh = found v (s.store ++ s.out) g fs in
      may.one (entry_of h) (entry_of g) (subst (In (entry_of h)) (held_by t tm t_shows) th.held) (subst (In (entry_of g)) (held_by s sm s_shows) sh.held) (th.is ∙ sym sh.is);
  own = record {
    own = λ p n above k.
        let known_too : known sm p (version tm.author n) ≡ true = ap (λ a. known sm p (version a n)) (sym t_shows.author) ∙ sym (s_shows.known p above (version t.author n)) ∙ k in
        let counted = may.made p (version tm.author n) above known_too refl in
        let same = t_shows.counter in
        omega arith;
    later = λ p v above later. s_shows.known p above v ∙ unknown p v above (subst (λ a. is_earlier_epoch a v.author ≡ true) t_shows.author later);
  };
}
  where
    unknown : (p : ℕ) (v : Version) → 0 < p → is_earlier_epoch tm.author v.author ≡ true → known sm p v ≡ false
    unknown p v above later = elim (cases_Bool (known sm p v)) [
      | inl is ↦ absurd (let not_later = may.begun p v above is in cc)
      | inr apart ↦ apart
    ]

-- Each device shows a model device, and each replica a model replica.

abbrev model_of : Kept → ModelDevice
model_of d = record {
  author = d.author;
  tree = d.tree;
  counter = d.counter;
  store = entries_of d.store;
  out = entries_of d.out;
  every = λ v. false;
  of = knows d.knowledge;
}

shows_itself : (d : Kept) → Shows d (model_of d)
shows_itself d = record { author = refl; tree = refl; counter = refl; store = refl; out = refl; known = λ p above v. refl }

abbrev replica_of : KeptReplica → model.Replica
replica_of r = record { device = model_of r.device; receipts = receipts_in r.receipts }

replica_itself : (r : KeptReplica) → ShowsReplica r (replica_of r)
replica_itself r = record { device = shows_itself r.device; receipts = λ q. refl }

-- after settling, a pull may be made
pub may_pull_settled : (r copy : KeptReplica) (device : Kept) → MayMeet r copy → ((d : ModelDevice) (c : model.Replica) → Shows r.device d → ShowsReplica copy c → Shows device (settled d c)) → MayPull device copy.device
may_pull_settled r copy device may shows =
    let d = model_of r.device in
    let c = replica_of copy in
    may_pull_shown device copy.device (settled d c) c.device (shows d c (shows_itself r.device) (replica_itself copy)) (shows_itself copy.device)
    (still_may_take d c c.device (may (replica_of r) c (replica_itself r) (replica_itself copy)))
