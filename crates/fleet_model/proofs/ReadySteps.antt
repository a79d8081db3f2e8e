-- Each command leaves the devices ready for a pull if they were ready before it.
use Rattle.std.proofs.Common.{◌≡◌, ℕ, ◌+◌, ◌<◌, ◌≤◌, true, false, List, ◌⊎◌, inl, inr, length, set, refl, sym, ap, ◌∙◌, subst, arith, le_refl, length-set}
use Rattle.std.proofs.lemmas.Bool.{cases_Bool, and_parts, eqb-true, false≢true}
use Rattle.photo_record.specs.declared.record.Record.{Record}
use Rattle.photo_filter_text.specs.Tree.{Tree}
use Rattle.photo_version.specs.Author.{device_of_author, epoch_of_author, same_device, author_before, is_earlier_epoch}
use Rattle.photo_version.specs.Version.{Version, version}
use Rattle.photo_model.specs.Entry.{Entry}
use Rattle.photo_model.specs.Device.{ModelDevice, known, holds, new_entry, next_version, made, narrowed}
use Rattle.photo_model.specs.Refiltered.{refiltered}
use Rattle.photo_model.specs.Pull.{told, pulled, handed_over}
use Rattle.fleet_model.specs.Runs.{device_at}
use Rattle.fleet_model.specs.Members.{In}
use Rattle.fleet_model.specs.Ready.{IsKnownTo, IsReady}
use Rattle.fleet_model.proofs.Superseding.{clash, tell_is, tells_history, tells_itself}
use Rattle.fleet_model.proofs.Places.{at_same, within_set, each_changed, two_set, length_two, each_two_changed}
use Rattle.fleet_model.proofs.Making.{known_is, known_stays, known_new, in_holds_made}
use Rattle.fleet_model.proofs.Narrowing.{in_holds_narrowed}
use Rattle.fleet_model.proofs.Refiltering.{in_holds_refiltered, known_refiltered, knows_history, knows_itself}
use Rattle.fleet_model.proofs.Pulling.{in_holds_pulled, in_holds_handed, coming_is_told, told_held, after_is, after_old, after_told}
use Rattle.fleet_model.proofs.Epochs.{not_later, next_device, KeepsCount, same_epoch, refiltered_counts}

-- some device knows the version for the picture; some device holds the entry
pub record KnowsIt (devices : List ModelDevice) (p : ℕ) (v : Version) : Type 0 where
  pub place : ℕ
  pub within : place < length devices
  pub here : known (device_at devices place) p v ≡ true

pub record HoldsIt (devices : List ModelDevice) (e : Entry) : Type 0 where
  pub place : ℕ
  pub within : place < length devices
  pub here : In e (holds (device_at devices place))

-- the step makes no version: the new devices know and hold only what the old ones did, and keep their counts
record IsNothingNew (old new : List ModelDevice) : Type 0 where
  long : length new ≡ length old
  same : (k : ℕ) → k < length new → device_of_author (device_at new k).author ≡ device_of_author (device_at old k).author
  keeps : (k : ℕ) → k < length new → KeepsCount (device_at old k) (device_at new k)
  knows : (k : ℕ) → k < length new → (p : ℕ) (v : Version) → known (device_at new k) p v ≡ true → KnowsIt old p v
  holding : (k : ℕ) → k < length new → (e : Entry) → In e (holds (device_at new k)) → HoldsIt old e
  held : (k : ℕ) → k < length new → (e : Entry) → In e (holds (device_at new k)) → IsKnownTo (device_at new k) e

module _ (old new : List ModelDevice) (R : IsReady old) (N : IsNothingNew old new) where
  was : (k : ℕ) → k < length new → k < length old
  was k h = subst (λ (n : ℕ). k < n) N.long h

  none_later : (t s p : ℕ) (v : Version) → t < length new → s < length new → is_earlier_epoch (device_at new t).author v.author ≡ true → known (device_at new s) p v ≡ false
  none_later t s p v h k late = elim (cases_Bool (known (device_at new s) p v)) [
    | inl here ↦
        let m = N.knows s k p v here in
        elim (cases_Bool (is_earlier_epoch (device_at old t).author v.author)) [
          | inl before ↦ absurd (false≢true (sym (R.later t m.place p v (was t h) m.within before) ∙ m.here))
          | inr begun ↦ absurd (false≢true (sym ((N.keeps t h).begun v.author begun) ∙ late))
        ]
    | inr none ↦ none
  ]

  counted_own : (t s p n : ℕ) → t < length new → s < length new → known (device_at new s) p (version (device_at new t).author n) ≡ true → n ≤ (device_at new t).counter
  counted_own t s p n h k here =
      let a = (device_at new t).author in
      let m = N.knows s k p (version a n) here in
      elim (cases_Bool (is_earlier_epoch (device_at old t).author a)) [
        | inl before ↦ absurd (false≢true (sym (R.later t m.place p (version a n) (was t h) m.within before) ∙ m.here))
        | inr begun ↦ (N.keeps t h).reached (version a n) begun
            (λ is. R.own t m.place p n (was t h) m.within (ap (λ b. known (device_at old m.place) p (version b n)) (sym is) ∙ m.here)) refl
      ]

  still_ready : IsReady new
  still_ready = record {
    author = λ k h. N.same k h ∙ R.author k (was k h);
    one = λ t s h k e g i j. let a = N.holding t h e i in let b = N.holding s k g j in R.one a.place b.place a.within b.within e g a.here b.here;
    own = counted_own;
    later = none_later;
    held = N.held;
  }

-- after a pull the target knows only what one of the two devices knew before
told_known : (t s : ModelDevice) → ((e : Entry) → In e (holds s) → IsKnownTo s e) → (p : ℕ) (v : Version) → known (pulled t s) p v ≡ true → (known t p v ≡ true) ⊎ (known s p v ≡ true)
told_known t s held p v h = elim (after_is t s p v h) [
  | inl mine ↦ inl mine
  | inr others ↦ elim others [
    | inl tells ↦
        let r = tell_is (told t s) p v tells in
        let is = held r.entry (told_held t s r.among) in
        inr (subst (λ (q : ℕ). known s q v ≡ true) r.of (elim r.tells [
          | inl history ↦ is.history v history
          | inr itself ↦ subst (λ (w : Version). known s r.entry.picture w ≡ true) itself is.itself
        ]))
    | inr all ↦ inr all.1
  ]
]

still_known : (t s : ModelDevice) → ((e : Entry) → In e (holds t) → IsKnownTo t e) → (e : Entry) → In e (holds (pulled t s)) → IsKnownTo (pulled t s) e
still_known t s held e i = elim (in_holds_pulled t s i) [
  | inl old ↦
      let is = held e old.0 in
      record { itself = after_old t s e.picture e.version is.itself; history = λ v h. after_old t s e.picture v (is.history v h) }
  | inr new ↦
      let among = coming_is_told t s new in
      record { itself = after_told t s e.picture e.version (tells_itself e among); history = λ v h. after_told t s e.picture v (tells_history e e.picture v among refl h) }
]

module _ (devices : List ModelDevice) (R : IsReady devices) where
  -- the device at a place is one that knows, or one that holds
  known_here : (k : ℕ) → k < length devices → (p : ℕ) (v : Version) → known (device_at devices k) p v ≡ true → KnowsIt devices p v
  known_here k h p v here = record { place = k; within = h; here = here }

  held_here : (k : ℕ) → k < length devices → (e : Entry) → In e (holds (device_at devices k)) → HoldsIt devices e
  held_here k h e i = record { place = k; within = h; here = i }

  -- one device is replaced
  module _ (k : ℕ) (h : k < length devices) (x : ModelDevice) where
    one_ready : device_of_author x.author ≡ device_of_author (device_at devices k).author → KeepsCount (device_at devices k) x
        → ((p : ℕ) (v : Version) → known x p v ≡ true → known (device_at devices k) p v ≡ true)
        → ((e : Entry) → In e (holds x) → In e (holds (device_at devices k)))
        → ((e : Entry) → In e (holds x) → IsKnownTo x e) → IsReady (set devices k x)
    one_ready same keeps knows holding held = still_ready devices (set devices k x) R (record {
      long = length-set devices k x;
      same = each_changed (λ n d. device_of_author d.author ≡ device_of_author (device_at devices n).author) devices k x h same (λ j i _. refl);
      keeps = each_changed (λ n d. KeepsCount (device_at devices n) d) devices k x h keeps (λ j i _. same_epoch (device_at devices j) (device_at devices j) refl (le_refl _));
      knows = each_changed (λ n d. (p : ℕ) (v : Version) → known d p v ≡ true → KnowsIt devices p v) devices k x h (λ p v here. known_here k h p v (knows p v here)) (λ j i _. known_here j i);
      holding = each_changed (λ n d. (e : Entry) → In e (holds d) → HoldsIt devices e) devices k x h (λ e i. held_here k h e (holding e i)) (λ j i _. held_here j i);
      held = each_changed (λ n d. (e : Entry) → In e (holds d) → IsKnownTo d e) devices k x h held (λ j i _. R.held j i);
    })

  pub narrowing_ready : (k : ℕ) (tree : Tree) → k < length devices → IsReady (set devices k (narrowed tree (device_at devices k)))
  narrowing_ready k tree h =
      let d = device_at devices k in
      one_ready k h (narrowed tree d) refl (same_epoch d (narrowed tree d) refl (le_refl _)) (λ p v here. here) (λ e i. in_holds_narrowed tree d i)
      (λ e i. let is = R.held k h e (in_holds_narrowed tree d i) in record { itself = is.itself; history = is.history })

  pub refiltering_ready : (k : ℕ) (tree : Tree) → k < length devices → epoch_of_author (device_at devices k).author < 4294967295 → IsReady (set devices k (refiltered tree (device_at devices k)))
  refiltering_ready k tree h few =
      let d = device_at devices k in
      one_ready k h (refiltered tree d) (next_device d.author few) (refiltered_counts tree d few) knew (λ e i. in_holds_refiltered tree d i)
      (λ e i. let j = in_holds_refiltered tree d i in record { itself = knows_itself tree d j; history = λ v had. knows_history tree d e.picture v j refl had })
    where
      knew : (p : ℕ) (v : Version) → known (refiltered tree (device_at devices k)) p v ≡ true → known (device_at devices k) p v ≡ true
      knew p v here =
          let r = known_refiltered tree (device_at devices k) p v here in
          let is = R.held k h r.entry r.among in
          subst (λ (q : ℕ). known (device_at devices k) q v ≡ true) r.of (elim r.tells [
            | inl history ↦ is.history v history
            | inr itself ↦ subst (λ (w : Version). known (device_at devices k) r.entry.picture w ≡ true) itself is.itself
          ])

  pub pulling_ready : (t s : ℕ) → t < length devices → s < length devices → IsReady (two_set devices t (pulled (device_at devices t) (device_at devices s)) s (handed_over (device_at devices t) (device_at devices s)))
  pulling_ready t s h k =
      let T = device_at devices t in
      let S = device_at devices s in
      let x = pulled T S in
      let y = handed_over T S in
      still_ready devices (two_set devices t x s y) R (record {
        long = length_two devices t s x y;
        same = each_two_changed (λ n d. device_of_author d.author ≡ device_of_author (device_at devices n).author) devices t s x y h k refl refl (λ _ _. refl);
        keeps = each_two_changed (λ n d. KeepsCount (device_at devices n) d) devices t s x y h k (same_epoch T x refl (le_refl _)) (same_epoch S y refl (le_refl _)) (λ j i. same_epoch (device_at devices j) (device_at devices j) refl (le_refl _));
        knows = each_two_changed (λ n d. (p : ℕ) (v : Version) → known d p v ≡ true → KnowsIt devices p v) devices t s x y h k known_after (known_here s k) known_here;
        holding = each_two_changed (λ n d. (e : Entry) → In e (holds d) → HoldsIt devices e) devices t s x y h k held_after (λ e i. held_here s k e (in_holds_handed T S i)) held_here;
        held = each_two_changed (λ n d. (e : Entry) → In e (holds d) → IsKnownTo d e) devices t s x y h k
            (still_known T S (R.held t h))
            (λ e i. let is = R.held s k e (in_holds_handed T S i) in record { itself = is.itself; history = is.history })
            R.held;
      })
    where
      known_after : (p : ℕ) (v : Version) → known (pulled (device_at devices t) (device_at devices s)) p v ≡ true → KnowsIt devices p v
      known_after p v here = elim (told_known (device_at devices t) (device_at devices s) (R.held s k) p v here) [ inl mine ↦ known_here t h p v mine | inr others ↦ known_here s k p v others ]

      held_after : (e : Entry) → In e (holds (pulled (device_at devices t) (device_at devices s))) → HoldsIt devices e
      held_after e i = elim (in_holds_pulled (device_at devices t) (device_at devices s) i) [
        | inl old ↦ held_here t h e old.0
        | inr new ↦ held_here s k e (told_held (device_at devices t) (device_at devices s) (coming_is_told (device_at devices t) (device_at devices s) new))
      ]

  -- a device makes a version
  module _ (k p : ℕ) (r : Record) (h : k < length devices) where
    abbrev maker : ModelDevice
    maker = device_at devices k

    abbrev after : List ModelDevice
    after = set devices k (made (device_at devices k) p r)

    author_stays : (j : ℕ) → j < length after → (device_at after j).author ≡ (device_at devices j).author
    author_stays = each_changed (λ n d. d.author ≡ (device_at devices n).author) devices k (made maker p r) h refl (λ _ _ _. refl)

    counter_grows : (j : ℕ) → j < length after → (device_at devices j).counter ≤ (device_at after j).counter
    counter_grows = each_changed (λ n d. (device_at devices n).counter ≤ d.counter) devices k (made maker p r) h (omega arith) (λ _ _ _. le_refl _)

    counter_here : (device_at after k).counter ≡ maker.counter + 1
    counter_here = ap (λ (d : ModelDevice). d.counter) (at_same devices k (made maker p r) h)

    knew_or_new : (j : ℕ) → j < length after → (q : ℕ) (v : Version) → known (device_at after j) q v ≡ true → (known (device_at devices j) q v ≡ true) ⊎ (v ≡ next_version maker)
    knew_or_new = each_changed (λ n d. (q : ℕ) (v : Version) → known d q v ≡ true → (known (device_at devices n) q v ≡ true) ⊎ (v ≡ next_version maker)) devices k (made maker p r) h
        (known_is maker p r) (λ _ _ _ q v here. inl here)

    held_or_new : (j : ℕ) → j < length after → (e : Entry) → In e (holds (device_at after j)) → (e ≡ new_entry maker p r) ⊎ In e (holds (device_at devices j))
    held_or_new = each_changed (λ n d. (e : Entry) → In e (holds d) → (e ≡ new_entry maker p r) ⊎ In e (holds (device_at devices n))) devices k (made maker p r) h
        (λ e i. elim (in_holds_made maker p r i) [ inl new ↦ inl new | inr old ↦ inr old.0 ]) (λ _ _ _ e i. inr i)

    -- no device holds the new version yet
    not_held : (j : ℕ) → j < length devices → (e : Entry) → In e (holds (device_at devices j)) → e.version ≡ next_version maker → ⊥
    not_held j i e among is =
        let here : known (device_at devices j) e.picture (next_version maker) ≡ true = subst (λ (v : Version). known (device_at devices j) e.picture v ≡ true) is (R.held j i e among).itself in
        let few : maker.counter + 1 ≤ maker.counter = R.own k j e.picture (maker.counter + 1) h i here in
        omega arith

    -- a device with the maker's number stands at the maker's place
    at_place : (t : ℕ) → t < length devices → device_of_author (device_at devices t).author ≡ device_of_author maker.author → t ≡ k
    at_place t i same = sym (R.author t i) ∙ same ∙ R.author k h

    own_after : (t s q n : ℕ) → t < length after → s < length after → known (device_at after s) q (version (device_at after t).author n) ≡ true → n ≤ (device_at after t).counter
    own_after t s q n i j here =
        let i' = within_set devices k t (made maker p r) i in
        let a = (device_at devices t).author in
        let grown = counter_grows t i in
        elim (knew_or_new s j q (version a n) (ap (λ b. known (device_at after s) q (version b n)) (sym (author_stays t i)) ∙ here)) [
          | inl old ↦ let few : n ≤ (device_at devices t).counter = R.own t s q n i' (within_set devices k s (made maker p r) j) old in omega (arith, few, grown)
          | inr new ↦
              let place : t ≡ k = at_place t i' (ap (λ (v : Version). device_of_author v.author) new) in
              let number : n ≡ maker.counter + 1 = ap (λ (v : Version). v.number) new in
              subst (λ (m : ℕ). n ≤ (device_at after m).counter) (sym place) (omega (arith, number, counter_here))
        ]

    later_after : (t s q : ℕ) (v : Version) → t < length after → s < length after → is_earlier_epoch (device_at after t).author v.author ≡ true → known (device_at after s) q v ≡ false
    later_after t s q v i j late =
        let i' = within_set devices k t (made maker p r) i in
        let a = (device_at devices t).author in
        let late' : is_earlier_epoch a v.author ≡ true = ap (λ b. is_earlier_epoch b v.author) (sym (author_stays t i)) ∙ late in
        elim (cases_Bool (known (device_at after s) q v)) [
          | inl here ↦ elim (knew_or_new s j q v here) [
            | inl old ↦ clash _ old (R.later t s q v i' (within_set devices k s (made maker p r) j) late')
            | inr new ↦
                let is : is_earlier_epoch a maker.author ≡ true = ap (λ (w : Version). is_earlier_epoch a w.author) (sym new) ∙ late' in
                let same = eqb-true (device_of_author a) (device_of_author maker.author) (and_parts (same_device a maker.author) (author_before a maker.author) is).0 in
                let place : t ≡ k = at_place t i' same in
                clash _ (subst (λ (m : ℕ). is_earlier_epoch (device_at devices m).author maker.author ≡ true) place is) (not_later maker.author)
          ]
          | inr none ↦ none
        ]

    one_after : (t s : ℕ) → t < length after → s < length after → (e g : Entry) → In e (holds (device_at after t)) → In g (holds (device_at after s)) → e.version ≡ g.version → e ≡ g
    one_after t s i j e g a b same =
        let i' = within_set devices k t (made maker p r) i in
        let j' = within_set devices k s (made maker p r) j in
        elim (held_or_new t i e a) [
          | inl new ↦ elim (held_or_new s j g b) [
            | inl too ↦ new ∙ sym too
            | inr old ↦ absurd (not_held s j' g old (sym same ∙ ap (λ (x : Entry). x.version) new))
          ]
          | inr old ↦ elim (held_or_new s j g b) [
            | inl new ↦ absurd (not_held t i' e old (same ∙ ap (λ (x : Entry). x.version) new))
            | inr too ↦ R.one t s i' j' e g old too same
          ]
        ]

    held_by_maker : (e : Entry) → In e (holds (made maker p r)) → IsKnownTo (made maker p r) e
    held_by_maker e i = elim (in_holds_made maker p r i) [
      | inl new ↦ subst (IsKnownTo (made maker p r)) (sym new) (record { itself = known_new maker p r p; history = λ v had. known_stays maker p r p v had })
      | inr old ↦ let is = R.held k h e old.0 in record { itself = known_stays maker p r e.picture e.version is.itself; history = λ v had. known_stays maker p r e.picture v (is.history v had) }
    ]

    pub making_ready : IsReady after
    making_ready = record {
      author = λ j i. ap device_of_author (author_stays j i) ∙ R.author j (within_set devices k j (made maker p r) i);
      one = one_after;
      own = own_after;
      later = later_after;
      held = each_changed (λ _ d. (e : Entry) → In e (holds d) → IsKnownTo d e) devices k (made maker p r) h held_by_maker (λ j i _. R.held j i);
    }
