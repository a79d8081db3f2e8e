-- What source and target hold and know after a pull.
use Rattle.std.proofs.Common.{◌≡◌, ℕ, Bool, true, false, not, ◌&&◌, ◌||◌, ◌++◌, ◌⊎◌, inl, inr, filter, refl, arith}
use Rattle.std.proofs.lemmas.Bool.{and_parts, or_cases, or_left, or_right, and_from, not-true, not_from_false, or_parts}
use Rattle.photo_version.specs.Version.{Version}
use Rattle.photo_model.specs.Entry.{Entry, superseded_by}
use Rattle.photo_model.specs.Device.{ModelDevice, known, knows_entry, holds, selects}
use Rattle.photo_model.specs.Telling.{tell}
use Rattle.photo_model.specs.Pull.{taken, handed, noticed, told, learns_all, leaves_store, leaves_out, pulled, handed_over}
use Rattle.fleet_model.specs.Members.{In}
use Rattle.fleet_model.proofs.Members.{in_left, in_right, in_either, in_passed, passes, in_puts, puts_are_in, stays_in_puts}

pub record IsTaken (t s : ModelDevice) (e : Entry) : Type 0 where
  pub in_store : In e s.store
  pub unknown : knows_entry t e ≡ false
  pub fits : selects t e ≡ true

pub record IsHanded (t s : ModelDevice) (e : Entry) : Type 0 where
  pub in_out : In e s.out
  pub unknown : knows_entry t e ≡ false

pub record IsNoticed (t s : ModelDevice) (e : Entry) : Type 0 where
  pub in_store : In e s.store
  pub unknown : knows_entry t e ≡ false
  pub misfits : selects t e ≡ false

-- what the target knows after a pull, from the six tests that decide it
abbrev six : (a l b c k d : Bool) → Bool
six a l b c k d = (a || (l && b)) || (c || (k || (l && d)))

six_is : (a l b c k d : Bool) → six a l b c k d ≡ true → ((a || c) ≡ true) ⊎ ((k ≡ true) ⊎ ((l ≡ true) × ((b || d) ≡ true)))
six_is a l b c k d h = elim (or_cases (a || (l && b)) (c || (k || (l && d))) h) [
  | inl x ↦ elim (or_cases a (l && b) x) [ inl y ↦ inl (or_left a c y) | inr y ↦ let r = and_parts l b y in inr (inr (r.0, or_left b d r.1)) ]
  | inr x ↦ elim (or_cases c (k || (l && d)) x) [
    | inl y ↦ inl (or_right a c y)
    | inr y ↦ elim (or_cases k (l && d) y) [ inl z ↦ inr (inl z) | inr z ↦ let r = and_parts l d z in inr (inr (r.0, or_right b d r.1)) ]
  ]
]

six_old : (a l b c k d : Bool) → (a || c) ≡ true → six a l b c k d ≡ true
six_old true l b c k d h = refl
six_old false l b c k d h = or_right _ _ (or_left _ _ h)

six_told : (a l b c k d : Bool) → k ≡ true → six a l b c k d ≡ true
six_told a l b c k d h = or_right _ _ (or_right _ _ (or_left _ _ h))

six_all : (a l b c k d : Bool) → l ≡ true → (b || d) ≡ true → six a l b c k d ≡ true
six_all a true true c k d h g = or_left _ _ (or_right _ _ refl)
six_all a true false c k d h g = or_right (a || false) (c || (k || d)) (or_right c (k || d) (or_right k d g))
six_all a false b c k d h g = grind arith

module _ (t s : ModelDevice) where
  in_taken : {e : Entry} → In e (taken t s) → IsTaken t s e
  in_taken {e = e} i =
      let r = in_passed _ _ i in
      let q = and_parts _ _ r.1 in
      record { in_store = r.0; unknown = not-true _ q.0; fits = q.1 }

  in_handed : {e : Entry} → In e (handed t s) → IsHanded t s e
  in_handed {e = e} i =
      let r = in_passed _ _ i in
      record { in_out = r.0; unknown = not-true _ r.1 }

  in_noticed : {e : Entry} → In e (noticed t s) → IsNoticed t s e
  in_noticed {e = e} i =
      let r = in_passed _ _ i in
      let q = and_parts _ _ r.1 in
      let p = and_parts _ _ q.1 in
      record { in_store = r.0; unknown = not-true _ q.0; misfits = not-true _ p.0 }

  -- the entries that come to the target: taken or handed over
  pub in_coming : {e : Entry} → In e (taken t s ++ handed t s) → IsTaken t s e ⊎ IsHanded t s e
  in_coming i = elim (in_either (taken t s) i) [ inl a ↦ inl (in_taken a) | inr b ↦ inr (in_handed b) ]

  pub taken_comes : {e : Entry} → IsTaken t s e → In e (taken t s ++ handed t s)
  taken_comes {e = e} h = in_left _ (passes _ h.in_store (and_from _ _ (not_from_false _ h.unknown) h.fits))

  pub handed_comes : {e : Entry} → IsHanded t s e → In e (taken t s ++ handed t s)
  handed_comes {e = e} h = in_right _ (passes _ h.in_out (not_from_false _ h.unknown))

  pub in_told : {e : Entry} → In e (told t s) → IsTaken t s e ⊎ (IsHanded t s e ⊎ IsNoticed t s e)
  in_told i = elim (in_either (taken t s ++ handed t s) i) [
    | inl a ↦ elim (in_coming a) [ inl c ↦ inl c | inr c ↦ inr (inl c) ]
    | inr b ↦ inr (inr (in_noticed b))
  ]

  pub coming_is_told : {e : Entry} → In e (taken t s ++ handed t s) → In e (told t s)
  coming_is_told i = in_left _ i

  pub told_unknown : {e : Entry} → In e (told t s) → knows_entry t e ≡ false
  told_unknown i = elim (in_told i) [ inl a ↦ a.unknown | inr b ↦ elim b [ inl c ↦ c.unknown | inr d ↦ d.unknown ] ]

  pub told_held : {e : Entry} → In e (told t s) → In e (holds s)
  told_held i = elim (in_told i) [
    | inl a ↦ in_left s.out a.in_store
    | inr b ↦ elim b [ inl c ↦ in_right s.store c.in_out | inr d ↦ in_left s.out d.in_store ]
  ]

  -- the target's store after the pull, and its out
  pub in_store_pulled : {e : Entry} → In e (pulled t s).store → (In e t.store × (leaves_store t s e ≡ false)) ⊎ (In e (taken t s ++ handed t s) × (selects t e ≡ true))
  in_store_pulled {e = e} i = elim (in_puts (filter (selects t) (taken t s ++ handed t s)) (filter (λ (x : Entry). not (leaves_store t s x)) t.store) i) [
    | inl a ↦ inr (in_passed (selects t) (taken t s ++ handed t s) a)
    | inr b ↦ let r = in_passed (λ (x : Entry). not (leaves_store t s x)) t.store b in inl (r.0, not-true (leaves_store t s e) r.1)
  ]

  pub in_out_pulled : {e : Entry} → In e (pulled t s).out → (In e t.out × (superseded_by (told t s) e ≡ false)) ⊎ (In e (taken t s ++ handed t s) × (selects t e ≡ false))
  in_out_pulled {e = e} i = elim (in_puts (filter (λ (x : Entry). not (selects t x)) (taken t s ++ handed t s)) (filter (λ (x : Entry). not (leaves_out t s x)) t.out) i) [
    | inl a ↦ let r = in_passed (λ (x : Entry). not (selects t x)) (taken t s ++ handed t s) a in inr (r.0, not-true (selects t e) r.1)
    | inr b ↦ let r = in_passed (λ (x : Entry). not (leaves_out t s x)) t.out b in inl (r.0, not-true (leaves_out t s e) r.1)
  ]

  pub in_holds_pulled : {e : Entry} → In e (holds (pulled t s)) → (In e (holds t) × (superseded_by (told t s) e ≡ false)) ⊎ In e (taken t s ++ handed t s)
  in_holds_pulled {e = e} i = elim (in_either (pulled t s).store i) [
    | inl a ↦ elim (in_store_pulled a) [ inl b ↦ inl (in_left t.out b.0, (or_parts _ _ b.1).0) | inr c ↦ inr c.0 ]
    | inr a ↦ elim (in_out_pulled a) [ inl b ↦ inl (in_right t.store b.0, b.1) | inr c ↦ inr c.0 ]
  ]

  pub stored_old : {e : Entry} → In e t.store → leaves_store t s e ≡ false → In e (pulled t s).store
  stored_old {e = e} i h = stays_in_puts (filter (selects t) (taken t s ++ handed t s)) (passes (λ (x : Entry). not (leaves_store t s x)) i (not_from_false (leaves_store t s e) h))

  pub stored_new : {e : Entry} → In e (taken t s ++ handed t s) → selects t e ≡ true → In e (pulled t s).store
  stored_new {e = e} i h = puts_are_in (filter (λ (x : Entry). not (leaves_store t s x)) t.store) (passes (selects t) i h)

  pub out_old : {e : Entry} → In e t.out → superseded_by (told t s) e ≡ false → In e (pulled t s).out
  out_old {e = e} i h = stays_in_puts (filter (λ (x : Entry). not (selects t x)) (taken t s ++ handed t s)) (passes (λ (x : Entry). not (leaves_out t s x)) i (not_from_false (leaves_out t s e) h))

  pub out_new : {e : Entry} → In e (taken t s ++ handed t s) → selects t e ≡ false → In e (pulled t s).out
  out_new {e = e} i h = puts_are_in (filter (λ (x : Entry). not (leaves_out t s x)) t.out) (passes (λ (x : Entry). not (selects t x)) i (not_from_false (selects t e) h))

  -- what the target knows after the pull
  pub after_is : (p : ℕ) (v : Version) → known (pulled t s) p v ≡ true → (known t p v ≡ true) ⊎ ((tell (told t s) p v ≡ true) ⊎ ((learns_all t s ≡ true) × (known s p v ≡ true)))
  after_is p v h = six_is (t.every v) (learns_all t s) (s.every v) (t.of p v) (tell (told t s) p v) (s.of p v) h

  pub after_old : (p : ℕ) (v : Version) → known t p v ≡ true → known (pulled t s) p v ≡ true
  after_old p v h = six_old (t.every v) (learns_all t s) (s.every v) (t.of p v) (tell (told t s) p v) (s.of p v) h

  pub after_told : (p : ℕ) (v : Version) → tell (told t s) p v ≡ true → known (pulled t s) p v ≡ true
  after_told p v h = six_told (t.every v) (learns_all t s) (s.every v) (t.of p v) (tell (told t s) p v) (s.of p v) h

  pub after_all : (p : ℕ) (v : Version) → learns_all t s ≡ true → known s p v ≡ true → known (pulled t s) p v ≡ true
  after_all p v l h = six_all (t.every v) (learns_all t s) (s.every v) (t.of p v) (tell (told t s) p v) (s.of p v) l h

  -- what the source's out keeps
  pub in_out_handed : {e : Entry} → In e (handed_over t s).out → In e s.out
  in_out_handed i = (in_passed (knows_entry t) s.out i).0

  pub in_holds_handed : {e : Entry} → In e (holds (handed_over t s)) → In e (holds s)
  in_holds_handed i = elim (in_either s.store i) [ inl a ↦ in_left s.out a | inr b ↦ in_right s.store (in_out_handed b) ]
