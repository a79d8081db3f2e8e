-- What a device holds and knows after it made a version.
use Rattle.std.proofs.Common.{◌≡◌, ℕ, true, false, not, ◌||◌, ◌==◌, List, ◌⊎◌, inl, inr, refl, sym}
use Rattle.std.proofs.lemmas.Bool.{or_cases, or_left, or_right, not-true, not_from_false}
use Rattle.photo_record.specs.declared.record.Record.{Record}
use Rattle.photo_filter_rules.specs.Matching.{matches}
use Rattle.photo_version.specs.Version.{Version, same_version}
use Rattle.photo_model.specs.Entry.{Entry, others, is_of_other}
use Rattle.photo_model.specs.Device.{ModelDevice, known, holds, new_entry, next_version, made}
use Rattle.fleet_model.specs.Members.{In}
use Rattle.fleet_model.proofs.Members.{in_left, in_right, in_either, in_passed, passes, in_put_if, put_if_is_in, stays_in_put_if}
use Rattle.fleet_model.proofs.Superseding.{same_version_is, is_same_version}

module _ (d : ModelDevice) (p : ℕ) (r : Record) where
  pub known_is : (q : ℕ) (v : Version) → known (made d p r) q v ≡ true → (known d q v ≡ true) ⊎ (v ≡ next_version d)
  known_is q v h = elim (or_cases (d.every v || same_version (next_version d) v) (d.of q v) h) [
    | inl a ↦ elim (or_cases (d.every v) (same_version (next_version d) v) a) [
      | inl b ↦ inl (or_left (d.every v) (d.of q v) b)
      | inr b ↦ inr (sym (same_version_is (next_version d) v b))
    ]
    | inr a ↦ inl (or_right (d.every v) (d.of q v) a)
  ]

  pub known_stays : (q : ℕ) (v : Version) → known d q v ≡ true → known (made d p r) q v ≡ true
  known_stays q v h = elim (or_cases (d.every v) (d.of q v) h) [
    | inl a ↦ or_left (d.every v || same_version (next_version d) v) (d.of q v) (or_left (d.every v) (same_version (next_version d) v) a)
    | inr a ↦ or_right (d.every v || same_version (next_version d) v) (d.of q v) a
  ]

  pub known_new : (q : ℕ) → known (made d p r) q (next_version d) ≡ true
  known_new q =
      or_left (d.every (next_version d) || same_version (next_version d) (next_version d)) (d.of q (next_version d))
      (or_right (d.every (next_version d)) (same_version (next_version d) (next_version d)) (is_same_version (next_version d) (next_version d) refl))

  in_others : {e : Entry} (es : List Entry) → In e (others p es) → In e es × ((e.picture == p) ≡ false)
  in_others {e = e} es i = let q = in_passed (is_of_other p) es i in (q.0, not-true (e.picture == p) q.1)

  other_stays : {e : Entry} (es : List Entry) → In e es → (e.picture == p) ≡ false → In e (others p es)
  other_stays {e = e} es i h = passes (is_of_other p) i (not_from_false (e.picture == p) h)

  pub in_store_made : {e : Entry} → In e (made d p r).store → ((e ≡ new_entry d p r) × (matches d.tree r ≡ true)) ⊎ (In e d.store × ((e.picture == p) ≡ false))
  in_store_made i = elim (in_put_if (matches d.tree r) (new_entry d p r) (others p d.store) i) [ inl a ↦ inl a | inr b ↦ inr (in_others d.store b) ]

  pub in_out_made : {e : Entry} → In e (made d p r).out → ((e ≡ new_entry d p r) × (matches d.tree r ≡ false)) ⊎ (In e d.out × ((e.picture == p) ≡ false))
  in_out_made i = elim (in_put_if (not (matches d.tree r)) (new_entry d p r) (others p d.out) i) [
    | inl a ↦ inl (a.0, not-true (matches d.tree r) a.1)
    | inr b ↦ inr (in_others d.out b)
  ]

  pub in_holds_made : {e : Entry} → In e (holds (made d p r)) → (e ≡ new_entry d p r) ⊎ (In e (holds d) × ((e.picture == p) ≡ false))
  in_holds_made i = elim (in_either (made d p r).store i) [
    | inl a ↦ elim (in_store_made a) [ inl b ↦ inl b.0 | inr b ↦ inr (in_left d.out b.0, b.1) ]
    | inr a ↦ elim (in_out_made a) [ inl b ↦ inl b.0 | inr b ↦ inr (in_right d.store b.0, b.1) ]
  ]

  pub new_stored : matches d.tree r ≡ true → In (new_entry d p r) (made d p r).store
  new_stored h = put_if_is_in (matches d.tree r) (new_entry d p r) (others p d.store) h

  pub new_out : matches d.tree r ≡ false → In (new_entry d p r) (made d p r).out
  new_out h = put_if_is_in (not (matches d.tree r)) (new_entry d p r) (others p d.out) (not_from_false (matches d.tree r) h)

  pub old_stored : {e : Entry} → In e d.store → (e.picture == p) ≡ false → In e (made d p r).store
  old_stored i h = stays_in_put_if (matches d.tree r) (new_entry d p r) (other_stays d.store i h)

  pub old_out : {e : Entry} → In e d.out → (e.picture == p) ≡ false → In e (made d p r).out
  old_out i h = stays_in_put_if (not (matches d.tree r)) (new_entry d p r) (other_stays d.out i h)
