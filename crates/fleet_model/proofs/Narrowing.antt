-- What a device holds after narrowing.
use Rattle.std.proofs.Common.{◌≡◌, true, false, not, ◌⊎◌, inl, inr, filter}
use Rattle.std.proofs.lemmas.Bool.{cases_Bool, not-true, not_from_false}
use Rattle.photo_filter_text.specs.Tree.{Tree}
use Rattle.photo_filter_rules.specs.Matching.{matches}
use Rattle.photo_model.specs.Entry.{Entry}
use Rattle.photo_model.specs.Device.{ModelDevice, holds, narrowed}
use Rattle.fleet_model.specs.Members.{In}
use Rattle.fleet_model.proofs.Members.{in_left, in_right, in_either, in_passed, passes, in_puts, puts_are_in, stays_in_puts}

module _ (tree : Tree) (d : ModelDevice) where
  pub in_store_narrowed : {e : Entry} → In e (narrowed tree d).store → In e d.store × (matches tree e.content ≡ true)
  in_store_narrowed i = in_passed (λ (x : Entry). matches tree x.content) d.store i

  pub in_out_narrowed : {e : Entry} → In e (narrowed tree d).out → (In e d.store × (matches tree e.content ≡ false)) ⊎ In e d.out
  in_out_narrowed {e = e} i = elim (in_puts (filter (λ (x : Entry). not (matches tree x.content)) d.store) d.out i) [
    | inl a ↦ let q = in_passed (λ (x : Entry). not (matches tree x.content)) d.store a in inl (q.0, not-true (matches tree e.content) q.1)
    | inr b ↦ inr b
  ]

  pub in_holds_narrowed : {e : Entry} → In e (holds (narrowed tree d)) → In e (holds d)
  in_holds_narrowed i = elim (in_either (narrowed tree d).store i) [
    | inl a ↦ in_left d.out (in_store_narrowed a).0
    | inr a ↦ elim (in_out_narrowed a) [ inl b ↦ in_left d.out b.0 | inr b ↦ in_right d.store b ]
  ]

  pub stays_stored : {e : Entry} → In e d.store → matches tree e.content ≡ true → In e (narrowed tree d).store
  stays_stored i h = passes (λ (x : Entry). matches tree x.content) i h

  pub still_held : {e : Entry} → In e (holds d) → In e (holds (narrowed tree d))
  still_held {e = e} i = elim (in_either d.store i) [
    | inl a ↦ elim (cases_Bool (matches tree e.content)) [
      | inl b ↦ in_left (narrowed tree d).out (stays_stored a b)
      | inr b ↦ in_right (narrowed tree d).store (puts_are_in d.out (passes (λ (x : Entry). not (matches tree x.content)) a (not_from_false (matches tree e.content) b)))
    ]
    | inr a ↦ in_right (narrowed tree d).store (stays_in_puts (filter (λ (x : Entry). not (matches tree x.content)) d.store) a)
  ]
