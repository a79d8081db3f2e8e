-- What a device holds and knows after refiltering.
use Rattle.std.proofs.Common.{◌≡◌, ℕ, true, false, not, [], inl, inr, filter}
use Rattle.std.proofs.lemmas.Bool.{cases_Bool, not-true, not_from_false}
use Rattle.photo_filter_text.specs.Tree.{Tree}
use Rattle.photo_filter_rules.specs.Matching.{matches}
use Rattle.photo_version.specs.Version.{Version}
use Rattle.photo_model.specs.Entry.{Entry}
use Rattle.photo_model.specs.Device.{ModelDevice, known, knows_entry, holds}
use Rattle.photo_model.specs.Refiltered.{refiltered}
use Rattle.fleet_model.specs.Members.{In}
use Rattle.fleet_model.proofs.Members.{in_nothing, in_left, in_right, in_either, in_passed, passes, in_puts, puts_are_in}
use Rattle.fleet_model.proofs.Superseding.{IsTelling, tell_is, tells_history, tells_itself}

module _ (tree : Tree) (d : ModelDevice) where
  pub in_store_refiltered : {e : Entry} → In e (refiltered tree d).store → In e (holds d) × (matches tree e.content ≡ true)
  in_store_refiltered i = elim (in_puts (filter (λ (x : Entry). matches tree x.content) (holds d)) [] i) [
    | inl a ↦ in_passed (λ (x : Entry). matches tree x.content) (holds d) a
    | inr b ↦ in_nothing b
  ]

  pub in_out_refiltered : {e : Entry} → In e (refiltered tree d).out → In e (holds d) × (matches tree e.content ≡ false)
  in_out_refiltered {e = e} i = elim (in_puts (filter (λ (x : Entry). not (matches tree x.content)) (holds d)) [] i) [
    | inl a ↦ let q = in_passed (λ (x : Entry). not (matches tree x.content)) (holds d) a in (q.0, not-true (matches tree e.content) q.1)
    | inr b ↦ in_nothing b
  ]

  pub in_holds_refiltered : {e : Entry} → In e (holds (refiltered tree d)) → In e (holds d)
  in_holds_refiltered i = elim (in_either (refiltered tree d).store i) [
    | inl a ↦ (in_store_refiltered a).0
    | inr a ↦ (in_out_refiltered a).0
  ]

  pub comes_to_store : {e : Entry} → In e (holds d) → matches tree e.content ≡ true → In e (refiltered tree d).store
  comes_to_store i h = puts_are_in [] (passes (λ (x : Entry). matches tree x.content) i h)

  comes_to_out : {e : Entry} → In e (holds d) → matches tree e.content ≡ false → In e (refiltered tree d).out
  comes_to_out {e = e} i h = puts_are_in [] (passes (λ (x : Entry). not (matches tree x.content)) i (not_from_false (matches tree e.content) h))

  pub held_again : {e : Entry} → In e (holds d) → In e (holds (refiltered tree d))
  held_again {e = e} i = elim (cases_Bool (matches tree e.content)) [
    | inl a ↦ in_left (refiltered tree d).out (comes_to_store i a)
    | inr a ↦ in_right (refiltered tree d).store (comes_to_out i a)
  ]

  -- the refiltered device knows only what its held entries tell
  pub known_refiltered : (p : ℕ) (v : Version) → known (refiltered tree d) p v ≡ true → IsTelling (holds d) p v
  known_refiltered p v h = tell_is (holds d) p v h

  pub knows_history : {w : Entry} (p : ℕ) (v : Version) → In w (holds d) → w.picture ≡ p → w.history v ≡ true → known (refiltered tree d) p v ≡ true
  knows_history {w = w} p v i e h = tells_history w p v i e h

  pub knows_itself : {w : Entry} → In w (holds d) → knows_entry (refiltered tree d) w ≡ true
  knows_itself {w = w} i = tells_itself w i
