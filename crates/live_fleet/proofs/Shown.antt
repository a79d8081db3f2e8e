-- What a pull would move, on the model devices that the two devices show.
use Rattle.std.proofs.Common.{◌≡◌, Bool, true, false, cond, not, ◌&&◌, List, [], ◌∷◌, refl, ap, ap₂, ◌∙◌}
use Rattle.std.specs.Prelude.{filter}
use Rattle.std.specs.List.{AllByRecursion}
use Rattle.photo_filter_text.specs.Tree.{Tree}
use Rattle.photo_filter_rules.specs.Matching.{matches}
use Rattle.photo_device.specs.declared.held.Held.{Held}
use Rattle.photo_model.specs.Entry.{Entry}
use Rattle.photo_device.specs.Held.{entry_of, entries_of}
use Rattle.photo_device.specs.Own.{IsKnownBy}
use Rattle.photo_model.specs.Device.{ModelDevice, knows_entry, selects}
use Rattle.photo_device.specs.Device.{Kept, Shows}
use Rattle.photo_model.specs.Pull.{taken, handed}
use Rattle.live_fleet.specs.Moving.{is_new_to, are_taken, are_handed}

twice_filtered : {X : Type 0} (p q : X → Bool) (xs : List X) → filter q (filter p xs) ≡ filter (λ x. p x && q x) xs
twice_filtered p q [] = refl
twice_filtered p q (x ∷ xs) = elim (p x) as (λ b. filter q (cond b (x ∷ filter p xs) (filter p xs)) ≡ cond (b && q x) (x ∷ filter (λ y. p y && q y) xs) (filter (λ y. p y && q y) xs)) [
  | true ↦ ap (λ l. cond (q x) (x ∷ l) l) (twice_filtered p q xs)
  | false ↦ twice_filtered p q xs
]

-- a test of held versions keeps the same entries as the matching test of entries
entries_kept : (P : Held → Type 0) (p : Held → Bool) (q : Entry → Bool) (hs : List Held) → AllByRecursion P hs → ((h : Held) → P h → p h ≡ q (entry_of h)) → entries_of (filter p hs) ≡ filter q (entries_of hs)
entries_kept P p q [] all same = refl
entries_kept P p q (h ∷ hs) all same =
    ap (λ b. entries_of (cond b (h ∷ filter p hs) (filter p hs))) (same h all.0)
    ∙ elim (q (entry_of h)) as (λ b. entries_of (cond b (h ∷ filter p hs) (filter p hs)) ≡ cond b (entry_of h ∷ filter q (entries_of hs)) (filter q (entries_of hs))) [
      | true ↦ ap (λ es. entry_of h ∷ es) (entries_kept P p q hs all.1 same)
      | false ↦ entries_kept P p q hs all.1 same
    ]

module _ (t s : Kept) (tm sm : ModelDevice) (shows_t : Shows t tm) (shows_s : Shows s sm) where
  new_shown : (h : Held) → IsKnownBy s.knowledge h → is_new_to t h ≡ not (knows_entry tm (entry_of h))
  new_shown h known = ap not (shows_t.known h.picture known.above h.version)

  selected_shown : (h : Held) → matches t.tree h.content ≡ selects tm (entry_of h)
  selected_shown h = ap (λ (tree : Tree). matches tree h.content) shows_t.tree

  pub taken_shown : AllByRecursion (IsKnownBy s.knowledge) s.store → entries_of (are_taken t s) ≡ taken tm sm
  taken_shown all =
      ap entries_of (twice_filtered (is_new_to t) (λ h. matches t.tree h.content) s.store)
      ∙ entries_kept (IsKnownBy s.knowledge) (λ h. is_new_to t h && matches t.tree h.content) (λ e. not (knows_entry tm e) && selects tm e) s.store all (λ h k. ap₂ (λ a b. a && b) (new_shown h k) (selected_shown h))
      ∙ ap (filter (λ e. not (knows_entry tm e) && selects tm e)) shows_s.store

  pub handed_shown : AllByRecursion (IsKnownBy s.knowledge) s.out → entries_of (are_handed t s) ≡ handed tm sm
  handed_shown all =
      entries_kept (IsKnownBy s.knowledge) (is_new_to t) (λ e. not (knows_entry tm e)) s.out all new_shown
      ∙ ap (filter (λ e. not (knows_entry tm e))) shows_s.out
