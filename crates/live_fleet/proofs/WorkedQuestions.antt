-- The worked questions; the definitions alone compute what can be computed.
use Rattle.std.proofs.Common.{◌≡◌, zero, suc, true, false, eqb, [], ◌∷◌, refl, sym, arith}
use Rattle.std.proofs.lemmas.Bool.{false≢true}
use Rattle.std.specs.List.Sorted.{IsSortedBy}
use Rattle.std.proofs.lemmas.List.Sorted.{IsPermutation-refl, IsPermutation-append_comm, list_any-IsPermutation}
use Rattle.photo_device.specs.declared.held.Held.{Held}
use Rattle.photo_device.specs.Held.{held_before}
use Rattle.live_fleet.specs.QuestionExamples.{SelectsOfBoth, AsksAsTold, seven, nine}

one_sorted : (h : Held) → IsSortedBy held_before (h ∷ [])
one_sorted h k d l m = absurd (omega arith)

two_sorted : (h g : Held) → held_before g h ≡ false → IsSortedBy held_before (h ∷ g ∷ [])
two_sorted h g later zero d l m = later
two_sorted h g later (suc k) d l m = absurd (omega arith)

pub selects_of_both : SelectsOfBoth
selects_of_both = record {
  both = record { same = IsPermutation-append_comm (nine ∷ []) (seven ∷ []); ordered = two_sorted seven nine refl };
  higher = record { same = IsPermutation-refl (seven ∷ []); ordered = one_sorted seven };
  store_alone = λ are. false≢true (sym (list_any-IsPermutation (λ h. eqb h.picture 7) (nine ∷ seven ∷ []) (nine ∷ []) are.same));
  removed = record { same = IsPermutation-refl (nine ∷ []); ordered = one_sorted nine };
}

pub asks_as_told : AsksAsTold
asks_as_told = record {
  hold_7 = refl;
  hold_9 = refl;
  lack_7 = refl;
  know_7 = refl;
  know_9 = refl;
  know_8 = refl;
  taken = refl;
  handed = refl;
  none_taken = refl;
}
