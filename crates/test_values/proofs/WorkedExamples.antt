-- The worked examples, by cases over each place that an element or a group can have.
use Rattle.std.proofs.Common.{◌≡◌, ℕ, zero, suc, ◌+◌, ◌<◌, false, List, [], ◌∷◌, ◌++◌, length, get_or, take, drop, refl, ap, ◌∙◌, arith}
use Rattle.std.proofs.lemmas.Bool.{false≢true}
use Rattle.std.proofs.lemmas.Bool.Decides.{nat_tests}
use Rattle.item_knowledge.specs.Entries.{Entry, bound, same_entries}
use Rattle.item_knowledge.specs.Fragments.{is_empty, first, entries_at}
use Rattle.item_knowledge.specs.Gathering.{pictures_at, pictures_of}
use Rattle.test_values.specs.Examples.{TakenOutAsTold, GatheredAsTold, all_groups, all_numbers}

-- of two elements one stays
one_stays : (x y k : ℕ) → k < 2 → length (take k (x ∷ y ∷ []) ++ drop (k + 1) (x ∷ y ∷ [])) ≡ 1
one_stays x y zero below = refl
one_stays x y (suc zero) below = refl
one_stays x y (suc (suc k)) below = absurd (omega arith)

pub taken_out_as_told : TakenOutAsTold
taken_out_as_told = record {
  last = record { place = 2; within = omega arith; at = refl; passes = refl; rest = refl };
  equal = record { place = 1; within = omega arith; at = refl; passes = refl; rest = refl };
  both = λ t. let bad : 0 ≡ 1 = ap length t.rest ∙ one_stays 8 8 t.place t.within in omega arith;
  fails = λ t. false≢true t.passes;
  stays = λ t. let bad : 2 ≡ 1 = ap length t.rest ∙ one_stays 7 8 t.place t.within in omega arith;
}

-- the bound of device 1 beside the second picture
abbrev second : List (ℕ × List Entry) → ℕ
second table = bound (get_or table 1 (0, [])).1 1

all_pictures : (k : ℕ) → pictures_at all_groups k ≡ pictures_of (suc k) all_numbers
all_pictures zero = refl
all_pictures (suc zero) = refl
all_pictures (suc (suc k)) = grind (arith, nat_tests)

all_some : (k : ℕ) → k < 2 → (is_empty (pictures_at all_groups k) ≡ false) × (same_entries [] (entries_at all_groups k) ≡ false)
all_some zero below = (refl, refl)
all_some (suc zero) below = (refl, refl)
all_some (suc (suc k)) below = absurd (omega arith)

all_order : (j k : ℕ) → j < k → k < 2 → first (pictures_at all_groups j) < first (pictures_at all_groups k)
all_order zero zero less below = absurd (omega arith)
all_order zero (suc zero) less below = omega arith
all_order zero (suc (suc k)) less below = absurd (omega arith)
all_order (suc j) k less below = absurd (omega arith)

pub gathered_as_told : GatheredAsTold
gathered_as_told = record {
  all = record { vectors = refl; range = refl; pictures = all_pictures; some = all_some; order = all_order };
  mixed = λ g. let bad : 0 ≡ 1 = ap second g.vectors in omega arith;
  turned = λ g. let bad = g.order 0 1 (omega arith) (omega arith) in omega (arith, bad);
}
