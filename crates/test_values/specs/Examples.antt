-- Worked examples of relations of the crates below: values for which they hold and, before a ⊥, values for which they don't.
use Rattle.std.specs.Prelude.{ℕ, Bool, nat_lt, List, [], ◌∷◌}
use Rattle.block_list.specs.Taken.{IsTakenOut}
use Rattle.item_knowledge.specs.Entries.{Entry}
use Rattle.item_knowledge.specs.Fragments.{Fragment}
use Rattle.item_knowledge.specs.Gathering.{IsGathered}

abbrev pub above_seven : ℕ → Bool
above_seven n = nat_lt 7 n

-- an element above 7 is taken out of a list
pub record TakenOutAsTold : Type 0 where
  -- any element that passes may be taken, not only the first
  pub last : IsTakenOut above_seven (7 ∷ 8 ∷ 9 ∷ []) 9 (7 ∷ 8 ∷ [])
  -- of two equal elements one stays
  pub equal : IsTakenOut above_seven (8 ∷ 8 ∷ []) 8 (8 ∷ [])
  pub both : IsTakenOut above_seven (8 ∷ 8 ∷ []) 8 [] → ⊥
  -- the element doesn't pass
  pub fails : IsTakenOut above_seven (7 ∷ 8 ∷ []) 7 (8 ∷ []) → ⊥
  -- an element that is taken doesn't stay
  pub stays : IsTakenOut above_seven (7 ∷ 8 ∷ []) 8 (7 ∷ 8 ∷ []) → ⊥

abbrev one : List Entry
one = (0, 1) ∷ []

abbrev other : List Entry
other = (1, 1) ∷ []

abbrev of : List ℕ → List Entry → Fragment
of ps es = record { pictures = ps; entries = es }

-- three pictures with what is known of each; for two of them it is the same
abbrev pub three : List (ℕ × List Entry)
three = (7, one) ∷ (8, other) ∷ (9, one) ∷ []

abbrev pub all_groups : List Fragment
all_groups = of (7 ∷ 9 ∷ []) one ∷ of (8 ∷ []) other ∷ []

abbrev pub all_numbers : List (ℕ × ℕ)
all_numbers = (7, 1) ∷ (8, 2) ∷ (9, 1) ∷ []

-- pictures in the groups of their vectors, with the numbers of the groups
pub record GatheredAsTold : Type 0 where
  pub all : IsGathered three [] all_groups all_numbers
  -- a picture is in the group of another vector
  pub mixed : IsGathered three [] (of (7 ∷ 8 ∷ 9 ∷ []) one ∷ []) ((7, 1) ∷ (8, 1) ∷ (9, 1) ∷ []) → ⊥
  -- groups aren't in the order of their first pictures
  pub turned : IsGathered three [] (of (8 ∷ []) other ∷ of (7 ∷ 9 ∷ []) one ∷ []) ((7, 2) ∷ (8, 1) ∷ (9, 2) ∷ []) → ⊥
