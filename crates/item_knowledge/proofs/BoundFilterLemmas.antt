-- Marks of rows in a Bloom filter.
use Rattle.std.proofs.Common.{◌≡◌, ℕ, ◌<◌, true, false, Bool, List, length, get_or, set, sym, ap, ◌∙◌, inl, inr}
use Rattle.std.proofs.lemmas.List.{get_or-set_same, get_or-set_other, length-set}
use Rattle.std.proofs.lemmas.Bool.{cases_eq}
use Rattle.item_knowledge.specs.BoundFilter.{place_of, is_marked, HasMarks}
use Rattle.item_knowledge.specs.VectorIndex.{mixed, share}
use Rattle.item_knowledge.proofs.ChainLemmas.{share_below, mixed_below}

-- a mark stands within the places
pub mixed_share : (count hash word : ℕ) → 0 < count → share count (mixed hash word) < count
mixed_share count hash word some = share_below count (mixed hash word) some (mixed_below hash word)

-- of a row the mark stands where it stood
set_at : (marks : List Bool) (place : ℕ) (row : List ℕ) → is_marked (set marks place true) row ≡ get_or (set marks place true) (place_of (length marks) row) false
set_at marks place row = ap (λ n. get_or (set marks place true) (place_of n row) false) (length-set marks place true)

-- where a row is marked it has a mark
pub set_marks : (marks new : List Bool) (row : List ℕ) (place : ℕ) → place ≡ place_of (length marks) row → place < length marks → new ≡ set marks place true → is_marked new row ≡ true
set_marks marks new row place at l is =
    ap (λ ms. is_marked ms row) is ∙ set_at marks place row ∙ ap (λ k. get_or (set marks place true) k false) (sym at) ∙ get_or-set_same marks place true false l

-- and whatever had one keeps it
pub set_keeps : (marks new : List Bool) (place : ℕ) → place < length marks → new ≡ set marks place true → HasMarks marks new
set_keeps marks new place l is row h =
    let here = ap (λ ms. is_marked ms row) is ∙ set_at marks place row in
    here ∙ (elim (cases_eq (place_of (length marks) row) place) [
      | inl same ↦ ap (λ k. get_or (set marks place true) k false) same ∙ get_or-set_same marks place true false l
      | inr other ↦ get_or-set_other marks place (place_of (length marks) row) true false other ∙ h
    ])
