-- Elements that pass a test, and lists in blocks that have none.
use Rattle.std.proofs.Common.{◌≡◌, ℕ, suc, ◌+◌, ◌<◌, ◌≤◌, Bool, true, false, ◌||◌, List, [], ◌∷◌, ◌++◌, length, get_or, slice_get, Some, take, drop, Vec, refl, sym, ap, ◌∙◌, inl, inr, arith}
use Rattle.std.specs.List.{list_any}
use Rattle.std.specs.declared.alloc.Global.{Global}
use Rattle.std.proofs.lemmas.Bool.{cases_eq}
use Rattle.std.proofs.lemmas.List.{get_or_default}
use Rattle.std.proofs.lemmas.List.Folds.{list_any-append}
use Rattle.std.proofs.lemmas.Option.{slice_get_within}
use Rattle.block_list.specs.Blocks.{joined, start_of, passes}
use Rattle.block_list.specs.Taken.{IsTakenOut}
use Rattle.block_list.proofs.Joined.{block_read}

module _ {T : Type 0} where
  -- what was found in a block, in the list
  pub found_in_list : (p : T → Bool) (blocks : List (Vec T Global)) (b k : ℕ) (v : Vec T Global) (items : List T) → b < length blocks → v ≡ get_or blocks b v → items ≡ v.items → k < length items → passes p (slice_get items k) ≡ true → passes p (slice_get (joined blocks) (start_of blocks b + k)) ≡ true
  found_in_list p blocks b k v items inside is items_is within there = ap (passes p) (block_read blocks b k v inside is (omega (arith, ap length items_is)) ∙ ap (λ l. slice_get l k) (sym items_is)) ∙ there

  -- in no block one passes
  pub none_in_blocks : (p : T → Bool) (blocks : List (Vec T Global)) → ((j : ℕ) (d : Vec T Global) → j < length blocks → list_any p (get_or blocks j d).items ≡ false) → list_any p (joined blocks) ≡ false
  none_in_blocks p [] none = refl
  none_in_blocks p (v ∷ blocks) none =
      list_any-append p v.items (joined blocks)
      ∙ ap (λ b. b || list_any p (joined blocks)) (none 0 v (omega arith))
      ∙ none_in_blocks p blocks (λ j d within. none (suc j) d (omega arith))

  -- none passes in one block more, of those from a block on to the end and then from the first on
  pub none_in_turn : (p : T → Bool) (blocks : List (Vec T Global)) (from i block : ℕ) (v : Vec T Global) → block < length blocks → i < length blocks → (from + i < length blocks → block ≡ from + i) → (length blocks ≤ from + i → block + length blocks ≡ from + i) → v ≡ get_or blocks block v → list_any p v.items ≡ false → ((b : ℕ) (d : Vec T Global) → b < length blocks → (from ≤ b → b < from + i) → (b < from → b + length blocks < from + i) → list_any p (get_or blocks b d).items ≡ false) → (b : ℕ) (d : Vec T Global) → b < length blocks → (from ≤ b → b < from + (i + 1)) → (b < from → b + length blocks < from + (i + 1)) → list_any p (get_or blocks b d).items ≡ false
  none_in_turn p blocks from i block v inside within behind before is none earlier b d h l u = elim (cases_eq b block) [
    | inl same ↦ ap (λ n. list_any p (get_or blocks n d).items) same ∙ ap (λ (w : Vec T Global). list_any p w.items) (get_or_default blocks block d v inside ∙ sym is) ∙ none
    | inr other ↦ earlier b d h (λ a. grind arith) (λ a. grind arith)
  ]

  -- an element that was found, and is taken out
  pub taken_out : (p : T → Bool) (old new : List T) (blocks at : List (Vec T Global)) (b k : ℕ) (x : T) → at ≡ blocks → joined blocks ≡ old → passes p (slice_get (joined at) (start_of at b + k)) ≡ true → slice_get (joined blocks) (start_of blocks b + k) ≡ Some x → new ≡ take (start_of blocks b + k) (joined blocks) ++ drop (start_of blocks b + k + 1) (joined blocks) → IsTakenOut p old x new
  taken_out p old new blocks at b k x at_is old_is there here rest = record {
    place = start_of blocks b + k;
    within = rw old_is at (slice_get_within (joined blocks) (start_of blocks b + k) x here);
    at = rw old_is at here;
    passes = ap (passes p) (sym here) ∙ (rw at_is at there);
    rest = rw old_is at rest;
  }
