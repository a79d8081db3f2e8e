-- Commands grouped by batch.
use Rattle.std.proofs.Common.{◌≡◌, ◌≢◌, ℕ, zero, suc, ◌+◌, ◌<◌, ◌≤◌, Bool, true, false, cond, ◌==◌, List, [], ◌∷◌, ◌++◌, ◌⊎◌, inl, inr, length, get_or, set, filter, refl, sym, ap, ◌∙◌, subst, length-append, arith, get_or-set_other, get_or-set_same, length-set, ext_get_or}
use Rattle.std.specs.Prelude.{Some}
use Rattle.std.specs.List.{AllByRecursion}
use Rattle.std.proofs.lemmas.List.{append-nil, get_or_append_left, get_or_at, get_or_past}
use Rattle.std.proofs.lemmas.Bool.{cases_order, cases_eq, eq-eqb, ne_eqb, eqb-true}
use Rattle.fleet_model.specs.Contents.{Contents, command_of}
use Rattle.fleet_model.specs.declared.command.Command.{Command}
use Rattle.fleet_model.specs.Runs.{numbers_to}
use Rattle.photo_batcher.specs.Batches.{members_to, members_of, batches_from}
use Rattle.photo_batcher.specs.Greedy.{IsGreedyTo}
use Rattle.photo_batcher.specs.Steps.{with_member, IsGroupedTo}
use Rattle.photo_batcher.proofs.Counting.{all_map}
use Rattle.photo_batcher.proofs.Turns.{all_numbers}
use Rattle.photo_batcher.proofs.Lasts.{HasBelow, has_below, used_number}

filter_append : (p : ℕ → Bool) (xs ys : List ℕ) → filter p (xs ++ ys) ≡ filter p xs ++ filter p ys
filter_append p [] ys = refl
filter_append p (x ∷ xs) ys = go (p x) (filter_append p xs ys)
  where
    go : (b : Bool) → filter p (xs ++ ys) ≡ filter p xs ++ filter p ys → cond b (x ∷ filter p (xs ++ ys)) (filter p (xs ++ ys)) ≡ cond b (x ∷ filter p xs) (filter p xs) ++ filter p ys
    go true e = ap (λ (l : List ℕ). x ∷ l) e
    go false e = e

filter_same : (p q : ℕ → Bool) (xs : List ℕ) → AllByRecursion (λ x. p x ≡ q x) xs → filter p xs ≡ filter q xs
filter_same p q [] all = refl
filter_same p q (x ∷ xs) all = (λ i. cond (all.0 i) (x ∷ filter p xs) (filter p xs)) ∙ ap (λ (l : List ℕ). cond (q x) (x ∷ l) l) (filter_same p q xs all.1)

members_here : (batch : ℕ → ℕ) (n b : ℕ) → batch (suc n) ≡ b → members_to batch (suc n) b ≡ members_to batch n b ++ suc n ∷ []
members_here batch n b is = filter_append (λ k. batch k == b) (numbers_to n) (suc n ∷ []) ∙ ap (λ (t : Bool). members_to batch n b ++ cond t (suc n ∷ []) []) (eq-eqb (batch (suc n)) b is)

members_there : (batch : ℕ → ℕ) (n b : ℕ) → batch (suc n) ≢ b → members_to batch (suc n) b ≡ members_to batch n b
members_there batch n b other = filter_append (λ k. batch k == b) (numbers_to n) (suc n ∷ []) ∙ ap (λ (t : Bool). members_to batch n b ++ cond t (suc n ∷ []) []) (ne_eqb (batch (suc n)) b other) ∙ append-nil (members_to batch n b)

pub grouped_none : (batch : ℕ → ℕ) → IsGroupedTo batch 0 []
grouped_none batch = record { each = λ b. refl; below = λ k h few. absurd (omega arith); least = λ count all. omega arith }

pub grouped_same : (batch other : ℕ → ℕ) (n : ℕ) (rows : List (List ℕ)) → ((k : ℕ) → 0 < k → k ≤ n → other k ≡ batch k) → IsGroupedTo batch n rows → IsGroupedTo other n rows
grouped_same batch other n rows same g = record {
  each = λ b. g.each b ∙ filter_same (λ k. batch k == b) (λ k. other k == b) (numbers_to n) (all_map (λ k. (0 < k) × (k ≤ n)) (λ k. (batch k == b) ≡ (other k == b)) (numbers_to n) (λ k h. ap (λ j. j == b) (sym (same k h.0 h.1))) (all_numbers n));
  below = λ k h few. let was = g.below k h few in let is = same k h few in omega arith;
  least = λ count all. g.least count (λ k h few. let is = same k h few in let low = all k h few in omega arith);
}

pub with_long : (x n : ℕ) (rows : List (List ℕ)) → x ≤ length rows → (length rows ≤ length (with_member x n rows)) × (x < length (with_member x n rows)) × (length (with_member x n rows) ≤ length rows + 1) × ((length (with_member x n rows) ≡ length rows) ⊎ ((x ≡ length rows) × (length (with_member x n rows) ≡ length rows + 1)))
with_long x n rows low = go (x == length rows) refl (cases_eq x (length rows))
  where
    go : (b : Bool) → (x == length rows) ≡ b → (x ≡ length rows) ⊎ (x ≡ length rows → ⊥) → (length rows ≤ length (cond b (rows ++ (n ∷ []) ∷ []) (set rows x (get_or rows x [] ++ n ∷ [])))) × (x < length (cond b (rows ++ (n ∷ []) ∷ []) (set rows x (get_or rows x [] ++ n ∷ [])))) × (length (cond b (rows ++ (n ∷ []) ∷ []) (set rows x (get_or rows x [] ++ n ∷ []))) ≤ length rows + 1) × ((length (cond b (rows ++ (n ∷ []) ∷ []) (set rows x (get_or rows x [] ++ n ∷ []))) ≡ length rows) ⊎ ((x ≡ length rows) × (length (cond b (rows ++ (n ∷ []) ∷ []) (set rows x (get_or rows x [] ++ n ∷ []))) ≡ length rows + 1)))
    go true e order = let long = length-append rows ((n ∷ []) ∷ []) in let is = eqb-true x (length rows) e in (omega arith, omega arith, omega arith, inr (is, long))
    go false e (inl same) = let is = eq-eqb x (length rows) same in cc
    go false e (inr other) = let long = length-set rows x (get_or rows x [] ++ n ∷ []) in (omega arith, omega arith, omega arith, inl long)

with_here : (x n : ℕ) (rows : List (List ℕ)) → x ≤ length rows → get_or (with_member x n rows) x [] ≡ get_or rows x [] ++ n ∷ []
with_here x n rows low = go (x == length rows) refl (cases_eq x (length rows))
  where
    go : (b : Bool) → (x == length rows) ≡ b → (x ≡ length rows) ⊎ (x ≡ length rows → ⊥) → get_or (cond b (rows ++ (n ∷ []) ∷ []) (set rows x (get_or rows x [] ++ n ∷ []))) x [] ≡ get_or rows x [] ++ n ∷ []
    go true e order = let is = eqb-true x (length rows) e in get_or_at rows (n ∷ []) [] [] x (sym is) ∙ ap (λ (l : List ℕ). l ++ n ∷ []) (sym (get_or_past rows x [] (omega arith)))
    go false e (inl same) = let is = eq-eqb x (length rows) same in cc
    go false e (inr other) = get_or-set_same rows x (get_or rows x [] ++ n ∷ []) [] (omega arith)

with_there : (x n b : ℕ) (rows : List (List ℕ)) → x ≤ length rows → b ≢ x → get_or (with_member x n rows) b [] ≡ get_or rows b []
with_there x n b rows low away = go (x == length rows) refl (cases_order b (length rows))
  where
    go : (t : Bool) → (x == length rows) ≡ t → (b ≡ length rows) ⊎ ((b < length rows) ⊎ (length rows < b)) → get_or (cond t (rows ++ (n ∷ []) ∷ []) (set rows x (get_or rows x [] ++ n ∷ []))) b [] ≡ get_or rows b []
    go true e (inl same) = let is = eqb-true x (length rows) e in absurd (away (same ∙ sym is))
    go true e (inr (inl less)) = get_or_append_left rows ((n ∷ []) ∷ []) [] b less
    go true e (inr (inr over)) = let long = length-append rows ((n ∷ []) ∷ []) in get_or_past (rows ++ (n ∷ []) ∷ []) b [] (omega arith) ∙ sym (get_or_past rows b [] (omega arith))
    go false e order = get_or-set_other rows x b (get_or rows x [] ++ n ∷ []) [] away

pub grouped_more : (batch : ℕ → ℕ) (n m : ℕ) (rows : List (List ℕ)) → m ≡ suc n → IsGroupedTo batch n rows → batch m ≤ length rows → IsGroupedTo batch m (with_member (batch m) m rows)
grouped_more batch n m rows is g low = subst (λ (k : ℕ). IsGroupedTo batch k (with_member (batch k) k rows)) (sym is) (more (subst (λ (k : ℕ). batch k ≤ length rows) is low))
  where
    more : batch (suc n) ≤ length rows → IsGroupedTo batch (suc n) (with_member (batch (suc n)) (suc n) rows)
    more few =
        let long = with_long (batch (suc n)) (suc n) rows few in
        record {
          each = λ b. elim (cases_eq (batch (suc n)) b) [
            | inl same ↦ ap (get_or (with_member (batch (suc n)) (suc n) rows) b) refl ∙ (λ i. get_or (with_member (batch (suc n)) (suc n) rows) (sym same i) []) ∙ with_here (batch (suc n)) (suc n) rows few ∙ (λ i. get_or rows (same i) [] ++ suc n ∷ []) ∙ ap (λ (l : List ℕ). l ++ suc n ∷ []) (g.each b) ∙ sym (members_here batch n b same)
            | inr other ↦ with_there (batch (suc n)) (suc n) b rows few (λ e. other (sym e)) ∙ g.each b ∙ sym (members_there batch n b other)
          ];
          below = λ k h at_most. elim (cases_eq k (suc n)) [
            | inl same ↦ let here : batch k ≡ batch (suc n) = ap batch same in let room = long.1 in omega arith
            | inr other ↦ let was = g.below k h (omega arith) in let room = long.0 in omega arith
          ];
          least = λ count all. elim long.3 [
            | inl same ↦ let low = g.least count (λ k h at_most. all k h (omega arith)) in omega arith
            | inr one_more ↦ let x = one_more.0 in let y = one_more.1 in let low = all (suc n) (omega arith) (omega arith) in omega arith
          ];
        }

-- the next command's batch exists already, or is the first that doesn't
pub low_enough : (script : Contents) (batch : ℕ → ℕ) (n count : ℕ) (c : Command) (rows : List (List ℕ)) → IsGreedyTo script count batch → n < count → command_of script (suc n) ≡ Some c → IsGroupedTo batch n rows → batch (suc n) ≤ length rows
low_enough script batch n count c rows greedy few here g = elim (cases_order 0 (batch (suc n))) [
  | inl none ↦ omega arith
  | inr (inl some) ↦
      let b : HasBelow script batch count greedy (suc n) = has_below script batch count greedy n c few here some in
      let number = used_number script b.before b.related.device b.related.first in
      let early = b.earlier in
      let low = g.below b.before number.0 (omega arith) in
      let is = b.below in
      omega arith
  | inr (inr below) ↦ absurd (omega arith)
]

-- all commands

row_of : (script : Contents) (batch : ℕ → ℕ) (count b i : ℕ) → i < count → get_or (batches_from script batch b count) i [] ≡ members_of script batch (b + i)
row_of script batch zero b i h = absurd (omega arith)
row_of script batch (suc count) b zero h = let same : b + 0 ≡ b = omega arith in ap (members_of script batch) (sym same)
row_of script batch (suc count) b (suc i) h = let same : suc b + i ≡ b + suc i = omega arith in row_of script batch count (suc b) i (omega arith) ∙ ap (members_of script batch) same

length_rows : (script : Contents) (batch : ℕ → ℕ) (count b : ℕ) → length (batches_from script batch b count) ≡ count
length_rows script batch zero b = refl
length_rows script batch (suc count) b = ap suc (length_rows script batch count (suc b))

pub rows_are : (script : Contents) (batch : ℕ → ℕ) (rows : List (List ℕ)) → ((b : ℕ) → get_or rows b [] ≡ members_of script batch b) → rows ≡ batches_from script batch 0 (length rows)
rows_are script batch rows each = ext_get_or [] rows (batches_from script batch 0 (length rows)) (sym (length_rows script batch (length rows) 0)) (λ i h. let same : 0 + i ≡ i = omega arith in each i ∙ ap (members_of script batch) (sym same) ∙ sym (row_of script batch (length rows) 0 i h))
