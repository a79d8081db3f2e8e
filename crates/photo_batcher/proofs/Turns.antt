-- The batches in turn, each in any order, are a lawful order.
use Rattle.std.proofs.Common.{◌≡◌, ◌≢◌, ℕ, zero, suc, ◌+◌, ◌<◌, ◌≤◌, Bool, true, false, cond, ◌==◌, List, [], ◌∷◌, ◌++◌, ◌⊎◌, inl, inr, length, filter, refl, sym, ap, ◌∙◌, subst, arith}
use Rattle.std.specs.Prelude.{IsPermutation}
use Rattle.std.specs.List.{AllByRecursion}
use Rattle.std.proofs.lemmas.List.Sorted.{sum_by-IsPermutation}
use Rattle.std.proofs.lemmas.Bool.{cases_order, cases_eq, both_ways, eq-eqb, ne_eqb}
use Rattle.fleet_model.specs.Contents.{Contents}
use Rattle.fleet_model.specs.Runs.{numbers_to}
use Rattle.photo_model.proofs.AllLemmas.{all_append}
use Rattle.photo_batcher.specs.Related.{IsNumber, AreRelated}
use Rattle.photo_batcher.specs.Orders.{times, KeepsOrder}
use Rattle.photo_batcher.specs.Batches.{IsSchedule, members_of, batches_from, InTurn}
use Rattle.photo_batcher.specs.Laws.{BatchesInTurnAreLawful, PlansInTurnAreLawful, BatchesAreApart}
use Rattle.photo_batcher.specs.Plans.{batch_in}
use Rattle.photo_batcher.proofs.Counting.{none_is, all_map, all_both, times_append, times_cons, counts}
use Rattle.photo_batcher.proofs.Chains.{batches_rise}

-- members of a list, by how often they stand in it

pub self_counts : (k : ℕ) → counts k k ≡ 1
self_counts k = ap (λ (b : Bool). cond {A = ℕ} b 1 0) (eq-eqb k k refl)

pub not_counts : (k n : ℕ) → k ≢ n → counts n k ≡ 0
not_counts k n ne = ap (λ (b : Bool). cond {A = ℕ} b 1 0) (ne_eqb k n ne)

pub all_by_times : (P : ℕ → Type 0) (xs : List ℕ) → ((k : ℕ) → 0 < times k xs → P k) → AllByRecursion P xs
all_by_times P [] f = tt
all_by_times P (x ∷ xs) f = (f x (let c = times_cons x x xs in let s = self_counts x in omega arith), all_by_times P xs (λ k h. f k (let c = times_cons k x xs in omega arith)))

pub by_all_times : (P : ℕ → Type 0) (xs : List ℕ) (k : ℕ) → AllByRecursion P xs → 0 < times k xs → P k
by_all_times P [] k a h = absurd (omega arith)
by_all_times P (x ∷ xs) k a h = go (cases_eq x k) (by_all_times P xs k a.1)
  where
    go : (x ≡ k) ⊎ (x ≡ k → ⊥) → (0 < times k xs → P k) → P k
    go (inl e) more = subst P e a.0
    go (inr ne) more = more (let c = times_cons k x xs in let z = not_counts x k ne in omega arith)

times_permuted : (k : ℕ) (xs ys : List ℕ) → IsPermutation xs ys → times k ys ≡ times k xs
times_permuted k xs ys p = sum_by-IsPermutation (λ x. cond (x == k) 1 0) xs ys p

-- the numbers from 1 on

pub times_one : (k n : ℕ) → times k (n ∷ []) ≡ counts k n
times_one k n = times_cons k n [] ∙ omega arith

times_above : (n k : ℕ) → n < k → times k (numbers_to n) ≡ 0
times_above zero k h = refl
times_above (suc n) k h =
    let more : times k (numbers_to n) ≡ 0 = times_above n k (omega arith) in
    let here : counts k (suc n) ≡ 0 = not_counts (suc n) k (omega arith) in
    times_append k (numbers_to n) (suc n ∷ []) ∙ ap (λ (t : ℕ). times k (numbers_to n) + t) (times_one k (suc n)) ∙ omega arith

pub times_numbers : (n k : ℕ) → 0 < k → k ≤ n → times k (numbers_to n) ≡ 1
times_numbers zero k h few = absurd (omega arith)
times_numbers (suc n) k h few = go (cases_order k (suc n)) (times_numbers n k h)
  where
    whole : times k (numbers_to (suc n)) ≡ times k (numbers_to n) + counts k (suc n)
    whole = times_append k (numbers_to n) (suc n ∷ []) ∙ ap (λ (t : ℕ). times k (numbers_to n) + t) (times_one k (suc n))

    go : (k ≡ suc n) ⊎ ((k < suc n) ⊎ (suc n < k)) → (k ≤ n → times k (numbers_to n) ≡ 1) → times k (numbers_to (suc n)) ≡ 1
    go (inl e) more =
        let above : times k (numbers_to n) ≡ 0 = times_above n k (omega arith) in
        let here : counts k (suc n) ≡ 1 = ap (counts k) (sym e) ∙ self_counts k in
        let all = whole in
        omega arith
    go (inr (inl less)) more =
        let before : times k (numbers_to n) ≡ 1 = more (omega arith) in
        let here : counts k (suc n) ≡ 0 = not_counts (suc n) k (omega arith) in
        let all = whole in
        omega arith
    go (inr (inr over)) more = absurd (omega arith)

pub all_numbers : (n : ℕ) → AllByRecursion (λ k. (0 < k) × (k ≤ n)) (numbers_to n)
all_numbers zero = tt
all_numbers (suc n) = all_append (λ k. (0 < k) × (k ≤ suc n)) (numbers_to n) (suc n ∷ []) (all_map (λ k. (0 < k) × (k ≤ n)) (λ k. (0 < k) × (k ≤ suc n)) (numbers_to n) (λ k h. wider k h.0 h.1) (all_numbers n)) ((omega arith, omega arith), tt)
  where
    wider : (k : ℕ) → 0 < k → k ≤ n → (0 < k) × (k ≤ suc n)
    wider k a b = (a, omega arith)

-- how often a number stands in a filtered list

times_passed : (p : ℕ → Bool) (k : ℕ) (xs : List ℕ) → p k ≡ true → times k (filter p xs) ≡ times k xs
times_passed p k [] h = refl
times_passed p k (x ∷ xs) h = go (p x) refl (cases_eq x k) (times_passed p k xs h)
  where
    go : (b : Bool) → p x ≡ b → (x ≡ k) ⊎ (x ≡ k → ⊥) → times k (filter p xs) ≡ times k xs → times k (cond b (x ∷ filter p xs) (filter p xs)) ≡ times k (x ∷ xs)
    go true e same more = times_cons k x (filter p xs) ∙ ap (λ (t : ℕ). counts k x + t) more ∙ sym (times_cons k x xs)
    go false e (inl same) more = absurd (both_ways (p x) e (ap p same ∙ h))
    go false e (inr ne) more = let c = times_cons k x xs in let z = not_counts x k ne in omega arith

times_failed : (p : ℕ → Bool) (k : ℕ) (xs : List ℕ) → p k ≡ false → times k (filter p xs) ≡ 0
times_failed p k [] h = refl
times_failed p k (x ∷ xs) h = go (p x) refl (cases_eq x k) (times_failed p k xs h)
  where
    go : (b : Bool) → p x ≡ b → (x ≡ k) ⊎ (x ≡ k → ⊥) → times k (filter p xs) ≡ 0 → times k (cond b (x ∷ filter p xs) (filter p xs)) ≡ 0
    go true e (inl same) more = absurd (both_ways (p x) (ap p same ∙ h) e)
    go true e (inr ne) more = let c = times_cons k x (filter p xs) in let z = not_counts x k ne in omega arith
    go false e same more = more

-- batches don't fall along a list

NeverFalls : (ℕ → ℕ) → List ℕ → Type 0
NeverFalls batch [] = Unit {0}
NeverFalls batch (m ∷ more) = AllByRecursion (λ n. batch m ≤ batch n) more × NeverFalls batch more

module _ (script : Contents) (batch : ℕ → ℕ) where
  -- if no number stands twice and batches don't fall, related commands are in order
  keeps : IsSchedule script batch → (order : List ℕ) → ((k : ℕ) → times k order ≤ 1) → NeverFalls batch order → KeepsOrder script order
  unfolding NeverFalls
  keeps rises [] once never = tt
  keeps rises (m ∷ more) once never = (
    all_map (λ n. (n ≢ m) × (batch m ≤ batch n)) (λ n. AreRelated script m n → m < n) more (λ n h r. by n h.0 h.1 r)
        (all_both (λ n. n ≢ m) (λ n. batch m ≤ batch n) more (none_is m more (let c = times_cons m m more in let s = self_counts m in let o = once m in omega arith)) never.0),
    keeps rises more (λ k. let c = times_cons k m more in let o = once k in omega arith) never.1,
  )
    where
      by : (n : ℕ) → n ≢ m → batch m ≤ batch n → AreRelated script m n → m < n
      by n other low r = elim (cases_order m n) [
        | inl same ↦ absurd (other (sym same))
        | inr (inl less) ↦ less
        | inr (inr over) ↦
            let falls : batch n < batch m = rises n m over (record { device = r.device; first = r.second; second = r.first }) in
            absurd (omega arith)
      ]

  joined : (b : ℕ) (xs ys : List ℕ) → AllByRecursion (λ k. batch k ≡ b) xs → AllByRecursion (λ k. suc b ≤ batch k) ys → NeverFalls batch ys → NeverFalls batch (xs ++ ys)
  unfolding NeverFalls
  joined b [] ys same above never = never
  joined b (x ∷ xs) ys same above never = (
    all_append (λ k. batch x ≤ batch k) xs ys (all_map (λ k. batch k ≡ b) (λ k. batch x ≤ batch k) xs (λ k h. level k h same.0) same.1) (all_map (λ k. suc b ≤ batch k) (λ k. batch x ≤ batch k) ys (λ k h. higher k h same.0) above),
    joined b xs ys same.1 above never,
  )
    where
      level : (k : ℕ) → batch k ≡ b → batch x ≡ b → batch x ≤ batch k
      level k e f = omega arith

      higher : (k : ℕ) → suc b ≤ batch k → batch x ≡ b → batch x ≤ batch k
      higher k e f = omega arith

  -- the members of a batch

  member_in : (b k : ℕ) → IsNumber script k → batch k ≡ b → times k (members_of script batch b) ≡ 1
  member_in b k number is = times_passed (λ n. batch n == b) k (numbers_to (length script.commands)) (eq-eqb (batch k) b is) ∙ times_numbers (length script.commands) k number.0 number.1

  member_not : (b k : ℕ) → batch k ≢ b → times k (members_of script batch b) ≡ 0
  member_not b k other = times_failed (λ n. batch n == b) k (numbers_to (length script.commands)) (ne_eqb (batch k) b other)

  member_is : (b k : ℕ) → 0 < times k (members_of script batch b) → (batch k ≡ b) × IsNumber script k
  member_is b k h = go (cases_eq (batch k) b)
    where
      go : (batch k ≡ b) ⊎ (batch k ≡ b → ⊥) → (batch k ≡ b) × IsNumber script k
      go (inl e) =
          let all = times_passed (λ n. batch n == b) k (numbers_to (length script.commands)) (eq-eqb (batch k) b e) in
          (e, by_all_times (λ j. (0 < j) × (j ≤ length script.commands)) (numbers_to (length script.commands)) k (all_numbers (length script.commands)) (omega arith))
      go (inr ne) = let none = member_not b k ne in absurd (omega arith)

  -- an order of `count` batches, from batch b on
  record IsTurned (b count : ℕ) (order : List ℕ) : Type 0 where
    within : (k : ℕ) → 0 < times k order → (b ≤ batch k) × (batch k < b + count) × IsNumber script k
    once : (k : ℕ) → IsNumber script k → b ≤ batch k → batch k < b + count → times k order ≡ 1
    never : NeverFalls batch order

  turned : (count b : ℕ) (order : List ℕ) → InTurn (batches_from script batch b count) order → IsTurned b count order
  unfolding NeverFalls
  turned zero b order t = record {
    within = λ k h. let none : times k order ≡ 0 = ap (times k) t in absurd (omega arith);
    once = λ k number low high. absurd (omega arith);
    never = subst (NeverFalls batch) (sym t) tt;
  }
  turned (suc count) b order t =
      let first = t.0 in
      let rest = t.1 in
      let more = turned count (suc b) rest t.4 in
      let counted : (k : ℕ) → times k order ≡ times k first + times k rest = λ k. ap (times k) t.2 ∙ times_append k first rest in
      let members : (k : ℕ) → times k first ≡ times k (members_of script batch b) = λ k. times_permuted k (members_of script batch b) first t.3 in
      let in_first : (k : ℕ) → 0 < times k first → (batch k ≡ b) × IsNumber script k = λ k h. member_is b k (let m = members k in omega arith) in
      record {
        within = λ k h. within order first rest k (counted k) (in_first k) (more.within k) h;
        once = λ k number low high. once order first rest k number low high (counted k) (members k) (more.within k) (more.once k number);
        never = subst (NeverFalls batch) (sym t.2) (joined b first rest (all_by_times (λ k. batch k ≡ b) first (λ k h. (in_first k h).0)) (all_by_times (λ k. suc b ≤ batch k) rest (λ k h. (more.within k h).0)) more.never);
      }
    where
      within : (order first rest : List ℕ) (k : ℕ) → times k order ≡ times k first + times k rest → (0 < times k first → (batch k ≡ b) × IsNumber script k) → (0 < times k rest → (suc b ≤ batch k) × (batch k < suc b + count) × IsNumber script k) → 0 < times k order → (b ≤ batch k) × (batch k < b + suc count) × IsNumber script k
      within order first rest k sum one other h = elim (cases_order 0 (times k first)) [
        | inl none ↦ let r = other (omega arith) in let x = r.0 in let y = r.1 in (omega arith, omega arith, r.2)
        | inr (inl some) ↦ let r = one some in let x = r.0 in (omega arith, omega arith, r.1)
        | inr (inr below) ↦ absurd (omega arith)
      ]

      once : (order first rest : List ℕ) (k : ℕ) → IsNumber script k → b ≤ batch k → batch k < b + suc count → times k order ≡ times k first + times k rest → times k first ≡ times k (members_of script batch b) → (0 < times k rest → (suc b ≤ batch k) × (batch k < suc b + count) × IsNumber script k) → (suc b ≤ batch k → batch k < suc b + count → times k rest ≡ 1) → times k order ≡ 1
      once order first rest k number low high sum of_members other more = elim (cases_eq (batch k) b) [
        | inl e ↦
            let here = member_in b k number e in
            elim (cases_order 0 (times k rest)) [
              | inl none ↦ omega arith
              | inr (inl some) ↦ let r = other some in let x = r.0 in absurd (omega arith)
              | inr (inr below) ↦ absurd (omega arith)
            ]
        | inr ne ↦ let here = member_not b k ne in let there : times k rest ≡ 1 = more (omega arith) (omega arith) in omega arith
      ]

pub batches_in_turn_are_lawful : BatchesInTurnAreLawful
batches_in_turn_are_lawful script batch count order all few t =
    let o : IsTurned script batch 0 count order = turned script batch count 0 order t in
    record {
      numbers = all_by_times (IsNumber script) order (λ k h. (o.within k h).2);
      once = λ n number. let below = few n number in o.once n number (omega arith) (omega arith);
      in_order = keeps script batch (batches_rise script batch all) order (λ k. at_most k o) o.never;
    }
  where
    at_most : (k : ℕ) → IsTurned script batch 0 count order → times k order ≤ 1
    at_most k o = elim (cases_order 0 (times k order)) [
      | inl none ↦ omega arith
      | inr (inl some) ↦ let w = o.within k some in let one : times k order ≡ 1 = o.once k w.2 w.0 w.1 in omega arith
      | inr (inr below) ↦ absurd (omega arith)
    ]

pub plans_in_turn_are_lawful : PlansInTurnAreLawful
plans_in_turn_are_lawful script p order plan t =
    batches_in_turn_are_lawful script (batch_in p) (length p.members) order plan.batches_are plan.counted.below (subst (λ (l : List (List ℕ)). InTurn l order) plan.members_are t)

pub batches_are_apart : BatchesAreApart
batches_are_apart script batch m n all same other r = elim (cases_order m n) [
  | inl equal ↦ other equal
  | inr (inl less) ↦ let up = batches_rise script batch all m n less r in omega arith
  | inr (inr more) ↦ let up = batches_rise script batch all n m more (record { device = r.device; first = r.second; second = r.first }) in omega arith
]
