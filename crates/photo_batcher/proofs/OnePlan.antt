-- A script has one plan, and a schedule takes at least as many different places as the script has batches.
use Rattle.std.proofs.Common.{◌≡◌, ◌≢◌, ℕ, zero, suc, ◌<◌, ◌≤◌, List, [], ◌⊎◌, inl, inr, length, refl, sym, ap, ◌∙◌, subst, add-one, arith}
use Rattle.std.specs.Prelude.{Option, Some, None}
use Rattle.std.proofs.lemmas.List.{ext_get_or}
use Rattle.std.proofs.lemmas.Bool.{cases_order, cases_eq}
use Rattle.fleet_model.specs.Contents.{Contents}
use Rattle.photo_batcher.specs.Related.{IsNumber}
use Rattle.photo_batcher.specs.Batches.{IsBatch, IsSchedule, IsAfter, IsFollowed, IsLongestChainTo, TakesPlaces, batches_from}
use Rattle.photo_batcher.specs.Plans.{Planned, planned, entry_of, none_or, batch_in, after_in, IsPlan}
use Rattle.photo_batcher.specs.Laws.{PlansAreOne, NoScheduleHasFewer}
use Rattle.photo_batcher.proofs.Chains.{batches_are_one, takes_places, followed_chains_are_longest}

-- a command goes after at most one other
one_after : (script : Contents) (batch : ℕ → ℕ) (n : ℕ) (x y : Option ℕ) → IsAfter script batch n x → IsAfter script batch n y → x ≡ y
one_after script batch n None None a b = refl
one_after script batch n None (Some k) a b = let is = b.0.below in absurd (omega arith)
one_after script batch n (Some m) None a b = let is = a.0.below in absurd (omega arith)
one_after script batch n (Some m) (Some k) a b = let low = a.1 k b.0 in let high = b.1 m a.0 in ap Some (omega arith)

one_entry : (x y : ℕ) → none_or x ≡ none_or y → x ≡ y
one_entry zero zero e = refl
one_entry zero (suc y) e = cc
one_entry (suc x) zero e = cc
one_entry (suc x) (suc y) e = cc

module _ (script : Contents) where
  pub plans_are_same : (p q : Planned) → IsPlan script p → IsPlan script q → p ≡ q
  plans_are_same p q a b =
      let number = λ (i : ℕ) (h : i < length script.commands). number_of i h in
      let batches : p.batches ≡ q.batches = ext_get_or 0 p.batches q.batches (a.each ∙ sym b.each) (λ i h.
      let n = number i (subst (λ (k : ℕ). i < k) a.each h) in
      batches_are_one script (suc i) _ _ (a.batches_are (suc i) n) (b.batches_are (suc i) n)) in
      let afters : p.afters ≡ q.afters = ext_get_or 0 p.afters q.afters (a.each_after ∙ sym b.each_after) (λ i h.
      let n = number i (subst (λ (k : ℕ). i < k) a.each_after h) in
      one_entry _ _ (one_after script (batch_in p) (suc i) _ _ (a.afters_are (suc i) n) (subst (λ (l : List ℕ). IsAfter script (entry_of l) (suc i) (after_in q (suc i))) (sym batches) (b.afters_are (suc i) n)))) in
      let low = a.counted.least (length q.members) (λ n h. subst (λ (l : List ℕ). entry_of l n < length q.members) (sym batches) (b.counted.below n h)) in
      let high = b.counted.least (length p.members) (λ n h. subst (λ (l : List ℕ). entry_of l n < length p.members) batches (a.counted.below n h)) in
      let count : length p.members ≡ length q.members = omega arith in
      let members : p.members ≡ q.members = a.members_are ∙ (λ i. batches_from script (entry_of (batches i)) 0 (count i)) ∙ sym b.members_are in
      λ i. planned (batches i) (afters i) (members i)
    where
      number_of : (i : ℕ) → i < length script.commands → IsNumber script (suc i)
      number_of i h = (omega arith, omega arith)

  -- one of the first n commands is in the batch
  record IsFound (batch : ℕ → ℕ) (b n : ℕ) : Type 0 where
    command : ℕ
    some : 0 < command
    within : command ≤ n
    is : batch command ≡ b

  search_batch : (batch : ℕ → ℕ) (b n : ℕ) → IsFound batch b n ⊎ ((k : ℕ) → 0 < k → k ≤ n → batch k ≢ b)
  search_batch batch b zero = inr (λ k some few. absurd (omega arith))
  search_batch batch b (suc n) = go (cases_eq (batch (suc n)) b) (search_batch batch b n)
    where
      go : (batch (suc n) ≡ b) ⊎ (batch (suc n) ≡ b → ⊥) → IsFound batch b n ⊎ ((k : ℕ) → 0 < k → k ≤ n → batch k ≢ b) → IsFound batch b (suc n) ⊎ ((k : ℕ) → 0 < k → k ≤ suc n → batch k ≢ b)
      go (inl here) more = inl (record { command = suc n; some = omega arith; within = omega arith; is = here })
      go (inr away) (inl f) = let few = f.within in inl (record { command = f.command; some = f.some; within = omega arith; is = f.is })
      go (inr away) (inr none) = inr (λ k some few. elim (cases_order k (suc n)) [
        | inl same ↦ λ e. away (ap batch (sym same) ∙ e)
        | inr (inl less) ↦ none k some (omega arith)
        | inr (inr over) ↦ absurd (omega arith)
      ])

  fewest : (place : ℕ → ℕ) (p : Planned) → IsSchedule script place → IsPlan script p → (count : ℕ) → length p.members ≡ count → TakesPlaces script place count
  fewest place p s plan zero none = record { commands = []; numbers = tt; rising = tt; many = refl }
  fewest place p s plan (suc c) some = elim (search_batch (batch_in p) c (length script.commands)) [
    | inl f ↦
        let is : IsBatch script f.command c = subst (IsBatch script f.command) f.is (plan.batches_are f.command (f.some, f.within)) in
        subst (TakesPlaces script place) (add-one c) (takes_places script place f.command c s is)
    | inr none ↦
        let few = plan.counted.least c (λ n number. let low = plan.counted.below n number in let other = none n number.0 number.1 in omega arith) in
        absurd (omega arith)
  ]

  pub chain_is_longest : (p : Planned) (n : ℕ) (chain : List ℕ) → 0 < n → n ≤ length p.batches → IsFollowed (after_in p) n chain → IsPlan script p → IsLongestChainTo script n chain
  chain_is_longest p n chain some within f plan = let each = plan.each in followed_chains_are_longest script (batch_in p) (after_in p) n chain plan.batches_are plan.afters_are (omega arith, omega arith) f

pub plans_are_one : PlansAreOne
plans_are_one script p q a b = plans_are_same script p q a b

pub no_schedule_has_fewer : NoScheduleHasFewer
no_schedule_has_fewer script place p s plan = fewest script place p s plan (length p.members) refl
