-- The batches of a plan, one after another.
use Rattle.std.proofs.Common.{◌≡◌, ℕ, zero, suc, ◌+◌, ◌-◌, ◌≤◌, Bool, true, false, cond, ◌==◌, List, [], ◌∷◌, ◌++◌, length, take, drop, filter, refl, sym, ap, ◌∙◌, subst, arith, append_assoc, append-nil, length-append}
use Rattle.std.specs.Prelude.{Some, slice_get, IsPermutation}
use Rattle.std.specs.List.{AllByRecursion, flat_map}
use Rattle.std.proofs.lemmas.Bool.{eqb-true}
use Rattle.std.proofs.lemmas.List.Sorted.{IsPermutation-refl}
use Rattle.fleet_model.specs.Limits.{max_commands}
use Rattle.fleet_model.specs.declared.tally.Tally.{Tally}
use Rattle.fleet_model.specs.Contents.{Contents, IsScript}
use Rattle.fleet_model.specs.Runs.{run, reports_of}
use Rattle.fleet_model.specs.Tallies.{totals_of}
use Rattle.photo_batcher.specs.Related.{IsNumber}
use Rattle.photo_batcher.specs.Orders.{times, IsLawful}
use Rattle.photo_batcher.specs.Batches.{members_of, batches_from, InTurn}
use Rattle.photo_batcher.specs.Plans.{Planned, IsPlan, batch_in}
use Rattle.photo_batcher.proofs.Counting.{times_append}
use Rattle.photo_batcher.proofs.Turns.{by_all_times, plans_in_turn_are_lawful, batches_are_apart}
use Rattle.photo_batcher.proofs.Checked.{lawful_long}
use Rattle.photo_batcher.proofs.Reordered.{lawful_orders_are_the_run}
use Rattle.work_ledger.specs.Stakes.{Stake, plus, Within}
use Rattle.fleet_steps.specs.Running.{HasRun as HasReplayed}
use Rattle.fleet_steps.proofs.InOrder.{runs_all}
use Rattle.photo_model.proofs.AllLemmas.{all_front, all_back}
use Rattle.fleet_workers.specs.declared.slots.Slots.{Slots}
use Rattle.fleet_workers.specs.Batch.{AreApart}
use Rattle.fleet_workers.specs.Counting.{tally_at, worked}
use Rattle.fleet_workers.specs.Progress.{HasRun}
use Rattle.fleet_workers.proofs.Counting.{tally-append}
use Rattle.fleet_workers.proofs.Lawful.{lawful_tally, lawful_moved}

abbrev all_of : List (List ℕ) → List ℕ
all_of lists = flat_map (λ (l : List ℕ). l) lists

in_turn : (lists : List (List ℕ)) → InTurn lists (all_of lists)
in_turn [] = refl
in_turn (l ∷ ls) = (l, all_of ls, refl, IsPermutation-refl l, in_turn ls)

in_turn_all : (i : ℕ) (lists : List (List ℕ)) (front : List ℕ) → InTurn (take i lists) front → InTurn lists (front ++ all_of (drop i lists))
in_turn_all zero lists front t = subst (λ (l : List ℕ). InTurn lists (l ++ all_of lists)) (sym t) (in_turn lists)
in_turn_all (suc i) [] front t = append-nil front ∙ t
in_turn_all (suc i) (l ∷ ls) front t = (t.0, t.1 ++ all_of (drop i ls), ap (λ (x : List ℕ). x ++ all_of (drop i ls)) t.2 ∙ append_assoc t.0 t.1 (all_of (drop i ls)), t.3, in_turn_all i ls t.1 t.4)

-- with one more batch
in_turn_next : (i : ℕ) (lists : List (List ℕ)) (front members order : List ℕ) → InTurn (take i lists) front → slice_get lists i ≡ Some members → IsPermutation members order → InTurn (take (suc i) lists) (front ++ order)
in_turn_next i [] front members order t is perm = cc
in_turn_next zero (l ∷ ls) front members order t is perm =
    let same : l ≡ members = cc in
    (order, [], ap (λ (x : List ℕ). x ++ order) t ∙ sym (append-nil order), subst (λ (x : List ℕ). IsPermutation x order) (sym same) perm, refl)
in_turn_next (suc i) (l ∷ ls) front members order t is perm =
    (t.0, t.1 ++ order, ap (λ (x : List ℕ). x ++ order) t.2 ∙ append_assoc t.0 t.1 order, t.3, in_turn_next i ls t.1 members order t.4 is perm)

pub in_turn_more : (i : ℕ) (lists : List (List ℕ)) (front members order : List ℕ) → InTurn (take i lists) front → slice_get lists i ≡ Some members → IsPermutation members order → InTurn (take (i + 1) lists) (front ++ order)
in_turn_more i lists front members order t is perm = let next : i + 1 ≡ suc i = omega arith in subst (λ (j : ℕ). InTurn (take j lists) (front ++ order)) (sym next) (in_turn_next i lists front members order t is perm)

-- the batches that have run, the next one and the rest make up a lawful order
abbrev whole : ℕ → List (List ℕ) → List ℕ → List ℕ → List ℕ
whole i lists front members = (front ++ members) ++ all_of (drop (i + 1) lists)

lawful_whole : (script : Contents) (p : Planned) (i : ℕ) (front members : List ℕ) → IsPlan script p → InTurn (take i p.members) front → slice_get p.members i ≡ Some members → IsLawful script (whole i p.members front members)
lawful_whole script p i front members plan t is =
    plans_in_turn_are_lawful script p (whole i p.members front members) plan (in_turn_all (i + 1) p.members (front ++ members) (in_turn_more i p.members front members members t is (IsPermutation-refl members)))

pub few_front : (script : Contents) (p : Planned) (i : ℕ) (front members : List ℕ) → IsScript script → IsPlan script p → InTurn (take i p.members) front → slice_get p.members i ≡ Some members → length front ≤ max_commands
few_front script p i front members is_script plan t is =
    let lawful = lawful_whole script p i front members plan t is in
    let long = lawful_long script (whole i p.members front members) lawful in
    let a = length-append (front ++ members) (all_of (drop (i + 1) p.members)) in
    let b = length-append front members in
    let few = is_script.commands in
    omega (arith, long, a, b, few)

pub batch_numbers : (script : Contents) (p : Planned) (i : ℕ) (front members : List ℕ) → IsPlan script p → InTurn (take i p.members) front → slice_get p.members i ≡ Some members → AllByRecursion (IsNumber script) members
batch_numbers script p i front members plan t is =
    let lawful = lawful_whole script p i front members plan t is in
    all_back (IsNumber script) front members (all_front (IsNumber script) (front ++ members) (all_of (drop (i + 1) p.members)) lawful.numbers)

batches_at : (script : Contents) (batch : ℕ → ℕ) (b count i : ℕ) (members : List ℕ) → slice_get (batches_from script batch b count) i ≡ Some members → members ≡ members_of script batch (b + i)
batches_at script batch b zero i members is = cc
batches_at script batch b (suc count) zero members is = let same : members ≡ members_of script batch b = cc in let none : b ≡ b + 0 = omega arith in same ∙ ap (members_of script batch) none
batches_at script batch b (suc count) (suc i) members is = let same : suc b + i ≡ b + suc i = omega arith in batches_at script batch (suc b) count i members is ∙ ap (members_of script batch) same

all_pass : (test : ℕ → Bool) (xs : List ℕ) → AllByRecursion (λ k. test k ≡ true) (filter test xs)
all_pass test [] = tt
all_pass test (x ∷ xs) = by_case (test x) refl (all_pass test xs)
  where
    by_case : (b : Bool) → test x ≡ b → AllByRecursion (λ k. test k ≡ true) (filter test xs) → AllByRecursion (λ k. test k ≡ true) (cond b (x ∷ filter test xs) (filter test xs))
    by_case true is rest = (is, rest)
    by_case false is rest = rest

-- the commands of a batch occur once each and aren't related
pub batch_apart : (script : Contents) (p : Planned) (i : ℕ) (front members : List ℕ) → IsPlan script p → InTurn (take i p.members) front → slice_get p.members i ≡ Some members → AreApart script members
batch_apart script p i front members plan t is =
    let lawful = lawful_whole script p i front members plan t is in
    let batch = batch_in p in
    let row : members ≡ members_of script batch i = batches_at script batch 0 (length p.members) i members (ap (λ (l : List (List ℕ)). slice_get l i) (sym plan.members_are) ∙ is) ∙ ap (members_of script batch) (let none : 0 + i ≡ i = omega arith in none) in
    let pass : AllByRecursion (λ k. (batch k == i) ≡ true) members = subst (AllByRecursion (λ k. (batch k == i) ≡ true)) (sym row) (all_pass (λ k. batch k == i) _) in
    record {
      once = λ n. once_at n (times n members) refl lawful;
      apart = λ m n a b other related.
          let one = eqb-true (batch m) i (by_all_times (λ k. (batch k == i) ≡ true) members m pass a) in
          let two = eqb-true (batch n) i (by_all_times (λ k. (batch k == i) ≡ true) members n pass b) in
          batches_are_apart script batch m n plan.batches_are (one ∙ sym two) other related;
    }
  where
    once_at : (n c : ℕ) → times n members ≡ c → IsLawful script (whole i p.members front members) → times n members ≤ 1
    once_at n zero e lawful = omega (arith, e)
    once_at n (suc c) e lawful =
        let a = times_append n (front ++ members) (all_of (drop (i + 1) p.members)) in
        let b = times_append n front members in
        let one = lawful.once n (by_all_times (IsNumber script) (whole i p.members front members) n lawful.numbers (omega (arith, a, b, e))) in
        omega (arith, a, b, one)

-- the share may still count the batch
pub batch_left : (script : Contents) (p : Planned) (i : ℕ) (front members : List ℕ) (slots : Slots) (share : Stake) → IsPlan script p → InTurn (take i p.members) front → slice_get p.members i ≡ Some members → HasRun script front slots share → Within (tally_at script members) share.left
batch_left script p i front members slots share plan t is r =
    let lawful = lawful_whole script p i front members plan t is in
    let rest = all_of (drop (i + 1) p.members) in
    let all = sym (lawful_tally script (whole i p.members front members) lawful) ∙ tally-append script (front ++ members) rest ∙ ap (λ (x : Tally). plus x (tally_at script rest)) (tally-append script front members) in
    let a = ap (λ (x : Tally). x.changes) all in
    let b = ap (λ (x : Tally). x.pulls) all in
    let c = ap (λ (x : Tally). x.reports) all in
    let l = ap (λ (x : Stake). x.left.changes) r.counted in
    let m = ap (λ (x : Stake). x.left.pulls) r.counted in
    let n = ap (λ (x : Stake). x.left.reports) r.counted in
    (omega (arith, a, l), omega (arith, b, m), omega (arith, c, n))

-- all batches have run
pub plan_lawful : (script : Contents) (p : Planned) (order : List ℕ) → IsPlan script p → InTurn p.members order → IsLawful script order
plan_lawful = plans_in_turn_are_lawful

pub has_replayed : (script : Contents) (order : List ℕ) (slots : Slots) (share : Stake) → length script.commands ≤ max_commands → IsLawful script order → (r : HasRun script order slots share) → HasReplayed script r.devices slots.reports.items slots.log.items
has_replayed script order slots share few lawful r = runs_all script order r.devices slots.reports.items slots.log.items few r.to lawful (lawful_orders_are_the_run script order lawful)

pub totals_are : (script : Contents) (order : List ℕ) (slots : Slots) (share : Stake) → length script.commands ≤ max_commands → IsLawful script order → HasRun script order slots share → share.done ≡ totals_of script (run script)
totals_are script order slots share few lawful r =
    let h = has_replayed script order slots share few lawful r in
    let moved = lawful_moved script order r.done slots.reports.items (reports_of (run script)) lawful r.numbers r.reports h.right in
    let tally = lawful_tally script order lawful in
    ap (λ (x : Stake). x.done) r.counted ∙ (λ i. worked (tally i) (moved i))
