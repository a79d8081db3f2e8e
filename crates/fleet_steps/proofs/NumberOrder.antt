-- The order of the numbers is lawful.
use Rattle.std.proofs.Common.{◌≡◌, ℕ, zero, suc, ◌+◌, ◌<◌, ◌≤◌, List, [], ◌∷◌, ◌++◌, length, ap, add-one, arith}
use Rattle.std.specs.List.{AllByRecursion}
use Rattle.fleet_model.specs.Contents.{Contents}
use Rattle.fleet_model.specs.Runs.{numbers_to}
use Rattle.photo_batcher.specs.Related.{AreRelated}
use Rattle.photo_batcher.specs.Orders.{KeepsOrder, IsLawful}
use Rattle.photo_batcher.proofs.Turns.{all_numbers, times_numbers}
use Rattle.fleet_model.proofs.Effects.{all_push, all_are}

keeps_push : (script : Contents) (front : List ℕ) (n : ℕ) → KeepsOrder script front → AllByRecursion (λ k. AreRelated script k n → k < n) front → KeepsOrder script (front ++ n ∷ [])
keeps_push script [] n kept all = (tt, tt)
keeps_push script (m ∷ front) n kept all = (all_push (λ j. AreRelated script m j → m < j) front n kept.0 all.0, keeps_push script front n kept.1 all.1)

keeps_to : (script : Contents) (n : ℕ) → KeepsOrder script (numbers_to n)
keeps_to script zero = tt
keeps_to script (suc n) = keeps_push script (numbers_to n) (suc n) (keeps_to script n) (all_are (λ k. (0 < k) × (k ≤ n)) (λ k. AreRelated script k (suc n) → k < suc n) (numbers_to n) (λ k h _. below k h.1) (all_numbers n))
  where
    below : (k : ℕ) → k ≤ n → k < suc n
    below k few = omega arith

pub in_number_order : (script : Contents) → IsLawful script (numbers_to (length script.commands))
in_number_order script = record {
  numbers = all_numbers (length script.commands);
  once = λ n number. times_numbers (length script.commands) n number.0 number.1;
  in_order = keeps_to script (length script.commands);
}

pub next_number : (n : ℕ) (front : List ℕ) → front ≡ numbers_to n → front ++ (n + 1) ∷ [] ≡ numbers_to (n + 1)
next_number n front is = rw (add-one n) (ap (λ l. l ++ suc n ∷ []) is)
