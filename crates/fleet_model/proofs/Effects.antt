-- Facts about all devices, and what a command does to its second device.
use Rattle.std.proofs.Common.{◌≡◌, ℕ, zero, suc, ◌<◌, true, false, cond, List, [], ◌∷◌, ◌++◌, length, get_or, set, refl, arith}
use Rattle.std.specs.Prelude.{Option}
use Rattle.std.specs.List.{AllByRecursion}
use Rattle.photo_record.specs.declared.record.Record.{Record}
use Rattle.photo_filter_text.specs.Tree.{Tree}
use Rattle.photo_filter_rules.specs.Covers.{covers}
use Rattle.photo_model.specs.Device.{ModelDevice, is_held, narrowed, moved}
use Rattle.fleet_model.specs.Answers.{NotHeld, NotNarrower, Narrowed, Exactly}
use Rattle.fleet_model.specs.Runs.{Effect, making, telling, changing, narrowing}

pub all_are : {X : Type 0} (P Q : X → Type 0) (xs : List X) → ((x : X) → P x → Q x) → AllByRecursion P xs → AllByRecursion Q xs
all_are P Q [] each all = tt
all_are P Q (x ∷ xs) each all = (each x all.0, all_are P Q xs each all.1)

pub all_push : {X : Type 0} (P : X → Type 0) (xs : List X) (x : X) → AllByRecursion P xs → P x → AllByRecursion P (xs ++ x ∷ [])
all_push P [] x all p = (p, tt)
all_push P (y ∷ ys) x all p = (all.0, all_push P ys x all.1 p)

pub all_set : {X : Type 0} (P : X → Type 0) (xs : List X) (k : ℕ) (x : X) → AllByRecursion P xs → P x → AllByRecursion P (set xs k x)
all_set P [] k x all p = tt
all_set P (y ∷ ys) zero x all p = (p, all.1)
all_set P (y ∷ ys) (suc k) x all p = (all.0, all_set P ys k x all.1 p)

pub all_at : {X : Type 0} (P : X → Type 0) (xs : List X) (k : ℕ) (d : X) → AllByRecursion P xs → k < length xs → P (get_or xs k d)
all_at P [] k d all h = absurd (omega arith)
all_at P (y ∷ ys) zero d all h = all.0
all_at P (y ∷ ys) (suc k) d all h = all_at P ys k d all.1 (omega arith)

-- the effect of a narrowing that takes place
abbrev pub narrowed_effect : ModelDevice → Option ModelDevice → Tree → Effect
narrowed_effect d other tree = record { first = narrowed tree d; second = other; report = Exactly (Narrowed (moved tree d)); entries = [] }

-- a command on one device leaves the second unchanged
pub changing_second : (d : ModelDevice) (other : Option ModelDevice) (picture : ℕ) (content : Record) → (changing d other picture content).second ≡ other
changing_second d other picture content =
    elim (is_held d picture) as (λ b. (cond b (making d other picture content) (telling d other (Exactly NotHeld))).second ≡ other) [ true ↦ refl | false ↦ refl ]

pub narrowing_second : (d : ModelDevice) (other : Option ModelDevice) (tree : Tree) → (narrowing d other tree).second ≡ other
narrowing_second d other tree =
    elim (covers d.tree tree) as (λ b. (cond b (narrowed_effect d other tree) (telling d other (Exactly NotNarrower))).second ≡ other) [ true ↦ refl | false ↦ refl ]
