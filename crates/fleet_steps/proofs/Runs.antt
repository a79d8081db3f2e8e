-- Devices have made as many versions as the model devices that they show, and have room for one more.
use Rattle.std.proofs.Common.{ℕ, ◌<◌, ◌≤◌, List, [], ◌∷◌, sym, subst, arith}
use Rattle.std.specs.List.{AllZip, AllByRecursion}
use Rattle.photo_version.specs.Author.{Author, epoch_of_author}
use Rattle.photo_model.specs.Device.{ModelDevice}
use Rattle.photo_device.specs.Device.{Kept, Shows}
use Rattle.fleet_model.specs.Steps.{HasMadeAtMost}
use Rattle.fleet_steps.specs.Between.{HaveRoom, HaveMadeAtMost}
use Rattle.fleet_steps.specs.Laws.{LeavesRoom}

-- the devices that show the model devices
pub shown_at_most : (devices : List Kept) (models : List ModelDevice) (n : ℕ) → AllZip Shows devices models → AllByRecursion (HasMadeAtMost n) models → HaveMadeAtMost n devices
shown_at_most [] models n all most = tt
shown_at_most (d ∷ ds) [] n all most = absurd all
shown_at_most (d ∷ ds) (m ∷ ms) n all most =
    let shows = all.0 in
    ((subst (λ (k : ℕ). k ≤ n) (sym shows.counter) most.0.made, subst (λ (a : Author). epoch_of_author a ≤ n) (sym shows.author) most.0.begun), shown_at_most ds ms n all.1 most.1)

pub model_at_most : (devices : List Kept) (models : List ModelDevice) (n : ℕ) → AllZip Shows devices models → HaveMadeAtMost n devices → AllByRecursion (HasMadeAtMost n) models
model_at_most [] [] n all most = tt
model_at_most [] (m ∷ ms) n all most = absurd all
model_at_most (d ∷ ds) [] n all most = tt
model_at_most (d ∷ ds) (m ∷ ms) n all most =
    let shows = all.0 in
    (record { made = subst (λ (k : ℕ). k ≤ n) shows.counter most.0.0; begun = subst (λ (a : Author). epoch_of_author a ≤ n) shows.author most.0.1 }, model_at_most ds ms n all.1 most.1)

-- devices that have made so few versions may make one more
pub leaves_room : LeavesRoom
leaves_room [] n few most = tt
leaves_room (d ∷ ds) n few most =
    let made : d.counter ≤ n = most.0.0 in
    let begun : epoch_of_author d.author ≤ n = most.0.1 in
    ((omega (arith, few), omega (arith, few, begun)), leaves_room ds n few most.1)

pub have_room : (devices : List Kept) (models : List ModelDevice) (n : ℕ) → n < 4_294_967_295 → AllZip Shows devices models → AllByRecursion (HasMadeAtMost n) models → HaveRoom devices
have_room devices models n few all most = leaves_room devices n few (shown_at_most devices models n all most)
