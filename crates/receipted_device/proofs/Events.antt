-- What the device's own calls say, said of the replica.
use Rattle.std.proofs.Common.{◌≡◌, sym, subst}
use Rattle.std.specs.Prelude.{Result, Ok, Err, IfOk}
use Rattle.photo_model.specs.Device.{ModelDevice}
use Rattle.photo_device.specs.Device.{Kept, Shows}
use Rattle.household_model.specs.Replica as model
use Rattle.receipted_device.specs.Shown.{KeptReplica, ShowsReplica}

-- what a call answers of each model device that the device shows, it answers of the device of each model replica
pub of_replica : {A E : Type 0} (P : A → ModelDevice → Type 0) (answer : Result A E) (d : Kept) (r : KeptReplica) → d ≡ r.device → IfOk answer (λ a. (m : ModelDevice) → Shows d m → P a m) → IfOk answer (λ a. (m : model.Replica) → ShowsReplica r m → P a m.device)
of_replica P (Ok a) d r is all = λ m shows. all m.device (subst (λ e. Shows e m.device) (sym is) shows.device)
of_replica P (Err e) d r is all = tt
