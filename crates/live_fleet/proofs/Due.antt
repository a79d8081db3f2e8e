-- A fault that is due to a call stays due where its refusal is passed on.
use Rattle.std.proofs.Common.{◌≡◌, sym, ap, ◌∙◌}
use Rattle.std.specs.Prelude.{Result, Ok, Err}
use Rattle.live_fleet.specs.declared.fault.FleetFault.{FleetFault}
use Rattle.live_fleet.specs.declared.fault.FleetFault.TheVariants.{NoMemory}
use Rattle.live_fleet.specs.Faults.{RefusesAsDue}

abbrev fault_in : {X : Type 0} → Result X FleetFault → FleetFault
fault_in (Ok x) = NoMemory
fault_in (Err e) = e

pub passed_on : {X Y : Type 0} (IsDue : FleetFault → Type 0) (r : Result X FleetFault) (s : Result Y FleetFault) (e : FleetFault) → r ≡ Err e → s ≡ Err e → RefusesAsDue IsDue r → RefusesAsDue IsDue s
passed_on IsDue r s e was is due = λ fault other. (
  λ told. (due fault other).0 (was ∙ ap Err (ap fault_in (sym is ∙ told))),
  λ owed. is ∙ ap Err (ap fault_in (sym was ∙ (due fault other).1 owed)),
)
