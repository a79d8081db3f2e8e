use Rattle.std.proofs.Common.{◌≡◌, ◌||◌, length, None}
use Rattle.std.specs.List.{list_all}
use Rattle.fleet_audit.specs.Current.{is_outdated}
use Rattle.fleet_audit.specs.Audited.{is_held}
use Rattle.fleet_audit.proofs.kept.is_kept.Given as goal

abbrev pub invariant-loop-rest : goal.invariant-loop-rest
invariant-loop-rest l =
    list_all (λ h. is_outdated None l.log h || is_held l.devices h) l.rest ≡ list_all (λ h. is_outdated None l.log h || is_held l.devices h) l.initial.rest

abbrev pub decreases-loop-rest : goal.decreases-loop-rest
decreases-loop-rest l = length l.rest
