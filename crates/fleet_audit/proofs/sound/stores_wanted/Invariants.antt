use Rattle.std.proofs.Common.{◌≡◌, ◌||◌, length, Some}
use Rattle.std.specs.List.{list_all}
use Rattle.fleet_audit.specs.Current.{is_outdated}
use Rattle.fleet_audit.specs.Audited.{is_placed}
use Rattle.fleet_audit.proofs.sound.stores_wanted.Given as goal

abbrev pub invariant-loop-rest : goal.invariant-loop-rest
invariant-loop-rest l =
    list_all (λ h. is_outdated (Some l.device) l.log h || is_placed l.device h) l.rest ≡ list_all (λ h. is_outdated (Some l.device) l.log h || is_placed l.device h) l.initial.rest

abbrev pub decreases-loop-rest : goal.decreases-loop-rest
decreases-loop-rest l = length l.rest
