use Rattle.std.proofs.Common.{sym, subst}
use Rattle.fleet_steps.specs.Between.{AreReady}
use Rattle.live_fleet.proofs.Histories.{came_ready}
use Rattle.live_fleet.proofs.fleet.Fleet.preview.Goals as goal

pub preview_between-requires-clause-ready : goal.preview_between-requires-clause-ready
preview_between-requires-clause-ready c = subst AreReady (sym c.as_slice-devices.ensures.value) (came_ready _ c.self.invariant)
