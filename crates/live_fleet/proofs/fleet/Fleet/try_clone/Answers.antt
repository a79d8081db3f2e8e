use Rattle.std.proofs.Common.{List, map, ap, ◌∙◌}
use Rattle.photo_device.specs.Device.{Kept, unstaged}
use Rattle.live_fleet.proofs.Unstaged.{settled_copied}
use Rattle.live_fleet.proofs.fleet.Fleet.try_clone.Goals as goal

pub invariant_of-result : goal.invariant_of-result
invariant_of-result c =
    let devices = c.in_ok-devices.ensures ∙ ap (λ (ds : List Kept). map unstaged ds) c.as_slice.ensures.value ∙ settled_copied c.self.inside.devices.items c.self.invariant.settled in
    let log = c.in_ok-log.ensures ∙ c.as_slice-2.ensures.value in
    rw (devices, log) c.self.invariant

pub returns : goal.returns
returns c =
    let devices = c.in_ok-devices.ensures ∙ ap (λ (ds : List Kept). map unstaged ds) c.as_slice.ensures.value ∙ settled_copied c.self.inside.devices.items c.self.invariant.settled in
    let log = c.in_ok-log.ensures ∙ c.as_slice-2.ensures.value in
    (λ i. record { devices = devices i; log = log i; commands = c.self.inside.commands }) ∙ c.self.view_is
