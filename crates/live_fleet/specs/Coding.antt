-- No definition, but a tool of the proofs: the tuple of a fleet's parts, by which a proof tells two fleets apart.
use Rattle.std.specs.Prelude.{ℕ, List, refl}
use Rattle.std.specs.Coded.{Coded, code_by, coded×, coded_ℕ, coded_list}
use Rattle.photo_device.specs.declared.held.Held.{Held}
use Rattle.photo_device.specs.Device.{Kept}
use Rattle.photo_device.specs.Coding.{helds_code, kept_code}
use Rattle.live_fleet.specs.Fleets.{KeptFleet}

abbrev pub fleet_code : Coded KeptFleet
fleet_code =
    code_by (List Kept × (List Held × ℕ))
    (coded× (coded_list kept_code) (coded× helds_code coded_ℕ))
    (λ f. (f.devices, (f.log, f.commands)))
    (λ p. record { devices = p.0; log = p.1.0; commands = p.1.1 })
    (λ _. refl)
