use Rattle.std.proofs.Common.{◌≡◌, ◌++◌, ◌∷◌, [], List, ℕ, length, sym, subst, rules}
use Rattle.photo_version.specs.Author.{author}
use Rattle.photo_model.specs.Device.{opening}
use Rattle.photo_device.specs.Device.{Kept, Shows}
use Rattle.live_fleet.specs.Fleets.{KeptFleet, CameAbout, HasJoined}
use Rattle.live_fleet.proofs.Joining.{came_joined, joined}
use Rattle.live_fleet.proofs.fleet.Fleet.add.Goals as goal

pub invariant_of-self-2 : goal.invariant_of-self-2
invariant_of-self-2 c =
    let f : KeptFleet = record { devices = c.self.inside.devices.items; log = c.self.inside.log.items; commands = c.self.inside.commands } in
    let d = c.in_ok-device.device in
    let long : c.len-number.result ≡ length f.devices = search rules in
    let shows : Shows d (opening (author (length f.devices)) c.args.filter.now) = subst (λ (n : ℕ). Shows d (opening (author n) c.args.filter.now)) long c.in_ok-device.ensures.shown in
    subst (λ (ds : List Kept). CameAbout (record f { devices = ds })) (sym c.in_ok-push.ensures.items) (came_joined f d c.args.filter.now c.self.invariant shows c.in_ok-device.ensures.settled)

pub returns-clause-joined : goal.returns-clause-joined
returns-clause-joined c =
    let f : KeptFleet = record { devices = c.self.inside.devices.items; log = c.self.inside.log.items; commands = c.self.inside.commands } in
    let d = c.in_ok-device.device in
    let long : c.len-number.result ≡ length f.devices = search rules in
    let shows : Shows d (opening (author (length f.devices)) c.args.filter.now) = subst (λ (n : ℕ). Shows d (opening (author n) c.args.filter.now)) long c.in_ok-device.ensures.shown in
    let has : HasJoined c.args.filter.now f (record f { devices = f.devices ++ d ∷ [] }) = joined f d c.args.filter.now shows in
    let pushed : HasJoined c.args.filter.now f (record f { devices = c.push.new.self.items }) = subst (λ (ds : List Kept). HasJoined c.args.filter.now f (record f { devices = ds })) (sym c.in_ok-push.ensures.items) has in
    subst (λ (old : KeptFleet). HasJoined c.args.filter.now old (record f { devices = c.push.new.self.items })) c.self.view_is pushed
