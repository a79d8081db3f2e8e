-- A fleet's answers name only its own devices.
use Rattle.std.proofs.Common.{◌≡◌, ℕ, ◌+◌, ◌<◌, ◌≤◌, List, [], ◌∷◌, length, sym, subst, le_refl, arith}
use Rattle.std.specs.Prelude.{IfSome, fold}
use Rattle.std.specs.List.{AllByRecursion}
use Rattle.std.specs.Option.{option_map}
use Rattle.photo_filter_text.specs.Tree.{Tree, All}
use Rattle.photo_version.specs.Author.{author, epoch_of_author}
use Rattle.photo_model.specs.Device.{ModelDevice, opening}
use Rattle.photo_device.specs.Device.{Shows}
use Rattle.fleet_model.specs.declared.command.Command.{Command}
use Rattle.fleet_model.specs.Contents.{Contents, devices_of, IsWithin}
use Rattle.photo_script.specs.Reports.{Answer, Tells}
use Rattle.fleet_model.specs.Runs.{Fleet, device_at, opening_from}
use Rattle.fleet_model.specs.Steps.{devices_after, effect_on, HasMadeAtMost}
use Rattle.fleet_steps.specs.Running.{IsOfFleet}
use Rattle.fleet_model.proofs.Effects.{all_at}
use Rattle.fleet_steps.proofs.About.{effect_known, effect_known_second, effect_about}
use Rattle.fleet_model.proofs.Runs.{after_all, second_all, long_after, makes_one_more, opening_at_most}
use Rattle.fleet_model.proofs.Zipped.{zip_long}
use Rattle.live_fleet.specs.Fleets.{KeptFleet, CameAbout, SpeaksOf, after_commands}
use Rattle.live_fleet.proofs.Histories.{ran, opened, is_folded, within_opened, came_after}

opened_known : (script : Contents) (n : ℕ) (filters : List Tree) → n + length filters ≤ length script.names → AllByRecursion (IsOfFleet script) (opening_from n filters)
opened_known script n [] h = tt
opened_known script n (x ∷ xs) h = (record { author = omega arith; store = tt; out = tt; knows = λ p v none. cc }, opened_known script (n + 1) xs (omega arith))

one_known : (script : Contents) (c : Command) (models : List ModelDevice) (n : ℕ) → AllByRecursion (IsOfFleet script) models → n < 4_294_967_295 → AllByRecursion (HasMadeAtMost n) models → IsWithin (length models) c
    → AllByRecursion (IsOfFleet script) (devices_after models c)
one_known script c models n all below most within =
    let k = (devices_of c).0 in
    let second = option_map (device_at models) (devices_of c).1 in
    let of_first : IsOfFleet script (device_at models k) = all_at (IsOfFleet script) models k (opening (author k) All) all within.0 in
    let of_second : IfSome second (IsOfFleet script) = second_all (IsOfFleet script) models (devices_of c).1 k (length models) (le_refl _) all within.1 in
    let at_most : HasMadeAtMost n (device_at models k) = all_at (HasMadeAtMost n) models k (opening (author k) All) most within.0 in
    let begun : epoch_of_author (device_at models k).author ≤ n = at_most.begun in
    after_all (IsOfFleet script) c models all (effect_known script c (device_at models k) second (omega (arith, below, begun)) of_first of_second) (effect_known_second script c (device_at models k) second of_first of_second)

known_along : (script : Contents) (fleet : Fleet) (n : ℕ) (commands : List Command) → AllByRecursion (IsOfFleet script) fleet.devices → n + length commands ≤ 4_294_967_295 → AllByRecursion (HasMadeAtMost n) fleet.devices
    → AllByRecursion (IsWithin (length fleet.devices)) commands → AllByRecursion (IsOfFleet script) (fold ran fleet commands).devices
known_along script fleet n [] all few most within = all
known_along script fleet n (c ∷ commands) all few most within =
    let models = fleet.devices in
    known_along script (ran fleet c) (n + 1) commands (one_known script c models n all (omega arith) most within.0) (omega arith) (makes_one_more models c n within.0 most)
    (subst (λ (m : ℕ). AllByRecursion (IsWithin m) commands) (sym (long_after c models)) within.1)

pub came_about : (f : KeptFleet) (came : CameAbout f) (c : Command) (answer : Answer) → IsWithin (length f.devices) c → Tells answer (effect_on (after_commands came.filters came.commands).devices c).report → SpeaksOf f answer
came_about f came c answer within tells script enough =
    let fleet = after_commands came.filters came.commands in
    let models = fleet.devices in
    let k = (devices_of c).0 in
    let count = came.count in
    let few = came.few in
    let shown : length f.devices ≡ length models = zip_long Shows f.devices models came.shown.devices in
    let long : length models ≡ length came.filters = (came_after f came).long in
    let along = known_along script (opened came.filters) 0 came.commands (opened_known script 0 came.filters (omega (arith, shown, long, enough))) (omega (arith, count, few)) (opening_at_most came.filters 0) (within_opened came.filters came.commands came.within) in
    let all : AllByRecursion (IsOfFleet script) models = subst (AllByRecursion (IsOfFleet script)) (sym (is_folded came.filters came.commands).devices) along in
    let here : k < length f.devices = within.0 in
    effect_about script c (device_at models k) (option_map (device_at models) (devices_of c).1) (omega (arith, here, enough)) (all_at (IsOfFleet script) models k (opening (author k) All) all (omega (arith, here, shown))) answer tells
