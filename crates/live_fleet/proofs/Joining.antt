-- A device that joins later: the fleet is as if it had been there from the beginning, since no command has named it.
use Rattle.std.proofs.Common.{◌≡◌, ◌≢◌, ℕ, ◌+◌, ◌<◌, List, [], ◌∷◌, ◌++◌, length, set, refl, sym, ap, ◌∙◌, subst, arith, length-append}
use Rattle.std.specs.Prelude.{Option, Some, None, IfSome, fold}
use Rattle.std.specs.List.{AllZip, AllByRecursion}
use Rattle.std.specs.Option.{option_map}
use Rattle.std.proofs.lemmas.List.{get_or_append_left, set-append_left, length-set}
use Rattle.photo_filter_text.specs.Tree.{Tree, All}
use Rattle.photo_version.specs.Author.{author}
use Rattle.photo_model.specs.Device.{ModelDevice, opening}
use Rattle.photo_device.specs.Device.{Kept, Shows}
use Rattle.fleet_model.specs.declared.command.Command.{Command}
use Rattle.fleet_model.specs.Contents.{devices_of, IsWithin}
use Rattle.fleet_model.specs.Runs.{Effect, Fleet, device_at, effect, opening_from, after_command, with_second}
use Rattle.fleet_model.proofs.Zipped.{zip_long, zip_push}
use Rattle.fleet_model.proofs.Effects.{all_are, all_push}
use Rattle.fleet_model.proofs.Runs.{long_after}
use Rattle.fleet_steps.proofs.Shown.{opening_from-push}
use Rattle.live_fleet.specs.Fleets.{KeptFleet, AreAlike, HasJoined, CameAbout, after_commands}
use Rattle.live_fleet.proofs.Histories.{alike_after, ran, opened, is_folded, within_opened, came_after}

-- the model fleet with one more device at its end
abbrev with_last : ModelDevice → Fleet → Fleet
with_last x fleet = record fleet { devices = fleet.devices ++ x ∷ [] }

alike_trans : (f g h : Fleet) → AreAlike f g → AreAlike g h → AreAlike f h
alike_trans f g h one two = record { devices = one.devices ∙ two.devices; log = one.log ∙ two.log }

last_alike : (x : ModelDevice) (f g : Fleet) → AreAlike f g → AreAlike (with_last x f) (with_last x g)
last_alike x f g same = record { devices = ap (λ ds. ds ++ x ∷ []) same.devices; log = same.log }

-- a command that doesn't name the new device finds its own devices and leaves the new one unchanged

found : (ds : List ModelDevice) (x : ModelDevice) (k : ℕ) → k < length ds → device_at (ds ++ x ∷ []) k ≡ device_at ds k
found ds x k h = get_or_append_left ds (x ∷ []) (opening (author k) All) k h

second_found : (ds : List ModelDevice) (x : ModelDevice) (first : ℕ) (place : Option ℕ) → IfSome place (λ k. (k < length ds) × (k ≢ first)) → option_map (device_at (ds ++ x ∷ [])) place ≡ option_map (device_at ds) place
second_found ds x first None h = refl
second_found ds x first (Some k) h = ap Some (found ds x k h.0)

second_set : (ds : List ModelDevice) (x : ModelDevice) (first : ℕ) (place : Option ℕ) (second : Option ModelDevice) → IfSome place (λ k. (k < length ds) × (k ≢ first)) → with_second place second (ds ++ x ∷ []) ≡ with_second place second ds ++ x ∷ []
second_set ds x first None second h = refl
second_set ds x first (Some k) None h = refl
second_set ds x first (Some k) (Some d) h = set-append_left ds (x ∷ []) k d h.0

more_after : (x : ModelDevice) (fleet : Fleet) (number : ℕ) (c : Command) → IsWithin (length fleet.devices) c → AreAlike (after_command (with_last x fleet) number c) (with_last x (after_command fleet number c))
more_after x fleet number c within =
    let ds = fleet.devices in
    let k = (devices_of c).0 in
    let place = (devices_of c).1 in
    let done : Effect = effect c (device_at ds k) (option_map (device_at ds) place) in
    let same : effect c (device_at (ds ++ x ∷ []) k) (option_map (device_at (ds ++ x ∷ [])) place) ≡ done = λ i. effect c (found ds x k within.0 i) (second_found ds x k place within.1 i) in
    let first : set (ds ++ x ∷ []) k done.first ≡ set ds k done.first ++ x ∷ [] = set-append_left ds (x ∷ []) k done.first within.0 in
    let long : length (set ds k done.first) ≡ length ds = length-set ds k done.first in
    let below = subst (λ (n : ℕ). IfSome place (λ s. (s < n) × (s ≢ k))) (sym long) within.1 in
    record {
      devices =
          (λ i. with_second place (same i).second (set (ds ++ x ∷ []) k (same i).first))
          ∙ ap (with_second place done.second) first
          ∙ second_set (set ds k done.first) x k place done.second below;
      log = ap (λ (e : Effect). fleet.log ++ e.entries) same;
    }

alike_along : (f g : Fleet) (commands : List Command) → AreAlike f g → AreAlike (fold ran f commands) (fold ran g commands)
alike_along f g [] same = same
alike_along f g (c ∷ commands) same = alike_along (ran f c) (ran g c) commands (alike_after f g 0 0 c same)

more_along : (x : ModelDevice) (fleet : Fleet) (commands : List Command) → AllByRecursion (IsWithin (length fleet.devices)) commands → AreAlike (fold ran (with_last x fleet) commands) (with_last x (fold ran fleet commands))
more_along x fleet [] within = record { devices = refl; log = refl }
more_along x fleet (c ∷ commands) within =
    let next = ran fleet c in
    let rest = subst (λ (n : ℕ). AllByRecursion (IsWithin n) commands) (sym (long_after c fleet.devices)) within.1 in
    alike_trans (fold ran (ran (with_last x fleet) c) commands) (fold ran (with_last x next) commands) (with_last x (fold ran next commands))
    (alike_along (ran (with_last x fleet) c) (with_last x next) commands (more_after x fleet 0 c within.0))
    (more_along x next commands rest)

-- the same commands from one more filter give one more device
later : (filters : List Tree) (filter : Tree) (commands : List Command) → AllByRecursion (IsWithin (length filters)) commands
    → AreAlike (after_commands (filters ++ filter ∷ []) commands) (with_last (opening (author (length filters)) filter) (after_commands filters commands))
later filters filter commands within =
    let x = opening (author (length filters)) filter in
    let before = opened (filters ++ filter ∷ []) in
    let given = with_last x (opened filters) in
    let start : AreAlike before given = record { devices = opening_from-push 0 filters filter ∙ ap (λ (n : ℕ). opening_from 0 filters ++ opening (author n) filter ∷ []) (omega arith); log = refl } in
    alike_trans (after_commands (filters ++ filter ∷ []) commands) (fold ran before commands) _ (is_folded (filters ++ filter ∷ []) commands)
    (alike_trans (fold ran before commands) (fold ran given commands) _ (alike_along before given commands start)
    (alike_trans (fold ran given commands) (with_last x (fold ran (opened filters) commands)) _ (more_along x (opened filters) commands (within_opened filters commands within))
    (last_alike x (fold ran (opened filters) commands) (after_commands filters commands) (alike_back filters commands))))
  where
    alike_back : (filters : List Tree) (commands : List Command) → AreAlike (fold ran (opened filters) commands) (after_commands filters commands)
    alike_back filters commands = let same = is_folded filters commands in record { devices = sym same.devices; log = sym same.log }

one_wider : (n : ℕ) (c : Command) → IsWithin n c → IsWithin (n + 1) c
one_wider n c within = (omega (arith, within.0), wider (devices_of c).1 within.1)
  where
    wider : (place : Option ℕ) → IfSome place (λ k. (k < n) × (k ≢ (devices_of c).0)) → IfSome place (λ k. (k < n + 1) × (k ≢ (devices_of c).0))
    wider None h = tt
    wider (Some k) h = (omega (arith, h.0), h.1)

-- the fleet with the new device came about by commands
pub came_joined : (f : KeptFleet) (d : Kept) (filter : Tree) → CameAbout f → Shows d (opening (author (length f.devices)) filter) → d.staged ≡ None → CameAbout (record f { devices = f.devices ++ d ∷ [] })
came_joined f d filter came shows settled =
    let fleet = after_commands came.filters came.commands in
    let grown = after_commands (came.filters ++ filter ∷ []) came.commands in
    let same = later came.filters filter came.commands came.within in
    let long : length f.devices ≡ length came.filters = zip_long Shows f.devices fleet.devices came.shown.devices ∙ (came_after f came).long in
    let here : Shows d (opening (author (length came.filters)) filter) = subst (λ (n : ℕ). Shows d (opening (author n) filter)) long shows in
    let wide : length (came.filters ++ filter ∷ []) ≡ length came.filters + 1 = length-append came.filters (filter ∷ []) in
    record {
      filters = came.filters ++ filter ∷ [];
      commands = came.commands;
      within = subst (λ (n : ℕ). AllByRecursion (IsWithin n) came.commands) (sym wide) (all_are (IsWithin (length came.filters)) (IsWithin (length came.filters + 1)) came.commands (one_wider (length came.filters)) came.within);
      in_range = came.in_range;
      shown = record {
        devices = subst (AllZip Shows (f.devices ++ d ∷ [])) (sym same.devices) (zip_push Shows f.devices fleet.devices d (opening (author (length came.filters)) filter) came.shown.devices here);
        log = came.shown.log ∙ sym same.log;
      };
      count = came.count;
      few = came.few;
      settled = all_push (λ (e : Kept). e.staged ≡ None) f.devices d came.settled settled;
    }

-- it shows the old model fleet with one more device
pub joined : (f : KeptFleet) (d : Kept) (filter : Tree) → Shows d (opening (author (length f.devices)) filter) → HasJoined filter f (record f { devices = f.devices ++ d ∷ [] })
joined f d filter shows = record {
  shows = λ m shown. record {
    devices = zip_push Shows f.devices m.devices d (opening (author (length m.devices)) filter) shown.devices
        (subst (λ (n : ℕ). Shows d (opening (author n) filter)) (zip_long Shows f.devices m.devices shown.devices) shows);
    log = shown.log;
  };
  count = refl;
}
