-- Machinery of the proofs: the tests of an audit on what devices keep and what a log has. `Sound` defines soundness.
use Rattle.std.specs.Prelude.{Bool, not, ◌&&◌, ◌||◌, List, ◌++◌, Some, None}
use Rattle.std.specs.List.{list_any, list_all}
use Rattle.photo_version.specs.Version.{Version, same_version}
use Rattle.photo_filter_rules.specs.Matching.{matches}
use Rattle.item_knowledge.specs.Fragments.{knows}
use Rattle.photo_device.specs.declared.held.Held.{Held}
use Rattle.photo_device.specs.Device.{Kept}
use Rattle.fleet_audit.specs.Current.{is_outdated}

abbrev pub has : List Held → Version → Bool
has helds v = list_any (λ h. same_version h.version v) helds

-- the device doesn't know the version, doesn't select it, or stores it
abbrev pub is_placed : Kept → Held → Bool
is_placed d h = not (knows d.knowledge h.picture h.version && matches d.tree h.content) || has d.store h.version

-- the device knows and selects the version, and knows none of the log that supersedes it
abbrev pub is_wanted : List Held → Kept → Held → Bool
is_wanted log d h = knows d.knowledge h.picture h.version && (matches d.tree h.content && not (is_outdated (Some d) log h))

abbrev pub is_sound : List Held → Kept → Bool
is_sound log d = list_all (λ h. is_outdated (Some d) log h || is_placed d h) log && list_all (is_wanted log d) d.store

abbrev pub is_held : List Kept → Held → Bool
is_held devices h = list_any (λ d. has (d.store ++ d.out) h.version) devices

abbrev pub is_kept : List Held → List Kept → Bool
is_kept log devices = list_all (λ h. is_outdated None log h || is_held devices h) log
