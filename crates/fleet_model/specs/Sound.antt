-- What is promised of devices, for a log of all versions made: they are sound, and what is current is kept.
-- Each device stores just what it has to store, and no current version is lost.
use Rattle.std.specs.Prelude.{◌≡◌, ℕ, ◌≤◌, Bool, true, false, not, ◌&&◌, List, filter, count_by}
use Rattle.std.specs.List.{list_any, list_all}
use Rattle.photo_version.specs.Version.{Version, same_version}
use Rattle.photo_model.specs.Entry.{Entry, supersedes, superseded_by, is_among}
use Rattle.photo_model.specs.Device.{ModelDevice, known, holds, knows_entry, selects}
use Rattle.fleet_model.specs.Contents.{Contents}
use Rattle.fleet_model.specs.Runs.{Fleet, run_in_order, numbers_to}
use Rattle.fleet_model.specs.Members.{In}

-- the device knows no entry of the log that supersedes this one
abbrev pub is_newest : List Entry → ModelDevice → Entry → Bool
is_newest log d e = not (superseded_by (filter (knows_entry d) log) e)

-- the device has to store the entry: it knows it, its filter selects it, and it knows nothing newer
abbrev pub is_wanted : List Entry → ModelDevice → Entry → Bool
is_wanted log d e = knows_entry d e && (selects d e && is_newest log d e)

-- the device stores each entry of the log that it has to store, and nothing else
abbrev pub is_sound : List Entry → ModelDevice → Bool
is_sound log d =
    list_all (λ e. is_among d.store e.version) (filter (is_wanted log d) log)
    && list_all (is_wanted log d) d.store

-- the current entries: nothing in the log supersedes them
abbrev pub current : List Entry → List Entry
current log = filter (λ e. not (superseded_by log e)) log

-- some device holds the version, in its store or its out
abbrev pub is_held_by : List ModelDevice → Entry → Bool
is_held_by devices e = list_any (λ d. is_among (holds d) e.version) devices

abbrev pub is_kept : List Entry → List ModelDevice → Bool
is_kept log devices = list_all (is_held_by devices) (current log)

-- how many entries of the list have that version
abbrev pub occurrences : Version → List Entry → ℕ
occurrences v entries = count_by (λ e. same_version e.version v) entries

-- all devices are sound; some device holds each current version; held entries are in the log; the log has each version at
-- most once; no device holds a version beside one that supersedes it; and a device that knows an entry of the log knows all of
-- that entry's history
pub record IsSoundAndKept (fleet : Fleet) : Type 0 where
  pub sound : list_all (is_sound fleet.log) fleet.devices ≡ true
  pub kept : is_kept fleet.log fleet.devices ≡ true
  pub logged : (d : ModelDevice) (e : Entry) → In d fleet.devices → In e (holds d) → In e fleet.log
  pub once : (v : Version) → occurrences v fleet.log ≤ 1
  pub no_older : (d : ModelDevice) (w v : Entry) → In d fleet.devices → In w (holds d) → In v (holds d) → supersedes w v ≡ false
  pub whole : (d : ModelDevice) (w : Entry) (v : Version) → In d fleet.devices → In w fleet.log → knows_entry d w ≡ true → w.history v ≡ true → known d w.picture v ≡ true

-- `IsSoundAndKept` holds before the first command of the script and after each command
abbrev pub IsSoundThroughout : Contents → Type 0
IsSoundThroughout script = (n : ℕ) → IsSoundAndKept (run_in_order script (numbers_to n))
