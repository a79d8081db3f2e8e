-- Facts about a log and its devices that runs keep, besides where versions come from.
use Rattle.std.proofs.Common.{◌≡◌, ℕ, ◌<◌, true, false, List, length}
use Rattle.photo_filter_rules.specs.Matching.{IsInRange}
use Rattle.photo_version.specs.Version.{Version}
use Rattle.photo_model.specs.Entry.{Entry}
use Rattle.photo_model.specs.Device.{ModelDevice, known, knows_entry, holds, selects}
use Rattle.fleet_model.specs.Runs.{device_at}
use Rattle.fleet_model.specs.Members.{In}
use Rattle.fleet_model.proofs.Superseding.{Supersedes}
use Rattle.fleet_model.proofs.Traced.{IsTraced}

-- in the log, a history has the histories of all that it supersedes; and all records are in range
pub record IsOrderly (log : List Entry) : Type 0 where
  pub transitive : (w x : Entry) → In w log → In x log → Supersedes w x → (v : Version) → x.history v ≡ true → w.history v ≡ true
  pub in_range : (e : Entry) → In e log → IsInRange e.content

-- a device knows what it holds, and the history of each version that it knows; it holds nothing beside what supersedes it; its
-- filter selects what is in the store and nothing in the out; and it stores just what it has to store
pub record IsSoundDevice (log : List Entry) (d : ModelDevice) : Type 0 where
  pub held_known : (e : Entry) → In e (holds d) → knows_entry d e ≡ true
  pub closed : (w : Entry) → In w log → knows_entry d w ≡ true → (v : Version) → w.history v ≡ true → known d w.picture v ≡ true
  pub no_older : (w v : Entry) → In w (holds d) → In v (holds d) → Supersedes w v → ⊥
  pub selected : (e : Entry) → In e d.store → selects d e ≡ true
  pub unselected : (e : Entry) → In e d.out → selects d e ≡ false
  pub stored : (e : Entry) → In e log → knows_entry d e ≡ true → selects d e ≡ true → ((w : Entry) → In w log → knows_entry d w ≡ true → Supersedes w e → ⊥) → In e d.store
  pub newest : (e w : Entry) → In e d.store → In w log → knows_entry d w ≡ true → Supersedes w e → ⊥

-- some device holds the entry
pub record IsHeld (devices : List ModelDevice) (e : Entry) : Type 0 where
  pub place : ℕ
  pub within : place < length devices
  pub held : In e (holds (device_at devices place))

pub record IsSoundFleet (log : List Entry) (devices : List ModelDevice) : Type 0 where
  pub traced : IsTraced log devices
  pub orderly : IsOrderly log
  pub each : (k : ℕ) → k < length devices → IsSoundDevice log (device_at devices k)
  pub kept : (e : Entry) → In e log → ((w : Entry) → In w log → Supersedes w e → ⊥) → IsHeld devices e
