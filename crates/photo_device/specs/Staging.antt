-- A change that is staged on a device, and is committed later, together with versions that are handed over.
use Rattle.std.specs.Prelude.{◌≡◌, ℕ, ◌+◌, ◌≤◌, ◌<◌, true, ◌||◌, List, [], ◌++◌, length, Option, None, Some, is_some}
use Rattle.std.specs.List.{AllByRecursion}
use Rattle.photo_version.specs.Version.{Version}
use Rattle.item_knowledge.specs.Fragments.{Fragment, knows}
use Rattle.photo_device.specs.declared.held.Held.{Held}
use Rattle.photo_device.specs.declared.change.Gain.{Gain}
use Rattle.photo_device.specs.declared.change.Gain.TheVariants.{Known, Told}
use Rattle.photo_device.specs.declared.change.Selection.{Selection}
use Rattle.photo_device.specs.declared.prepared.Prepared.{Prepared}
use Rattle.block_list.specs.Reservation.{Reserved}
use Rattle.photo_device.specs.Held.{find_version, has_version_of, count_of, versions_of}
use Rattle.photo_device.specs.Device.{Kept, Staging, IsAsItWas}
use Rattle.photo_device.specs.Own.{HasEarlier, IsDevice, IsKnownBy, KnowsItsOwn, KnowsNoMore}

-- all versions of a selection
abbrev pub versions_in : Selection → List Version
versions_in s = versions_of s.stored.items ++ versions_of s.waiting.items

-- what is gained
abbrev pub gained : Gain → List Fragment
gained (Known knowledge) = knowledge.now.known
gained (Told told) = told.now

-- a change is staged on a device that is otherwise as it was; what will be known is what is known and what is gained
pub record HasStaged (drops : List Version) (takes : List Held) (gain : List Fragment) (room : ℕ) (old new : Kept) : Type 0 where
  pub rest : IsAsItWas old new
  pub knowledge : List Fragment
  pub staged : new.staged ≡ Some (record { drops = drops; takes = takes; knowledge = knowledge; room = room })
  pub learned : (p : ℕ) (v : Version) → 0 < p → knows knowledge p v ≡ (knows old.knowledge p v || knows gain p v)

-- versions may be handed to a device on which a change is staged
pub record MayHand (handed : List Held) (s : Staging) (d : Kept) : Type 0 where
  -- the room suffices for them
  pub few : length handed ≤ s.room
  -- no version is handed over twice, or held, or taken
  pub once : (v : Version) → count_of v (handed ++ (s.takes ++ (d.store ++ d.out))) ≤ 1
  pub earlier : AllByRecursion HasEarlier handed
  -- each will be known, with its history
  pub known : AllByRecursion (IsKnownBy s.knowledge) handed

-- a change may be staged on a device
pub record MayStage (of_store of_out takes : List Held) (gain : List Fragment) (d : Kept) : Type 0 where
  -- the dropped versions stand in the store, and in the out
  pub stored : AllByRecursion (λ h. has_version_of h.picture h.version d.store ≡ true) of_store
  pub waiting : AllByRecursion (λ h. has_version_of h.picture h.version d.out ≡ true) of_out
  -- no version is taken twice, or already held
  pub new : AllByRecursion (λ h. find_version h.version (d.store ++ d.out) ≡ None) takes
  pub distinct : (v : Version) → count_of v takes ≤ 1
  pub earlier : AllByRecursion HasEarlier takes
  -- each is gained with its history; of the device's own versions, none is gained that it hasn't made, nor any of a later epoch
  pub known : AllByRecursion (IsKnownBy gain) takes
  pub own : KnowsNoMore d.author d.counter gain

-- Machinery of the proofs: what a device keeps for a staged change

-- what will be known
abbrev pub known_then : Option (List Fragment) → List Fragment
known_then None = []
known_then (Some knowledge) = knowledge

-- what contracts see of what is prepared
abbrev pub staging : Prepared → Option (List Fragment) → Staging
staging p knowledge = record { drops = versions_in p.drops; takes = p.takes; knowledge = known_then knowledge; room = p.room }

abbrev pub staging_of : Option Prepared → Option (List Fragment) → Option Staging
staging_of None knowledge = None
staging_of (Some p) knowledge = Some (staging p knowledge)

-- what will be known has all that is known, and the taken versions with their history; it has no further version of the
-- device's own
pub record IsAhead (knowledge : List Fragment) (takes : List Held) (d : Kept) : Type 0 where
  pub own : KnowsItsOwn d.author d.counter knowledge
  pub more : (p : ℕ) (v : Version) → 0 < p → knows d.knowledge p v ≡ true → knows knowledge p v ≡ true
  pub known : AllByRecursion (IsKnownBy knowledge) takes

-- the second list holds no version of the first
abbrev pub AreNoneOf : List Held → List Held → Type 0
AreNoneOf hs helds = AllByRecursion (λ h. count_of h.version helds ≡ 0) hs

-- what is prepared fits the device
pub record IsPrepared (p : Prepared) (knowledge : Option (List Fragment)) (d : Kept) : Type 0 where
  pub there : is_some knowledge ≡ true
  pub ahead : IsAhead (known_then knowledge) p.takes d
  pub once : (v : Version) → count_of v (p.takes ++ (d.store ++ d.out)) ≤ 1
  pub earlier : AllByRecursion HasEarlier p.takes
  pub not_stored : AreNoneOf p.drops.waiting.items d.store
  pub not_waiting : AreNoneOf p.drops.stored.items d.out
  pub store : length d.store ≤ p.in_store.most
  pub store_room : length p.takes + p.room ≤ p.in_store.more
  pub out : length d.out ≤ p.in_out.most
  pub out_room : length p.takes + p.room ≤ p.in_out.more

-- the room suffices for all taken and handed versions
pub record IsRoomFor (helds : List Held) (takes handed : ℕ) (room : Reserved) : Type 0 where
  pub most : room.most ≡ length helds
  pub more : room.more ≡ takes + handed

-- what is prepared fits the device; if nothing is prepared, the knowledge has nothing staged either
abbrev pub FitsWhatIsPrepared : Option Prepared → Option (List Fragment) → Kept → Type 0
FitsWhatIsPrepared None knowledge d = knowledge ≡ None
FitsWhatIsPrepared (Some p) knowledge d = IsPrepared p knowledge d

-- the parts of a device fit together, and with nothing staged they are a device
pub record AreParts (prepared : Option Prepared) (knowledge : Option (List Fragment)) (d : Kept) : Type 0 where
  pub device : IsDevice d
  pub fits : FitsWhatIsPrepared prepared knowledge d
