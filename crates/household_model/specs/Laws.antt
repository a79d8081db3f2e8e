-- Laws of all households.
use Rattle.std.specs.Prelude.{◌≡◌, ◌≢◌, ℕ, ◌+◌, ◌<◌, false, List, length, Some, slice_get, slice_set}
use Rattle.photo_filter_text.specs.Tree.{Tree}
use Rattle.photo_version.specs.Author.{Author, epoch_of_author, same_device}
use Rattle.photo_model.specs.Device.{ModelDevice}
use Rattle.photo_model.specs.Refiltered.{refiltered, begun}
use Rattle.photo_model.specs.Pull.{pulled, handed_over, counts_of}
use Rattle.fleet_model.specs.Members.{In}
use Rattle.fleet_model.specs.Sound.{IsSoundAndKept}
use Rattle.household_model.specs.Replica.{Receipt, Replica, after_settling, count_settled, after_pulling}
use Rattle.household_model.specs.Household.{Event, AreInRange, after_events, pull_and_settle, household_after, devices_of, fleet_of}
use Rattle.household_model.specs.Meeting.{MayPullCopy}

-- after any events all live devices are sound, each current version is held by one of them, and nothing is made twice
-- (`IsSoundAndKept`)
abbrev pub StaysSoundAndKept : Type 0
StaysSoundAndKept = (filters : List Tree) (events : List Event) → AreInRange events → IsSoundAndKept (fleet_of (household_after filters events))

-- after any events each live device may pull from each copy of another device
abbrev pub CopiesMayBePulled : Type 0
CopiesMayBePulled = (filters : List Tree) (events : List Event) → AreInRange events → (r copy : Replica) → In r (household_after filters events).replicas → In copy (household_after filters events).copies → same_device r.device.author copy.device.author ≡ false → MayPullCopy r.device copy

-- the replica has no receipt from the author
abbrev pub HasNoneFrom : Author → Replica → Type 0
HasNoneFrom author r = (q : Receipt) → q.giver ≡ author → r.receipts q ≡ false

-- t pulls from a copy of s as it is now, and s then settles by a copy of t: the two devices are those of a script's pull, with
-- its counts
pub record IsScriptPull (t s : Replica) : Type 0 where
  pub target : (after_pulling t s).device ≡ pulled t.device s.device
  pub source : (after_settling s (after_pulling t s)).device ≡ handed_over t.device s.device
  -- the target settles nothing, so its pull has the script's counts; and what was handed over is settled
  pub counts : counts_of (after_settling t s).device s.device ≡ counts_of t.device s.device
  pub by_target : count_settled t s ≡ 0
  pub by_source : count_settled s (after_pulling t s) ≡ (counts_of t.device s.device).handed

-- two replicas do a script's pull by two copies, where neither had a receipt from the other's present author
abbrev pub CopiesDoScriptPull : Type 0
CopiesDoScriptPull = (t s : Replica) → HasNoneFrom s.device.author t → HasNoneFrom t.device.author s → IsScriptPull t s

-- after any events, n pulls from a new copy of m, and m settles at once by a new copy of n. Where neither had a receipt from the
-- other's present author, the devices are then those after a script's pull
abbrev pub EventsDoScriptPull : Type 0
EventsDoScriptPull = (filters : List Tree) (events : List Event) → AreInRange events → (n m : ℕ) (t s : Replica) → n ≢ m
    → slice_get (household_after filters events).replicas n ≡ Some t → slice_get (household_after filters events).replicas m ≡ Some s
    → HasNoneFrom s.device.author t → HasNoneFrom t.device.author s
    → devices_of (after_events (household_after filters events) (pull_and_settle n m (length (household_after filters events).copies) s)).replicas
    ≡ slice_set (slice_set (devices_of (household_after filters events).replicas) n (pulled t.device s.device)) m (handed_over t.device s.device)

-- refiltering begins the next epoch, if the present one isn't the last
abbrev pub RefilteringBeginsTheNext : Type 0
RefilteringBeginsTheNext = (tree : Tree) (d : ModelDevice) → epoch_of_author d.author < 4294967295 → begun (epoch_of_author d.author + 1) tree d ≡ refiltered tree d
