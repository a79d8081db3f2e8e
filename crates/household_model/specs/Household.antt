-- A household: replicas that meet through copies alone, what may happen in it, and the household after that.
use Rattle.std.specs.Prelude.{ℕ, ◌+◌, List, [], ◌∷◌, ◌++◌, false, map, slice_get, slice_set, if◌then◌else◌, Option, Some, None, IfSome}
use Rattle.std.specs.List.{AllByRecursion}
use Rattle.photo_record.specs.declared.record.Record.{Record}
use Rattle.photo_filter_text.specs.Tree.{Tree}
use Rattle.photo_filter_rules.specs.Covers.{covers}
use Rattle.photo_filter_rules.specs.Matching.{IsInRange}
use Rattle.photo_model.specs.Entry.{Entry}
use Rattle.photo_model.specs.Device.{ModelDevice, new_entry, made, narrowed}
use Rattle.photo_model.specs.Refiltered.{begun}
use Rattle.fleet_model.specs.Runs.{Fleet, opening_from}
use Rattle.household_model.specs.Replica.{Receipts, Replica, is_of, may_begin, after_settling, after_taking, after_forgetting, is_obsolete}

-- the live replicas, one for each device number from 0; every copy that was ever made, oldest first; and the log of all versions
-- made, oldest first
pub record Household : Type 0 where
  pub replicas : List Replica
  pub copies : List Replica
  pub log : List Entry

-- what may happen to the n-th replica. Each event names its copy, so a copy may come late, twice, in any order or never
pub data Event : Type 0 where
  -- it makes a version of a picture
  Make : (n picture : ℕ) (content : Record) → Event
  -- it takes a narrower filter, if its own covers that
  Narrow : (n : ℕ) (tree : Tree) → Event
  -- it takes any filter and begins that epoch, if the epoch is later than its present one
  Begin : (n epoch : ℕ) (tree : Tree) → Event
  -- it is copied
  Copy : (n : ℕ) → Event
  -- it settles by the k-th copy, if that is of another device
  Settle : (n k : ℕ) → Event
  -- it takes from the k-th copy, if that is of another device
  Take : (n k : ℕ) → Event
  -- it forgets these receipts
  Forget : (n : ℕ) (forgotten : Receipts) → Event

-- the household with another replica at place n
abbrev pub with_replica : Household → ℕ → Replica → Household
with_replica h n r = record h { replicas = slice_set h.replicas n r }

-- the household with another device in the n-th replica, which is r
abbrev pub with_device : Household → ℕ → Replica → ModelDevice → Household
with_device h n r d = with_replica h n (record r { device = d })

-- What each event does to the household. Where the event's replica or copy isn't there, nothing changes.

-- the n-th replica makes a version, which the log gains
abbrev pub making : Household → ℕ → ℕ → Record → Option Replica → Household
making h n picture content None = h
making h n picture content (Some r) = record (with_device h n r (made r.device picture content)) { log = h.log ++ new_entry r.device picture content ∷ [] }

-- it narrows where its filter covers the tree
abbrev pub narrowing : Household → ℕ → Tree → Option Replica → Household
narrowing h n tree None = h
narrowing h n tree (Some r) = if covers r.device.tree tree then with_device h n r (narrowed tree r.device) else h

-- it begins the epoch where it may
abbrev pub beginning : Household → ℕ → ℕ → Tree → Option Replica → Household
beginning h n epoch tree None = h
beginning h n epoch tree (Some r) = if may_begin epoch r.device then with_device h n r (begun epoch tree r.device) else h

-- a copy of it joins the copies
abbrev pub copying : Household → Option Replica → Household
copying h None = h
copying h (Some r) = record h { copies = h.copies ++ r ∷ [] }

-- it settles by a copy of another device
abbrev pub settling : Household → ℕ → Option Replica → Option Replica → Household
settling h n None copy = h
settling h n (Some r) None = h
settling h n (Some r) (Some copy) = if is_of n copy then h else with_replica h n (after_settling r copy)

-- it takes from a copy of another device
abbrev pub taking : Household → ℕ → Option Replica → Option Replica → Household
taking h n None copy = h
taking h n (Some r) None = h
taking h n (Some r) (Some copy) = if is_of n copy then h else with_replica h n (after_taking r copy)

-- it forgets receipts
abbrev pub forgetting : Household → ℕ → Receipts → Option Replica → Household
forgetting h n forgotten None = h
forgetting h n forgotten (Some r) = with_replica h n (after_forgetting forgotten r)

-- the household after one event
abbrev pub after_event : Household → Event → Household
after_event h (Make n picture content) = making h n picture content (slice_get h.replicas n)
after_event h (Narrow n tree) = narrowing h n tree (slice_get h.replicas n)
after_event h (Begin n epoch tree) = beginning h n epoch tree (slice_get h.replicas n)
after_event h (Copy n) = copying h (slice_get h.replicas n)
after_event h (Settle n k) = settling h n (slice_get h.replicas n) (slice_get h.copies k)
after_event h (Take n k) = taking h n (slice_get h.replicas n) (slice_get h.copies k)
after_event h (Forget n forgotten) = forgetting h n forgotten (slice_get h.replicas n)

-- the household after these events, in this order
abbrev pub after_events : Household → List Event → Household
after_events h [] = h
after_events h (e ∷ events) = after_events (after_event h e) events

-- the events of a pull by the n-th replica from the k-th copy, which is this one
abbrev pub pull_from : ℕ → ℕ → Replica → List Event
pull_from n k copy = Settle n k ∷ Take n k ∷ Forget n (is_obsolete copy.device) ∷ []

-- a pull by the n-th replica from a new copy of the m-th one, which is s, and then settling by the m-th one from a new copy of the
-- n-th; k copies were made before
abbrev pub pull_and_settle : ℕ → ℕ → ℕ → Replica → List Event
pull_and_settle n m k s = Copy m ∷ pull_from n k s ++ Copy n ∷ Settle m (k + 1) ∷ []

-- a device with no receipts
abbrev pub new_replica : ModelDevice → Replica
new_replica d = record { device = d; receipts = λ q. false }

-- a new replica for each filter, numbered from 0, and no copy
abbrev pub opening_household : List Tree → Household
opening_household filters = record { replicas = map new_replica (opening_from 0 filters); copies = []; log = [] }

-- the household after these events, from the opening one
abbrev pub household_after : List Tree → List Event → Household
household_after filters events = after_events (opening_household filters) events

-- the record that an event gives a picture, if it gives one
abbrev pub record_of : Event → Option Record
record_of (Make n picture content) = Some content
record_of (Narrow n tree) = None
record_of (Begin n epoch tree) = None
record_of (Copy n) = None
record_of (Settle n k) = None
record_of (Take n k) = None
record_of (Forget n forgotten) = None

-- all ratings and days in the events' records are in range
abbrev pub AreInRange : List Event → Type 0
AreInRange events = AllByRecursion (λ e. IfSome (record_of e) IsInRange) events

-- the replicas' devices
abbrev pub devices_of : List Replica → List ModelDevice
devices_of replicas = map (λ r. r.device) replicas

-- the live devices and the log, as a fleet
abbrev pub fleet_of : Household → Fleet
fleet_of h = record { devices = devices_of h.replicas; reports = []; log = h.log }
