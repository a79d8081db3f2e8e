-- Machinery of the proofs: the code finds between two devices what `OnHeld` says, and stages it on the target.
use Rattle.std.specs.Prelude.{◌≡◌, ℕ, ◌<◌, true, ◌||◌, List, [], ◌++◌, length}
use Rattle.std.specs.List.{AllByRecursion, list_any}
use Rattle.photo_version.specs.Version.{Version}
use Rattle.item_knowledge.specs.Fragments.{Fragment, knows}
use Rattle.item_knowledge.specs.Staged.{Knowing}
use Rattle.photo_device.specs.declared.change.Selection.{Selection}
use Rattle.photo_device.specs.Held.{are_in_order}
use Rattle.photo_model.specs.Device.{ModelDevice}
use Rattle.photo_device.specs.Device.{Kept, Shows, unstaged}
use Rattle.photo_device.specs.Own.{HasEarlier, IsDevice}
use Rattle.photo_device.specs.Staging.{HasStaged}
use Rattle.photo_pull.specs.MayPull.{MayPull}
use Rattle.photo_model.specs.Pull.{is_up_to_date, IsTaughtNothing}
use Rattle.photo_pull.specs.OnHeld.{IsOrdered, is_new, is_dropped, is_over, new_stored, new_waiting, dropped_stored, dropped_waiting, heard, taken_stored, gains, learns, drops}
use Rattle.photo_pull.specs.declared.delta.PullDelta.{PullDelta}

-- two devices between which a pull may be
pub record AreReady (t s : Kept) : Type 0 where
  pub target : IsDevice (unstaged t)
  pub source : IsDevice (unstaged s)
  pub may : MayPull t s

-- the news is what the source holds and the target doesn't know
pub record AreNews (t s : Kept) (news : Selection) : Type 0 where
  pub ready : AreReady t s
  pub stored : news.stored.items ≡ new_stored t s
  pub waiting : news.waiting.items ≡ new_waiting t s
  pub order : IsOrdered news

-- the source holds something new to the target, or the target drops something
pub record IsSomething (t s : Kept) : Type 0 where
  pub ready : AreReady t s
  pub some : (list_any (is_new t.knowledge) (s.store ++ s.out) || (list_any (is_dropped t s) t.store || list_any (is_over t s) t.out)) ≡ true

-- a pull may want memory: the source holds a version that the target doesn't know, or something is to be dropped or learned
abbrev pub HasToPull : Kept → Kept → Type 0
HasToPull t s = (tm sm : ModelDevice) → Shows t tm → Shows s sm → is_up_to_date tm sm ≡ true → IsTaughtNothing tm sm → ⊥

-- a delta is what the pull finds
pub record IsDelta (t s : Kept) (h : PullDelta) : Type 0 where
  pub ready : AreReady t s
  pub learned : h.learned ≡ learns t s
  pub dropped_stored : h.dropped.stored.items ≡ dropped_stored t s
  pub dropped_waiting : h.dropped.waiting.items ≡ dropped_waiting t s
  pub heard : h.heard.items ≡ heard t s
  pub handed : h.handed.items ≡ new_waiting t s
  pub heard_order : are_in_order h.heard.items ≡ true
  pub handed_order : are_in_order h.handed.items ≡ true
  pub heard_earlier : AllByRecursion HasEarlier h.heard.items
  pub handed_earlier : AllByRecursion HasEarlier h.handed.items

-- the delta has nothing heard, handed or dropped, and the target already knows what the source may teach
pub record IsNothing (h : PullDelta) (known taught : Knowing) : Type 0 where
  pub heard : h.heard.items ≡ []
  pub handed : h.handed.items ≡ []
  pub dropped_stored : h.dropped.stored.items ≡ []
  pub dropped_waiting : h.dropped.waiting.items ≡ []
  pub teaches_none : h.learned ≡ true → (p : ℕ) (v : Version) → 0 < p → knows taught.known p v ≡ true → knows known.known p v ≡ true

-- a knowledge has exactly what the target learns
abbrev pub IsGained : Kept → Kept → List Fragment → Type 0
IsGained t s gain = (p : ℕ) (v : Version) → 0 < p → knows gain p v ≡ gains t s p v

-- the change that a pull makes is staged on the target
pub record HasStagedPull (t s new : Kept) : Type 0 where
  pub gain : List Fragment
  pub gained : IsGained t s gain
  pub staged : HasStaged (drops t s) (taken_stored t s) gain (length (new_waiting t s)) t new
