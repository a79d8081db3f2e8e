-- Machinery of the proofs: a pull on the held versions of two devices, as the code finds it. `Pull` of `photo_model`
-- defines it.
use Rattle.std.specs.Prelude.{◌≡◌, ℕ, ◌≤◌, ◌<◌, Bool, true, false, not, ◌&&◌, ◌||◌, ◌==◌, List, [], ◌∷◌, ◌++◌, filter, drop, Option, Some, None}
use Rattle.std.specs.Borrow.{Bor}
use Rattle.std.specs.List.{list_any}
use Rattle.photo_version.specs.Version.{Version, Versions, same_version}
use Rattle.photo_version.specs.Vector.{denotes}
use Rattle.item_knowledge.specs.Fragments.{Fragment, knows}
use Rattle.photo_filter_text.specs.Tree.{Tree}
use Rattle.photo_filter_rules.specs.Matching.{matches}
use Rattle.photo_filter_rules.specs.Covers.{covers}
use Rattle.photo_device.specs.declared.held.Held.{Held}
use Rattle.photo_device.specs.declared.change.Selection.{Selection}
use Rattle.photo_device.specs.Held.{are_in_order, held_before, versions_of}
use Rattle.photo_device.specs.Device.{Kept}
use Rattle.photo_device.specs.Telling.{tells}
use Rattle.photo_pull.specs.declared.quiet_range.QuietRange.{QuietRange}

-- the knowledge doesn't have the held version
abbrev pub is_new : List Fragment → Held → Bool
is_new knowledge h = not (knows knowledge h.picture h.version)

-- w supersedes h
abbrev pub is_above : Held → Held → Bool
is_above w h = (w.picture == h.picture) && denotes w.made_with h.version

-- one of them supersedes h
abbrev pub has_above : List Held → Held → Bool
has_above ws h = list_any (λ w. is_above w h) ws

-- w supersedes one of them
abbrev pub has_below : List Held → Held → Bool
has_below hs w = list_any (λ h. is_above w h) hs

-- one of a selection supersedes h
abbrev pub selection_above : Selection → Held → Bool
selection_above selection h = has_above selection.stored.items h || has_above selection.waiting.items h

-- w supersedes one of a selection
abbrev pub selection_below : Selection → Held → Bool
selection_below selection w = has_below selection.stored.items w || has_below selection.waiting.items w

-- nothing in the selection supersedes a version of the range's pictures; versions of these and later pictures are
-- superseded only from the range's places on
pub record IsQuiet (selection : Selection) (quiet : QuietRange) : Type 0 where
  pub none : (h : Held) → quiet.from ≤ h.picture → h.picture < quiet.end → selection_above selection h ≡ false
  pub stored : (h : Held) → quiet.from ≤ h.picture → has_above (drop quiet.stored selection.stored.items) h ≡ has_above selection.stored.items h
  pub waiting : (h : Held) → quiet.from ≤ h.picture → has_above (drop quiet.waiting selection.waiting.items) h ≡ has_above selection.waiting.items h

-- a selection is in the order of its pictures
pub record IsOrdered (selection : Selection) : Type 0 where
  pub stored : are_in_order selection.stored.items ≡ true
  pub waiting : are_in_order selection.waiting.items ≡ true

-- the list has that version of that picture
abbrev pub has_same : List Held → Held → Bool
has_same hs h = list_any (λ g. (g.picture == h.picture) && same_version g.version h.version) hs

-- what is left of a list, with the next version at hand
abbrev pub left_of : Option (Bor Held) → List Held → List Held
left_of None others = []
left_of (Some next) others = next.now ∷ others

-- the new list is in order; of what stands at h or later it has exactly what the old one has
pub record HasPassed (h : Held) (old new : List Held) : Type 0 where
  pub order : are_in_order new ≡ true
  pub same : (k : Held) → held_before k h ≡ false → has_same new k ≡ has_same old k

-- the news supersedes h or, where the device is followed, the device knows h and doesn't keep it
abbrev pub is_gone : Selection → Bool → Kept → Held → Bool
is_gone news followed d h = selection_above news h || (followed && (knows d.knowledge h.picture h.version && not (has_same d.store h)))

-- what the target doesn't know of the source's store, and of its out
abbrev pub new_stored : Kept → Kept → List Held
new_stored t s = filter (is_new t.knowledge) s.store

abbrev pub new_waiting : Kept → Kept → List Held
new_waiting t s = filter (is_new t.knowledge) s.out

abbrev pub learns : Kept → Kept → Bool
learns t s = covers s.tree t.tree

-- the news supersedes h
abbrev pub is_over : Kept → Kept → Held → Bool
is_over t s h = has_above (new_stored t s) h || has_above (new_waiting t s) h

-- the source's filter covers the target's, and the source knows h and doesn't keep it
abbrev pub is_stale_held : Kept → Kept → Held → Bool
is_stale_held t s h = learns t s && (knows s.knowledge h.picture h.version && not (has_same s.store h))

abbrev pub is_dropped : Kept → Kept → Held → Bool
is_dropped t s h = is_over t s h || is_stale_held t s h

-- what the target drops from its store, and from its out
abbrev pub dropped_stored : Kept → Kept → List Held
dropped_stored t s = filter (is_dropped t s) t.store

abbrev pub dropped_waiting : Kept → Kept → List Held
dropped_waiting t s = filter (is_over t s) t.out

abbrev pub is_selected : Tree → Held → Bool
is_selected tree h = matches tree h.content

-- what the target hears of in the source's store: what its filter matches, and what supersedes a dropped version
abbrev pub is_heard : Kept → Kept → Held → Bool
is_heard t s h = is_selected t.tree h || (has_below (dropped_stored t s) h || has_below (dropped_waiting t s) h)

abbrev pub heard : Kept → Kept → List Held
heard t s = filter (is_heard t s) (new_stored t s)

abbrev pub taken_stored : Kept → Kept → List Held
taken_stored t s = filter (is_selected t.tree) (heard t s)

abbrev pub drops : Kept → Kept → List Version
drops t s = versions_of (dropped_stored t s) ++ versions_of (dropped_waiting t s)

-- what the target learns
abbrev pub gains : Kept → Kept → ℕ → Versions
gains t s picture = λ v. (learns t s && knows s.knowledge picture v) || (tells (heard t s) picture v || tells (new_waiting t s) picture v)
