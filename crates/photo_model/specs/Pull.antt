-- A pull: what a target takes, is told and learns from a source. Every definition speaks of the two devices before the pull.
use Rattle.std.specs.Prelude.{◌≡◌, ℕ, ◌<◌, true, ◌+◌, Bool, not, ◌&&◌, ◌||◌, List, ◌++◌, length, filter}
use Rattle.std.specs.List.{list_any}
use Rattle.photo_version.specs.Version.{Version}
use Rattle.photo_filter_rules.specs.Covers.{covers}
use Rattle.photo_model.specs.Entry.{Entry, put_entries, supersedes, superseded_by, is_among}
use Rattle.photo_model.specs.Device.{ModelDevice, holds, known, knows_entry, selects}
use Rattle.photo_model.specs.Telling.{tell}
use Rattle.photo_model.specs.declared.counts.PullCounts.{PullCounts}

-- what the target takes: the entries in the source's store that it doesn't know and its filter selects
abbrev pub taken : ModelDevice → ModelDevice → List Entry
taken t s = filter (λ e. not (knows_entry t e) && selects t e) s.store

-- what the source hands over: the entries in its out that the target doesn't know
abbrev pub handed : ModelDevice → ModelDevice → List Entry
handed t s = filter (λ e. not (knows_entry t e)) s.out

-- what the target notices: the entries in the source's store that it doesn't know, that its filter leaves out, and that
-- supersede something that it holds
abbrev pub noticed : ModelDevice → ModelDevice → List Entry
noticed t s = filter (λ e. not (knows_entry t e) && (not (selects t e) && list_any (supersedes e) (holds t))) s.store

abbrev pub told : ModelDevice → ModelDevice → List Entry
told t s = taken t s ++ handed t s ++ noticed t s

-- the source's filter covers the target's, so the target learns all that the source knows
abbrev pub learns_all : ModelDevice → ModelDevice → Bool
learns_all t s = covers s.tree t.tree

-- under cover, a version that the source knows and doesn't store is stale in the target's store
abbrev pub is_stale : ModelDevice → ModelDevice → Entry → Bool
is_stale t s e = learns_all t s && (knows_entry s e && not (is_among s.store e.version))

-- the target knows all that the source holds and stores nothing stale, so a pull tells it nothing and it gives up nothing
abbrev pub is_up_to_date : ModelDevice → ModelDevice → Bool
is_up_to_date t s = not (list_any (λ e. not (knows_entry t e)) (holds s)) && not (list_any (is_stale t s) t.store)

-- the pull teaches nothing: if the target would learn all that the source knows, it knows all of that already
abbrev pub IsTaughtNothing : ModelDevice → ModelDevice → Type 0
IsTaughtNothing t s = learns_all t s ≡ true → (picture : ℕ) (v : Version) → 0 < picture → known s picture v ≡ true → known t picture v ≡ true

-- the target gives up the entry: from its store (first definition), or from its out (second)
abbrev pub leaves_store : ModelDevice → ModelDevice → Entry → Bool
leaves_store t s e = superseded_by (told t s) e || is_stale t s e

abbrev pub leaves_out : ModelDevice → ModelDevice → Entry → Bool
leaves_out t s e = superseded_by (told t s) e

-- the target after the pull
abbrev pub pulled : ModelDevice → ModelDevice → ModelDevice
pulled t s =
    let new = taken t s ++ handed t s in
    record t {
      store = put_entries (filter (selects t) new) (filter (λ e. not (leaves_store t s e)) t.store);
      out = put_entries (filter (λ e. not (selects t e)) new) (filter (λ e. not (leaves_out t s e)) t.out);
      every = λ v. t.every v || (learns_all t s && s.every v);
      of = λ picture v. t.of picture v || (tell (told t s) picture v || (learns_all t s && s.of picture v));
    }

-- the source after the pull: its out keeps only what the target already knew
abbrev pub handed_over : ModelDevice → ModelDevice → ModelDevice
handed_over t s = record s { out = filter (knows_entry t) s.out }

abbrev pub counts_of : ModelDevice → ModelDevice → PullCounts
counts_of t s = record {
  taken = length (taken t s);
  handed = length (handed t s);
  notices = length (noticed t s);
  dropped = length (filter (leaves_store t s) t.store) + length (filter (leaves_out t s) t.out);
  learned = learns_all t s;
}
