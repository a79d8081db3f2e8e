-- Refiltering: the device takes any filter, begins its next epoch, and knows only what it holds. It may begin a later epoch instead.
use Rattle.std.specs.Prelude.{ℕ, false, not, [], filter}
use Rattle.photo_filter_text.specs.Tree.{Tree}
use Rattle.photo_filter_rules.specs.Matching.{matches}
use Rattle.photo_version.specs.Author.{author_at, device_of_author, next_author}
use Rattle.photo_model.specs.Entry.{put_entries}
use Rattle.photo_model.specs.Device.{ModelDevice, holds}
use Rattle.photo_model.specs.Telling.{tell}

-- the device sorts what it holds anew into store and out. Its counter is 0, it knows nothing for every picture, and for single
-- pictures it knows the held versions with their histories
abbrev pub refiltered : Tree → ModelDevice → ModelDevice
refiltered tree m = record m {
  author = next_author m.author;
  tree = tree;
  counter = 0;
  store = put_entries (filter (λ e. matches tree e.content) (holds m)) [];
  out = put_entries (filter (λ e. not (matches tree e.content)) (holds m)) [];
  every = λ v. false;
  of = tell (holds m);
}

-- the device refilters, and begins that epoch instead of its next one
abbrev pub begun : ℕ → Tree → ModelDevice → ModelDevice
begun epoch tree d = record (refiltered tree d) { author = author_at (device_of_author d.author) epoch }
