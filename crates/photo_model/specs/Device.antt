-- Devices as sets, and how commands change them.
use Rattle.std.specs.Prelude.{ℕ, ◌+◌, Bool, false, not, ◌||◌, ◌==◌, if◌then◌else◌, List, [], ◌++◌, length, filter}
use Rattle.std.specs.List.{list_any}
use Rattle.photo_record.specs.declared.record.Record.{Record}
use Rattle.photo_filter_text.specs.Tree.{Tree}
use Rattle.photo_filter_rules.specs.Matching.{matches}
use Rattle.photo_version.specs.Author.{Author}
use Rattle.photo_version.specs.Version.{Version, Versions, version, same_version}
use Rattle.photo_model.specs.declared.place.Place.{Place}
use Rattle.photo_model.specs.declared.place.Place.TheVariants.{Store, Out}
use Rattle.photo_model.specs.Entry.{Entry, others, put_entry_if, put_entries, without}

-- a device: its author, its filter's tree, how many versions it has made, what it holds, and which versions it knows, for every
-- picture or for single ones. Every run keeps store and out in the order of entries
pub record ModelDevice : Type 0 where
  pub author : Author
  pub tree : Tree
  pub counter : ℕ
  pub store : List Entry
  pub out : List Entry
  pub every : Versions
  pub of : ℕ → Versions

-- the versions that the device knows for a picture
abbrev pub known : ModelDevice → ℕ → Versions
known m picture = λ v. m.every v || m.of picture v

-- all entries that the device holds
abbrev pub holds : ModelDevice → List Entry
holds m = m.store ++ m.out

-- the device knows the entry's version for the entry's picture
abbrev pub knows_entry : ModelDevice → Entry → Bool
knows_entry m e = known m e.picture e.version

-- its filter selects the entry
abbrev pub selects : ModelDevice → Entry → Bool
selects m e = matches m.tree e.content

-- a device that has made nothing, holds nothing and knows nothing
abbrev pub opening : Author → Tree → ModelDevice
opening author tree = record {
  author = author;
  tree = tree;
  counter = 0;
  store = [];
  out = [];
  every = λ v. false;
  of = λ picture v. false;
}

-- Making a version of a picture: it is the device's next version.

abbrev pub next_version : ModelDevice → Version
next_version m = version m.author (m.counter + 1)

abbrev pub new_entry : ModelDevice → ℕ → Record → Entry
new_entry m picture content = record {
  picture = picture;
  version = next_version m;
  history = known m picture;
  content = content;
}

-- where a tree puts a record: into the store if the tree matches it, else into the out
abbrev pub place_for : Tree → Record → Place
place_for tree content = if matches tree content then Store else Out

abbrev pub new_place : ModelDevice → Record → Place
new_place m content = place_for m.tree content

-- the picture's entries leave, the new entry comes in, and the device knows the new version for every picture
abbrev pub made : ModelDevice → ℕ → Record → ModelDevice
made m picture content = record m {
  counter = m.counter + 1;
  store = put_entry_if (matches m.tree content) (new_entry m picture content) (others picture m.store);
  out = put_entry_if (not (matches m.tree content)) (new_entry m picture content) (others picture m.out);
  every = λ v. m.every v || same_version (next_version m) v;
}

-- the device holds a version of the picture, in its store or in its out; a removal counts
abbrev pub is_held : ModelDevice → ℕ → Bool
is_held m picture = list_any (λ e. e.picture == picture) (holds m)

-- Narrowing: the entries that the new tree doesn't match move to the out.

abbrev pub narrowed : Tree → ModelDevice → ModelDevice
narrowed tree m = record m {
  tree = tree;
  store = filter (λ e. matches tree e.content) m.store;
  out = put_entries (filter (λ e. not (matches tree e.content)) m.store) m.out;
}

-- the number of versions that narrowing moves to the out
abbrev pub moved : Tree → ModelDevice → ℕ
moved tree m = length (filter (λ e. not (matches tree e.content)) m.store)

-- Changing what is held and known: the device gives up some versions, puts entries into store or out, and learns versions of
-- single pictures.

abbrev pub changed : List Version → List Entry → (ℕ → Versions) → ModelDevice → ModelDevice
changed drops takes gain m = record m {
  store = put_entries (filter (selects m) takes) (without drops m.store);
  out = put_entries (filter (λ e. not (selects m e)) takes) (without drops m.out);
  of = λ picture v. m.of picture v || gain picture v;
}

-- the out loses these versions
abbrev pub without_waiting : List Version → ModelDevice → ModelDevice
without_waiting drops m = record m { out = without drops m.out }
