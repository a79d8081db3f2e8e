-- Entries: versions of pictures with their histories and records.
use Rattle.std.specs.Prelude.{ℕ, Bool, true, false, not, ◌&&◌, ◌||◌, ◌==◌, nat_lt, List, [], ◌∷◌, filter, Option}
use Rattle.std.specs.List.{find, list_any}
use Rattle.photo_record.specs.declared.record.Record.{Record}
use Rattle.photo_version.specs.Version.{Version, Versions, same_version, version_before}
use Rattle.photo_model.specs.Ordered.{put}

-- a version of a picture, with its history (the versions of that picture that its maker knew) and the record that it gives the
-- picture
pub record Entry : Type 0 where
  pub picture : ℕ
  pub version : Version
  pub history : Versions
  pub content : Record

-- the order of entries: by picture, then by version
abbrev pub entry_before : Entry → Entry → Bool
entry_before a b = nat_lt a.picture b.picture || ((a.picture == b.picture) && version_before a.version b.version)

-- the entry is of another picture
abbrev pub is_of_other : ℕ → Entry → Bool
is_of_other picture e = not (e.picture == picture)

-- the entries of other pictures
abbrev pub others : ℕ → List Entry → List Entry
others picture entries = filter (is_of_other picture) entries

-- a list of entries in order, with one more entry
abbrev pub put_entry : Entry → List Entry → List Entry
put_entry e entries = put entry_before e entries

-- a list of entries in order, with one more entry where the test holds
abbrev pub put_entry_if : Bool → Entry → List Entry → List Entry
put_entry_if true e entries = put_entry e entries
put_entry_if false e entries = entries

-- a list of entries in order, with all entries of another list
abbrev pub put_entries : List Entry → List Entry → List Entry
put_entries [] entries = entries
put_entries (e ∷ more) entries = put_entry e (put_entries more entries)

-- the first entry of that version and picture
abbrev pub find_entry : ℕ → Version → List Entry → Option Entry
find_entry picture version entries = find (λ e. (e.picture == picture) && same_version e.version version) entries

-- w supersedes v: both are of one picture, and w's history has v's version
abbrev pub supersedes : Entry → Entry → Bool
supersedes w v = (w.picture == v.picture) && w.history v.version

abbrev pub superseded_by : List Entry → Entry → Bool
superseded_by ws v = list_any (λ w. supersedes w v) ws

-- some entry is of that version
abbrev pub is_among : List Entry → Version → Bool
is_among entries v = list_any (λ e. same_version e.version v) entries

-- the entries that are of none of these versions
abbrev pub without : List Version → List Entry → List Entry
without versions entries = filter (λ e. not (list_any (λ v. same_version v e.version) versions)) entries
