-- Held versions, and the entries that they show.
use Rattle.std.specs.Prelude.{◌≡◌, ℕ, ◌≤◌, Bool, not, ◌&&◌, ◌||◌, ◌==◌, nat_lt, List, [], ◌∷◌, ◌++◌, length, map, filter, take, drop, Option}
use Rattle.std.specs.List.{find, list_any}
use Rattle.photo_device.specs.declared.held.Held.{Held}
use Rattle.photo_version.specs.Version.{Version, same_version, version_before}
use Rattle.photo_version.specs.Vector.{denotes}
use Rattle.photo_model.specs.Ordered.{put, in_order}
use Rattle.photo_model.specs.Entry.{Entry, entry_before, is_of_other}

abbrev pub entry_of : Held → Entry
entry_of held = record {
  picture = held.picture;
  version = held.version;
  history = denotes held.made_with;
  content = held.content;
}

abbrev pub entries_of : List Held → List Entry
entries_of helds = map entry_of helds

abbrev pub held_before : Held → Held → Bool
held_before a b = entry_before (entry_of a) (entry_of b)

-- the held version stands before that version of that picture
abbrev pub stands_before : Held → ℕ → Version → Bool
stands_before held picture version = nat_lt held.picture picture || ((held.picture == picture) && version_before held.version version)

-- the held version is that version of that picture
abbrev pub is_of : Held → ℕ → Version → Bool
is_of held picture version = (held.picture == picture) && same_version held.version version

-- the list is sorted by picture, then by version, and has no version of a picture twice
abbrev pub are_in_order : List Held → Bool
are_in_order helds = in_order held_before helds

-- the held versions of all other pictures
abbrev pub held_of_others : ℕ → List Held → List Held
held_of_others picture helds = filter (λ held. is_of_other picture (entry_of held)) helds

-- the list with one held version in place of all of its picture
abbrev pub replaced : Held → List Held → List Held
replaced held helds = put held_before held (held_of_others held.picture helds)

-- the held version of that version
abbrev pub find_version : Version → List Held → Option Held
find_version v helds = find (λ h. same_version h.version v) helds

-- the versions of a picture stand from the first place up to before the second
pub record IsRangeOf (picture : ℕ) (helds : List Held) (from to : ℕ) : Type 0 where
  pub order : from ≤ to
  pub within : to ≤ length helds
  pub rest : held_of_others picture helds ≡ take from helds ++ drop to helds

-- the list has a version of the picture
abbrev pub has_picture : ℕ → List Held → Bool
has_picture picture helds = list_any (λ h. h.picture == picture) helds

-- the list has that version of that picture
abbrev pub has_version_of : ℕ → Version → List Held → Bool
has_version_of picture version helds = list_any (λ h. is_of h picture version) helds

-- the held version of that version and picture
abbrev pub find_version_of : ℕ → Version → List Held → Option Held
find_version_of picture version helds = find (λ h. is_of h picture version) helds

abbrev pub versions_of : List Held → List Version
versions_of helds = map (λ h. h.version) helds

-- the list of versions has that version
abbrev pub is_listed : List Version → Version → Bool
is_listed versions version = list_any (λ v. same_version v version) versions

-- the held versions without those versions
abbrev pub helds_without : List Version → List Held → List Held
helds_without versions helds = filter (λ h. not (is_listed versions h.version)) helds

-- a set with all held versions of a list put in
abbrev pub put_helds : List Held → List Held → List Held
put_helds [] helds = helds
put_helds (h ∷ more) helds = put held_before h (put_helds more helds)

-- how many of the held versions are of that version
abbrev pub count_of : Version → List Held → ℕ
count_of v helds = length (filter (λ h. same_version h.version v) helds)
