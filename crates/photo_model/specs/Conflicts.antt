-- Conflicts: the pictures of which a device holds two or more versions.
use Rattle.std.specs.Prelude.{ℕ, not, ◌==◌, nat_lt, List, [], ◌∷◌, length, map, filter}
use Rattle.photo_version.specs.Version.{Version}
use Rattle.photo_model.specs.Entry.{Entry, put_entries}
use Rattle.photo_model.specs.Device.{ModelDevice}

-- a picture with its held versions, in order; a conflict has two or more
pub record Conflict : Type 0 where
  pub picture : ℕ
  pub versions : List Version

-- the pictures of the entries, each once, in the order in which they first come
abbrev pub pictures_of : List Entry → List ℕ
pictures_of [] = []
pictures_of (e ∷ entries) = e.picture ∷ filter (λ picture. not (picture == e.picture)) (pictures_of entries)

-- a picture with its versions, in the order in which the entries come
abbrev pub versions_of : List Entry → ℕ → Conflict
versions_of entries picture = record {
  picture = picture;
  versions = map (λ e. e.version) (filter (λ e. e.picture == picture) entries);
}

-- the pictures that have two or more versions among the entries
abbrev pub conflicts_in : List Entry → List Conflict
conflicts_in entries = filter (λ c. nat_lt 1 (length c.versions)) (map (versions_of entries) (pictures_of entries))

-- the conflicts of a device; store and out count together
abbrev pub conflicts_of : ModelDevice → List Conflict
conflicts_of m = conflicts_in (put_entries m.store m.out)
