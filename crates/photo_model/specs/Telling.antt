-- Which versions entries tell of: each entry tells of its own version and of its history.
use Rattle.std.specs.Prelude.{ℕ, ◌&&◌, ◌||◌, ◌==◌, List}
use Rattle.std.specs.List.{list_any}
use Rattle.photo_version.specs.Version.{Versions, same_version}
use Rattle.photo_model.specs.Entry.{Entry}

-- the versions of a picture that the entries tell of
abbrev pub tell : List Entry → ℕ → Versions
tell entries picture = λ v. list_any (λ e. (e.picture == picture) && (e.history v || same_version e.version v)) entries
