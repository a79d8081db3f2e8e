-- Lists of versions, and of pictures' versions, as the sets that they stand for.
use Rattle.std.specs.Prelude.{ℕ, ◌&&◌, ◌==◌, List}
use Rattle.std.specs.List.{list_any}
use Rattle.photo_version.specs.Version.{Version, Versions, same_version}
use Rattle.test_list_device.specs.declared.known.Known.{Known}

-- the set of the versions in a list
abbrev pub listed : List Version → Versions
listed versions = λ v. list_any (λ w. same_version w v) versions

-- for each picture, the set of its versions in a list
abbrev pub listed_of : List Known → ℕ → Versions
listed_of pairs picture = λ v. list_any (λ k. (k.picture == picture) && same_version k.version v) pairs
