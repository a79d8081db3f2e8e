-- How authors and versions are shown without device names: by the device's number.
use Rattle.std.specs.Prelude.{ℕ, ◌==◌, if◌then◌else◌, List, [], ◌++◌, codes}
use Rattle.std.specs.Fmt.{decimal}
use Rattle.photo_version.specs.Author.{Author, device_of_author, epoch_of_author}
use Rattle.photo_version.specs.Version.{Version}

-- the epoch behind a dot; nothing for epoch 0
abbrev pub epoch_text : ℕ → List ℕ
epoch_text epoch = if epoch == 0 then [] else codes "." ++ decimal epoch

-- the device's number, and its epoch unless that is 0
abbrev pub author_text : Author → List ℕ
author_text a = decimal (device_of_author a) ++ epoch_text (epoch_of_author a)

-- the author, a colon and the version's number
abbrev pub version_text : Version → List ℕ
version_text v = author_text v.author ++ codes ":" ++ decimal v.number
