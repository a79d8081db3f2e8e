use Rattle.std.proofs.Common.{◌≡◌, ℕ, ◌&&◌, ◌||◌, eqb, take}
use Rattle.photo_version.specs.Version.{Version}
use Rattle.test_list_device.specs.Sets.{listed, listed_of}
use Rattle.test_list_device.proofs.known.tell_one.Given as goal

abbrev pub invariant-loop-version : goal.invariant-loop-version
invariant-loop-version l =
    (p : ℕ) (v : Version) → listed_of l.pairs.items p v
    ≡ (listed_of l.initial.pairs.items p v || (eqb l.picture p && listed (take l.version-index l.version-items) v))
