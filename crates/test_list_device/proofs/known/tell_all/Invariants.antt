use Rattle.std.proofs.Common.{◌≡◌, ℕ, ◌||◌, take}
use Rattle.photo_version.specs.Version.{Version}
use Rattle.photo_model.specs.Telling.{tell}
use Rattle.test_list_device.specs.Sets.{listed_of}
use Rattle.test_list_device.specs.Entries.{entries_of}
use Rattle.test_list_device.proofs.known.tell_all.Given as goal

abbrev pub invariant-loop-entry : goal.invariant-loop-entry
invariant-loop-entry l =
    (p : ℕ) (v : Version) → listed_of l.pairs.items p v
    ≡ (listed_of l.initial.pairs.items p v || tell (entries_of (take l.entry-index l.entries)) p v)
