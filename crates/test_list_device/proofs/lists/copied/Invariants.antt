use Rattle.std.proofs.Common.{◌≡◌, take}
use Rattle.test_list_device.specs.Entries.{entries_of}
use Rattle.test_list_device.proofs.lists.copied.Given as goal

abbrev pub invariant-loop-entry : goal.invariant-loop-entry
invariant-loop-entry l = entries_of l.copy.items ≡ entries_of (take l.entry-index l.list)
