use Rattle.std.proofs.Common.{◌≡◌, take}
use Rattle.photo_filter_rules.proofs.copies.copied.Given as goal

abbrev pub invariant-loop-item : goal.invariant-loop-item
invariant-loop-item g l = l.copy.items ≡ take l.item-index l.item-items
