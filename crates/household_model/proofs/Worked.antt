-- The worked households, by computing.
use Rattle.std.proofs.Common.{refl}
use Rattle.household_model.specs.Examples.{ReceiptsAreSettled, ReceiptsComeTooLate, NothingHappens, NothingIsLost}

pub receipts_are_settled : ReceiptsAreSettled
receipts_are_settled = record {
  taken_by_server = refl;
  unreceipted = refl;
  waits = refl;
  handed = refl;
  receipted = refl;
  held_by_both = refl;
  late = refl;
  still_receipted = refl;
  settled = refl;
  held_by_server = refl;
  obsolete = refl;
  handed_to_hall = refl;
  settled_by_server = refl;
  no_more = refl;
  held_by_hall = refl;
  none_left = refl;
  kept = refl;
}

pub receipts_come_too_late : ReceiptsComeTooLate
receipts_come_too_late = record {
  handed = refl;
  receipted = refl;
  kept_in_store = refl;
  not_settled = refl;
  still_held = refl;
  both_pictures = refl;
  still_waits = refl;
  handed_in_third = refl;
  settled = refl;
  held_by_others = refl;
  obsolete = refl;
  of_third = refl;
  of_second = refl;
  kept = refl;
}

pub nothing_happens : NothingHappens
nothing_happens = record {
  same_epoch = refl;
  earlier_epoch = refl;
  above_the_last = refl;
  not_covered = refl;
  no_replica_there = refl;
  no_copy_there = refl;
  own_copy = refl;
}

pub nothing_is_lost : NothingIsLost
nothing_is_lost = record {
  with_second = refl;
  merely_known = refl;
  with_first = refl;
  of_earlier_epoch = refl;
}
