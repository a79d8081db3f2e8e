-- The model's receipts and replica that a list replica shows.
use Rattle.std.specs.Prelude.{◌&&◌, ◌==◌, List}
use Rattle.std.specs.List.{list_any}
use Rattle.photo_version.specs.Author.{same_author}
use Rattle.photo_version.specs.Version.{same_version}
use Rattle.household_model.specs.Replica.{Receipt, Receipts, Replica}
use Rattle.test_list_device.specs.declared.list_replica.ListReceipt.{ListReceipt}
use Rattle.test_list_device.specs.declared.list_replica.ListReplica.{ListReplica}
use Rattle.test_list_device.specs.Shown.{shown}

-- the receipt that a list receipt stands for
abbrev pub receipt_of : ListReceipt → Receipt
receipt_of r = record { giver = r.giver; picture = r.picture; version = r.version }

-- the set of the receipts in a list
abbrev pub receipts_in : List ListReceipt → Receipts
receipts_in list = λ q. list_any (λ r. same_author q.giver r.giver && ((r.picture == q.picture) && same_version r.version q.version)) list

-- the replica that a list replica shows
abbrev pub replica_shown : ListReplica → Replica
replica_shown r = record { device = shown r.device; receipts = receipts_in r.receipts.items }
