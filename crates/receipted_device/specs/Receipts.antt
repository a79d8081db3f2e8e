-- Receipts as a device keeps them, and the model's receipts that a list of them shows.
use Rattle.std.specs.Prelude.{Bool, ◌&&◌, ◌==◌, List}
use Rattle.std.specs.List.{list_any}
use Rattle.photo_version.specs.Author.{same_author}
use Rattle.photo_version.specs.Version.{same_version}
use Rattle.household_model.specs.Replica as model
use Rattle.receipted_device.specs.declared.receipt.Receipt.{Receipt}

-- the model's receipt is this one
abbrev pub is_receipt : model.Receipt → Receipt → Bool
is_receipt q r = same_author q.giver r.giver && ((q.picture == r.picture) && same_version q.version r.version)

-- the set of the receipts in a list
abbrev pub receipts_in : List Receipt → model.Receipts
receipts_in list = λ q. list_any (is_receipt q) list

-- the model's receipt that this one is
abbrev pub receipt_of : Receipt → model.Receipt
receipt_of r = record { giver = r.giver; picture = r.picture; version = r.version }
