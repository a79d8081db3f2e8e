-- Worked examples: which receipts a list has, and what settling by a copy leaves of a device's out.
use Rattle.std.specs.Prelude.{◌≡◌, true, false, pos, [], ◌∷◌}
use Rattle.photo_record.specs.declared.record.Record.TheVariants.{Picture}
use Rattle.photo_filter_text.specs.Tree.{All}
use Rattle.photo_version.specs.Author.{author_at}
use Rattle.photo_version.specs.Version.{version}
use Rattle.photo_model.specs.Entry.{Entry}
use Rattle.photo_model.specs.Device.{ModelDevice, opening}
use Rattle.household_model.specs.Replica as model
use Rattle.household_model.specs.Household.{new_replica}
use Rattle.receipted_device.specs.declared.receipt.Receipt.{Receipt}
use Rattle.receipted_device.specs.Receipts.{receipt_of, receipts_in}
use Rattle.receipted_device.specs.Settling.{settled}

-- the camera, in its first epoch, handed over its first version, of picture 8
abbrev pub given : Receipt
given = record { giver = author_at 0 0; picture = 8; version = version (author_at 0 0) 1 }

-- that version
abbrev pub shot : Entry
shot = record { picture = 8; version = version (author_at 0 0) 1; history = λ v. false; content = Picture 1 (pos 19_844) [] }

-- the camera, which has the version in its out
abbrev pub camera : ModelDevice
camera = record (opening (author_at 0 0) All) { counter = 1; out = shot ∷ [] }

-- a server with the receipt
abbrev pub server : model.Replica
server = record (new_replica (opening (author_at 1 0) All)) { receipts = receipts_in (given ∷ []) }

-- which receipts the list has
pub record TheReceipts : Type 0 where
  pub itself : receipts_in (given ∷ []) (receipt_of given) ≡ true
  pub of_another_epoch : receipts_in (given ∷ []) (record (receipt_of given) { giver = author_at 0 1 }) ≡ false
  pub of_another_picture : receipts_in (given ∷ []) (record (receipt_of given) { picture = 7 }) ≡ false
  pub of_another_version : receipts_in (given ∷ []) (record (receipt_of given) { version = version (author_at 0 0) 2 }) ≡ false

-- what settling by the server leaves of the camera's out
pub record TheSettling : Type 0 where
  pub receipted : (settled camera server).out ≡ []
  -- the camera has begun another epoch since
  pub begun_since : (settled (record camera { author = author_at 0 1 }) server).out ≡ shot ∷ []
  pub no_receipt : (settled camera (new_replica (opening (author_at 1 0) All))).out ≡ shot ∷ []
