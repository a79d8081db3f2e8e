-- Replicas: devices with receipts. A copy is a replica as it once was. Settling by a copy and taking from one change the replica
-- alone, and the copy stays unchanged.
use Rattle.std.specs.Prelude.{ℕ, Bool, not, ◌&&◌, ◌||◌, ◌==◌, nat_lt, List, length, filter}
use Rattle.std.specs.List.{list_any}
use Rattle.photo_version.specs.Author.{Author, device_of_author, epoch_of_author, same_author, is_earlier_epoch}
use Rattle.photo_version.specs.Version.{Version, same_version}
use Rattle.photo_model.specs.Entry.{Entry}
use Rattle.photo_model.specs.Device.{ModelDevice, holds, known}
use Rattle.photo_model.specs.Pull.{handed, pulled}

-- the giver, a device in an epoch, handed over this version of this picture out of its out
pub record Receipt : Type 0 where
  pub giver : Author
  pub picture : ℕ
  pub version : Version

-- a set of receipts, given as a membership test
abbrev pub Receipts : Type 0
Receipts = Receipt → Bool

-- the receipt for an entry that the giver handed over
abbrev pub receipt_for : Author → Entry → Receipt
receipt_for giver e = record { giver = giver; picture = e.picture; version = e.version }

-- a device, and the receipts for what others handed over to it
pub record Replica : Type 0 where
  pub device : ModelDevice
  pub receipts : Receipts

-- the replica is one of the n-th device, in whatever epoch
abbrev pub is_of : ℕ → Replica → Bool
is_of n r = device_of_author r.device.author == n

-- the epoch, which a refiltering may begin, is later than the device's present one, and at most 4,294,967,295
abbrev pub may_begin : ℕ → ModelDevice → Bool
may_begin epoch d = nat_lt (epoch_of_author d.author) epoch && nat_lt epoch 4294967296

-- Settling: the replica gives up, from its out, what a copy has receipts for.

-- the copy has a receipt for the entry, given by the device's present author
abbrev pub is_receipted : ModelDevice → Replica → Entry → Bool
is_receipted d copy e = copy.receipts (receipt_for d.author e)

-- the replica after settling by a copy
abbrev pub after_settling : Replica → Replica → Replica
after_settling r copy = record r { device = record r.device { out = filter (λ e. not (is_receipted r.device copy e)) r.device.out } }

-- how many entries leave the out
abbrev pub count_settled : Replica → Replica → ℕ
count_settled r copy = length (filter (is_receipted r.device copy) r.device.out)

-- Taking: the replica's device pulls from a copy's, and the replica gains a receipt for each entry that was handed over.

-- one of the entries has the receipt's picture and version
abbrev pub has_entry_of : List Entry → Receipts
has_entry_of entries q = list_any (λ e. (e.picture == q.picture) && same_version e.version q.version) entries

-- the receipts for these entries of the giver's out
abbrev pub receipts_for : Author → List Entry → Receipts
receipts_for giver entries = λ q. same_author q.giver giver && has_entry_of entries q

-- the replica after taking from a copy
abbrev pub after_taking : Replica → Replica → Replica
after_taking r copy = record {
  device = pulled r.device copy.device;
  receipts = λ q. r.receipts q || receipts_for copy.device.author (handed r.device copy.device) q;
}

-- Forgetting: the replica loses any of its receipts.

-- the replica after forgetting these receipts
abbrev pub after_forgetting : Receipts → Replica → Replica
after_forgetting forgotten r = record r { receipts = λ q. r.receipts q && not (forgotten q) }

-- a copied device shows the receipt to be obsolete: it is in a later epoch than the giver; or it is the giver, and knows the
-- version and no longer holds it
abbrev pub is_obsolete : ModelDevice → Receipts
is_obsolete copied q = is_earlier_epoch q.giver copied.author
    || (same_author q.giver copied.author && (known copied q.picture q.version && not (has_entry_of (holds copied) q)))

-- A pull from a copy: the replica settles by it, takes from it, and forgets the receipts that it shows to be obsolete.

-- the replica after a pull from a copy
abbrev pub after_pulling : Replica → Replica → Replica
after_pulling r copy = after_forgetting (is_obsolete copy.device) (after_taking (after_settling r copy) copy)
