-- Which receipts a copied device shows to be obsolete.
use Rattle.std.proofs.Common.{◌≡◌, ◌<◌, Bool, true, not, ◌&&◌, List, [], ◌∷◌, refl, ap, arith}
use Rattle.std.specs.Prelude.{Option, None, Some}
use Rattle.std.specs.Borrow.{Bor}
use Rattle.std.specs.Option.{is_some, option_map, option_copied}
use Rattle.std.proofs.lemmas.Bool.Decides.{nat_tests}
use Rattle.photo_version.specs.Author.{Author, same_author}
use Rattle.item_knowledge.specs.Fragments.{knows}
use Rattle.photo_model.specs.Entry.{Entry, find_entry}
use Rattle.photo_model.specs.Device.{ModelDevice, holds}
use Rattle.photo_device.specs.declared.held.Held.{Held}
use Rattle.photo_device.specs.Held.{entry_of}
use Rattle.photo_device.specs.Device.{Kept, Shows}
use Rattle.household_model.specs.Replica as model
use Rattle.receipted_device.specs.declared.receipt.Receipt.{Receipt}
use Rattle.receipted_device.specs.Receipts.{receipt_of}

-- an entry that a search finds is among the entries
found_is_held : (q : model.Receipt) (es : List Entry) → is_some (find_entry q.picture q.version es) ≡ model.has_entry_of es q
found_is_held q [] = refl
found_is_held q (e ∷ es) = let rest = found_is_held q es in grind arith

-- the giver itself shows a receipt to be obsolete where it knows the version and no longer holds it
pub given_up : (copied : Kept) (c : ModelDevice) (r : Receipt) (known held : Bool) → Shows copied c → 0 < r.picture → same_author r.giver copied.author ≡ true
    → known ≡ knows copied.knowledge r.picture r.version → held ≡ is_some (find_entry r.picture r.version (holds c)) → (known && not held) ≡ model.is_obsolete c (receipt_of r)
given_up copied c r known held shows above same known_is held_is =
    let author = ap (λ (a : Author). same_author r.giver a) shows.author in
    let knows_it = shows.known r.picture above r.version in
    let found = found_is_held (receipt_of r) (holds c) in
    grind (arith, nat_tests)

-- what shows an entry is there where the entry is
pub shown_some : (held : Option (Bor Held)) (e : Option Entry) → option_map entry_of (option_copied held) ≡ e → is_some held ≡ is_some e
shown_some None e is = ap is_some is
shown_some (Some h) e is = ap is_some is
