-- Lists of receipts, as sets.
use Rattle.std.proofs.Common.{◌≡◌, Bool, true, false, not, eqb, ◌&&◌, ◌||◌, List, [], ◌∷◌, ◌++◌, refl, sym, ap, ◌∙◌}
use Rattle.std.specs.Prelude.{filter, map}
use Rattle.std.proofs.lemmas.Bool.{and_parts, and_right, eqb-true}
use Rattle.std.proofs.lemmas.List.Folds.{list_any-append}
use Rattle.std.proofs.lemmas.Map.Views.{any-filter_same}
use Rattle.photo_version.specs.Author.{Author, same_author}
use Rattle.photo_version.specs.Version.{same_version}
use Rattle.photo_version.proofs.AuthorLemmas.{same_is}
use Rattle.photo_model.specs.Device.{ModelDevice}
use Rattle.photo_model.specs.Pull.{handed}
use Rattle.fleet_model.proofs.Superseding.{same_version_is}
use Rattle.household_model.specs.Replica.{Receipt, Receipts, has_entry_of, receipts_for}
use Rattle.test_list_device.specs.declared.list_entry.ListEntry.{ListEntry}
use Rattle.test_list_device.specs.declared.list_replica.ListReceipt.{ListReceipt}
use Rattle.test_list_device.specs.Entries.{entries_of}
use Rattle.test_list_device.specs.Replicas.{receipt_of, receipts_in}

-- the list receipt stands for this one
abbrev stands_for : Receipt → ListReceipt → Bool
stands_for q r = same_author q.giver r.giver && (eqb r.picture q.picture && same_version r.version q.version)

stood_for : (q : Receipt) (r : ListReceipt) → stands_for q r ≡ true → receipt_of r ≡ q
stood_for q r stands =
    let parts = and_parts (same_author q.giver r.giver) (eqb r.picture q.picture && same_version r.version q.version) stands in
    let both = and_parts (eqb r.picture q.picture) (same_version r.version q.version) parts.1 in
    let giver = sym (same_is q.giver r.giver parts.0) in
    let picture = eqb-true r.picture q.picture both.0 in
    let version = same_version_is r.version q.version both.1 in
    λ i. record { giver = giver i; picture = picture i; version = version i }

swapped : (a b : Bool) → (a && b) ≡ (b && a)
swapped true true = refl
swapped true false = refl
swapped false true = refl
swapped false false = refl

-- the receipts of a list, without those that are forgotten
pub kept_receipts : (forgotten : Receipts) (list kept : List ListReceipt) → kept ≡ filter (λ r. not (forgotten (receipt_of r))) list
    → receipts_in kept ≡ (λ q. receipts_in list q && not (forgotten q))
kept_receipts forgotten list kept kept_is = ap receipts_in kept_is ∙ (λ i q.
    (any-filter_same (stands_for q) (λ (r : ListReceipt). not (forgotten (receipt_of r))) (not (forgotten q)) (λ r stands. ap (λ (x : Receipt). not (forgotten x)) (stood_for q r stands)) list
    ∙ swapped (not (forgotten q)) (receipts_in list q)) i)

-- the list receipt for an entry that the giver handed over
abbrev pub list_receipt : Author → ListEntry → ListReceipt
list_receipt giver e = record { giver = giver; picture = e.picture; version = e.version }

joined : (a b c : Bool) → ((a && b) || (a && c)) ≡ (a && (b || c))
joined true b c = refl
joined false b c = refl

given_in : (giver : Author) (given : List ListEntry) (q : Receipt) → receipts_in (map (list_receipt giver) given) q ≡ receipts_for giver (entries_of given) q
given_in giver [] q = sym (and_right (same_author q.giver giver) false refl)
given_in giver (e ∷ given) q =
    let mine = eqb e.picture q.picture && same_version e.version q.version in
    ap (λ (b : Bool). (same_author q.giver giver && mine) || b) (given_in giver given q)
    ∙ joined (same_author q.giver giver) mine (has_entry_of (entries_of given) q)

-- the receipts of a list, with those for what was handed over
pub more_receipts : (t s : ModelDevice) (old gained all : List ListReceipt) (given : List ListEntry) → gained ≡ map (list_receipt s.author) given → entries_of given ≡ handed t s → all ≡ old ++ gained
    → receipts_in all ≡ (λ q. receipts_in old q || receipts_for s.author (handed t s) q)
more_receipts t s old gained all given gained_are given_are all_are = ap receipts_in all_are ∙ (λ i q.
    (list_any-append (stands_for q) old gained
    ∙ ap (λ (b : Bool). receipts_in old q || b)
    (ap (λ (list : List ListReceipt). receipts_in list q) gained_are ∙ given_in s.author given q ∙ ap (λ es. receipts_for s.author es q) given_are)) i)
