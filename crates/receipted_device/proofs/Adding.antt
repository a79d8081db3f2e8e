-- Sets that gain and lose receipts.
use Rattle.std.proofs.Common.{◌≡◌, ℕ, zero, suc, ◌+◌, ◌<◌, Bool, true, false, not, ◌&&◌, ◌||◌, ◌==◌, List, [], ◌∷◌, ◌++◌, length, get_or, take, sym, ap, ◌∙◌, arith}
use Rattle.std.specs.Prelude.{filter}
use Rattle.std.specs.BTreeSet.{Updates}
use Rattle.std.specs.declared.collections.BTreeSet.{BTreeSet}
use Rattle.std.specs.declared.alloc.Global.{Global}
use Rattle.std.proofs.lemmas.Bool.{and_parts, eqb-true}
use Rattle.std.proofs.lemmas.Bool.Decides.{nat_tests}
use Rattle.std.proofs.lemmas.List.{map-append}
use Rattle.std.proofs.lemmas.List.Folds.{list_any-append}
use Rattle.std.proofs.lemmas.Map.Views.{any-filter_same}
use Rattle.photo_version.specs.Author.{Author, same_author}
use Rattle.photo_version.specs.Version.{same_version}
use Rattle.photo_version.proofs.AuthorLemmas.{same_is}
use Rattle.photo_model.specs.Entry.{Entry}
use Rattle.photo_device.specs.declared.held.Held.{Held}
use Rattle.photo_device.specs.Held.{entry_of, entries_of}
use Rattle.photo_device.proofs.Counts.{same_version_is}
use Rattle.household_model.specs.Replica as model
use Rattle.receipted_device.specs.declared.receipt.Receipt.{Receipt}
use Rattle.receipted_device.specs.contracts.receipt.ReceiptOrd.TheImpl as order
use Rattle.receipted_device.specs.Receipts.{is_receipt, receipt_of, receipts_in}
use Rattle.receipted_device.proofs.SameReceipts.{inserted}

one_more : (xs : List Held) (i : ℕ) (x : Held) → i < length xs → x ≡ get_or xs i x → take (suc i) xs ≡ take i xs ++ x ∷ []
one_more [] i x within is = absurd (omega arith)
one_more (y ∷ ys) zero x within is = ap (λ z. z ∷ []) (sym is)
one_more (y ∷ ys) (suc i) x within is = ap (λ zs. y ∷ zs) (one_more ys i x (omega arith) is)

plus_one : (i : ℕ) → i + 1 ≡ suc i
plus_one i = omega arith

-- the receipts for a list that has one entry more
for_one_more : (giver : Author) (es : List Entry) (e : Entry) (q : model.Receipt) (k : Receipt) → k ≡ record { giver = giver; picture = e.picture; version = e.version }
    → model.receipts_for giver (es ++ e ∷ []) q ≡ (model.receipts_for giver es q || is_receipt q k)
for_one_more giver es e q k is =
    let both = list_any-append (λ (x : Entry). (x.picture == q.picture) && same_version x.version q.version) es (e ∷ []) in
    let one = ap (is_receipt q) is in
    grind (arith, nat_tests)

pub added : (old before after : BTreeSet Receipt Global) (giver : Author) (handed : List Held) (i : ℕ) (h : Held) (k : Receipt) → k ≡ record { giver = giver; picture = h.picture; version = h.version }
    → i < length handed → h ≡ get_or handed i h → Updates order.cmp-value.it before after k true
    → ((q : model.Receipt) → receipts_in before.keys q ≡ (receipts_in old.keys q || model.receipts_for giver (entries_of (take i handed)) q))
    → (q : model.Receipt) → receipts_in after.keys q ≡ (receipts_in old.keys q || model.receipts_for giver (entries_of (take (i + 1) handed)) q)
added old before after giver handed i h k is within here gains so_far q =
    let entries = ap entries_of (ap (λ n. take n handed) (plus_one i) ∙ one_more handed i h within here) ∙ map-append entry_of (take i handed) (h ∷ []) in
    let more = ap (λ es. model.receipts_for giver es q) entries ∙ for_one_more giver (entries_of (take i handed)) (entry_of h) q k is in
    let had = so_far q in
    let gained = inserted before after k gains q in
    grind arith

pub added_none : (giver : Author) (q : model.Receipt) → model.receipts_for giver [] q ≡ false
added_none giver q = grind arith

-- a receipt that stands for the model's is that one
stood_for : (q : model.Receipt) (r : Receipt) → is_receipt q r ≡ true → receipt_of r ≡ q
stood_for q r stands =
    let parts = and_parts (same_author q.giver r.giver) ((q.picture == r.picture) && same_version q.version r.version) stands in
    let both = and_parts (q.picture == r.picture) (same_version q.version r.version) parts.1 in
    let giver = sym (same_is q.giver r.giver parts.0) in
    let picture = sym (eqb-true q.picture r.picture both.0) in
    let version = sym (same_version_is q.version r.version both.1) in
    λ i. record { giver = giver i; picture = picture i; version = version i }

-- the receipts that are left of those of which some are forgotten
pub left_receipts : (forgotten : model.Receipts) (list left : List Receipt) → left ≡ filter (λ r. not (forgotten (receipt_of r))) list → (q : model.Receipt) → receipts_in left q ≡ (receipts_in list q && not (forgotten q))
left_receipts forgotten list left left_is q =
    ap (λ rs. receipts_in rs q) left_is
    ∙ any-filter_same (is_receipt q) (λ (r : Receipt). not (forgotten (receipt_of r))) (not (forgotten q)) (λ r stands. ap (λ (x : model.Receipt). not (forgotten x)) (stood_for q r stands)) list
    ∙ swapped (not (forgotten q)) (receipts_in list q)
  where
    swapped : (a b : Bool) → (a && b) ≡ (b && a)
    swapped a b = grind arith
