-- A set of receipts in their order, and the model's set that it shows.
use Rattle.std.proofs.Common.{◌≡◌, ℕ, Bool, true, ◌&&◌, ◌||◌, ◌==◌, List, [], ◌∷◌, cond, refl, sym, ◌∙◌, arith}
use Rattle.std.specs.List.{list_any}
use Rattle.std.specs.BTreeMap.{is_at}
use Rattle.std.specs.BTreeSet.{Updates}
use Rattle.std.specs.declared.collections.BTreeSet.{BTreeSet}
use Rattle.std.specs.declared.alloc.Global.{Global}
use Rattle.std.specs.Ordering.{is_eq, nat_cmp, ordering_then}
use Rattle.std.specs.Cmp.{tied_then}
use Rattle.std.proofs.lemmas.Bool.Decides.{nat_tests}
use Rattle.std.proofs.lemmas.Grind.{common_steps}
use Rattle.household_model.specs.Replica as model
use Rattle.receipted_device.specs.declared.receipt.Receipt.{Receipt}
use Rattle.receipted_device.specs.contracts.receipt.ReceiptOrd.TheImpl as order
use Rattle.receipted_device.specs.Receipts.{is_receipt, receipt_of, receipts_in}

tied : (x y : ℕ) → is_eq (nat_cmp x y) ≡ (x == y)
tied x y = grind (arith, nat_tests, common_steps)

-- receipts of which neither comes before the other are one
is_same : (k r : Receipt) → is_at (order.cmp-value.it k) r ≡ is_receipt (receipt_of k) r
is_same k r =
    let of_version = sym (tied_then (nat_cmp k.version.author.word r.version.author.word) (nat_cmp k.version.number r.version.number))
    ∙ (λ i. tied k.version.author.word r.version.author.word i && tied k.version.number r.version.number i) in
    let of_picture = sym (tied_then (nat_cmp k.picture r.picture) (ordering_then (nat_cmp k.version.author.word r.version.author.word) (nat_cmp k.version.number r.version.number)))
    ∙ (λ i. tied k.picture r.picture i && of_version i) in
    sym (tied_then (nat_cmp k.giver.word r.giver.word) (ordering_then (nat_cmp k.picture r.picture) (ordering_then (nat_cmp k.version.author.word r.version.author.word) (nat_cmp k.version.number r.version.number))))
    ∙ (λ i. tied k.giver.word r.giver.word i && of_picture i)

-- so a search finds what the model's set has
pub has_same : (k : Receipt) (rs : List Receipt) → list_any (is_at (order.cmp-value.it k)) rs ≡ receipts_in rs (receipt_of k)
has_same k [] = refl
has_same k (r ∷ rs) = λ i. is_same k r i || has_same k rs i

-- the receipt of the program that the model's one is
abbrev key_of : model.Receipt → Receipt
key_of q = record { giver = q.giver; picture = q.picture; version = q.version }

turned : (k : Receipt) (q : model.Receipt) → is_receipt (receipt_of k) (key_of q) ≡ is_receipt q k
turned k q = grind (arith, nat_tests)

-- a set that gains one receipt
pub inserted : (old new : BTreeSet Receipt Global) (k : Receipt) → Updates order.cmp-value.it old new k true → (q : model.Receipt) → receipts_in new.keys q ≡ (receipts_in old.keys q || is_receipt q k)
inserted old new k gains q =
    let before = has_same (key_of q) old.keys in
    let at = is_same k (key_of q) ∙ turned k q in
    sym (has_same (key_of q) new.keys) ∙ gains.0 (key_of q) ∙ (λ i. cond (at i) true (before i)) ∙ by (is_receipt q k) (receipts_in old.keys q)
  where
    by : (b had : Bool) → cond b true had ≡ (had || b)
    by b had = grind arith
