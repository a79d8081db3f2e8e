-- Tables of what is told of pictures.
use Rattle.std.proofs.Common.{◌≡◌, ℕ, ◌≤◌, Bool, true, false, not, cond, eqb, ltb, leb, ◌&&◌, ◌||◌, List, [], ◌∷◌, ◌++◌, length-append, refl, sym, ap, ◌∙◌, arith}
use Rattle.std.specs.List.{list_all, list_any}
use Rattle.std.proofs.Math.Bool.{and-true}
use Rattle.std.proofs.lemmas.Bool.Decides.{nat_tests}
use Rattle.std.proofs.lemmas.Bool.{and_parts, and_from, eqb-true, le-leb, ltb-true, ltb-false}
use Rattle.std.proofs.lemmas.List.Folds.{list_all-append}
use Rattle.photo_version.specs.Version.{Version, Versions, same_version}
use Rattle.photo_version.specs.Vector.{Bound, denotes}
use Rattle.item_knowledge.specs.Tables.{in_order, keys_pass, at}
use Rattle.item_knowledge.proofs.TableLemmas.{keys_pass-weaker}
use Rattle.photo_device.specs.declared.held.Held.{Held}
use Rattle.photo_device.specs.Resorted.{AreLeft, HasBesides, IsNextOf, is_second_next}
use Rattle.photo_device.specs.Held.{are_in_order, held_before}
use Rattle.photo_device.specs.Telling.{tells}
use Rattle.photo_device.proofs.Putting.{list_all_wider}
use Rattle.photo_device.proofs.TellingLemmas.{one}

abbrev pub Table : Type 0
Table = List (ℕ × List Bound)

-- what is left of two lists, and which of them is next

least_from : (n : ℕ) (x : Held) (xs : List Held) → n ≤ x.picture → are_in_order (x ∷ xs) ≡ true → list_all (λ (z : Held). leb n z.picture) (x ∷ xs) ≡ true
least_from n x xs l order =
    and_from _ _ (le-leb n x.picture l)
    (list_all_wider (held_before x) (λ z. leb n z.picture) (λ z before. grind (arith, nat_tests)) xs (and_parts _ _ order).0)

-- one goes out of the midst of a list
any_between : (f : Held → Bool) (xs ys : List Held) (y : Held) → list_any f (xs ++ y ∷ ys) ≡ (f y || list_any f (xs ++ ys))
any_between f [] ys y = refl
any_between f (x ∷ xs) ys y = let rest = any_between f xs ys y in grind arith

-- the first list's is next
pub first_next : (x : Held) (all xs ys : List Held) → all ≡ x ∷ xs → AreLeft all ys → is_second_next all ys ≡ false → IsNextOf x (all ++ ys) (xs ++ ys)
first_next x all xs ys is = rw is (λ left first.
    let rest = least_from x.picture x xs (omega arith) left.xs_order in
    record {
      earlier = left.xs_earlier.0;
      least = list_all-append (λ (z : Held). leb x.picture z.picture) xs ys ∙ and_from _ _ (and_parts _ _ rest).1 (others ys left.ys_order first);
      rest = λ f. refl;
      fewer = omega arith;
    })
  where
    others : (ys : List Held) → are_in_order ys ≡ true → is_second_next (x ∷ xs) ys ≡ false → list_all (λ (z : Held). leb x.picture z.picture) ys ≡ true
    others [] order first = refl
    others (y ∷ ys) order first = least_from x.picture y ys (ltb-false y.picture x.picture first) order

-- the second's is
pub second_next : (xs : List Held) (y : Held) (all ys : List Held) → all ≡ y ∷ ys → AreLeft xs all → is_second_next xs all ≡ true → IsNextOf y (xs ++ all) (xs ++ ys)
second_next xs y all ys is = rw is (λ left second.
    let rest = least_from y.picture y ys (omega arith) left.ys_order in
    record {
      earlier = left.ys_earlier.0;
      least = list_all-append (λ (z : Held). leb y.picture z.picture) xs ys ∙ and_from _ _ (others xs left.xs_order second) (and_parts _ _ rest).1;
      rest = λ f. any_between f xs ys y;
      fewer = let with = length-append xs (y ∷ ys) in let without = length-append xs ys in omega (arith, with, without);
    })
  where
    others : (xs : List Held) → are_in_order xs ≡ true → is_second_next xs (y ∷ ys) ≡ true → list_all (λ (z : Held). leb y.picture z.picture) xs ≡ true
    others [] order second = refl
    others (x ∷ xs) order second = let less = ltb-true y.picture x.picture second in least_from y.picture x xs (omega arith) order

-- a table tells what of a list is not left, and its pictures are none greater than one that is
pub record IsTableBefore (table : Table) (left all : List Held) : Type 0 where
  pub order : in_order table ≡ true
  pub below : list_any (λ (x : Held). not (keys_pass (λ k. leb k x.picture) table)) left ≡ false
  pub told : (p : ℕ) (v : Version) → (denotes (at [] table p) v || tells left p v) ≡ tells all p v

none_beyond : (table : Table) (n : ℕ) (left : List Held) → keys_pass (λ k. leb k n) table ≡ true → list_all (λ (x : Held). leb n x.picture) left ≡ true
    → list_any (λ (x : Held). not (keys_pass (λ k. leb k x.picture) table)) left ≡ false
none_beyond table n [] all least = refl
none_beyond table n (x ∷ left) all least =
    let parts = and_parts _ _ least in
    let here = keys_pass-weaker (λ k. leb k n) (λ k. leb k x.picture) (λ k h. grind (arith, nat_tests)) table all in
    let rest = none_beyond table n left all parts.1 in
    grind arith

-- all of them are left yet
pub none_told : (table : Table) (all : List Held) → table ≡ [] → IsTableBefore table all all
none_told table all none = rw none record { order = refl; below = passed all; told = λ p v. refl }
  where
    passed : (left : List Held) → list_any (λ (x : Held). not (keys_pass {A = List Bound} (λ k. leb k x.picture) [])) left ≡ false
    passed [] = refl
    passed (x ∷ left) = passed left

-- one more
pub next_told : (table new : Table) (h : Held) (before left all : List Held) → IsNextOf h before left
    → HasBesides table new h.picture (λ v. denotes h.made_with v || same_version h.version v) → IsTableBefore table before all → IsTableBefore new left all
next_told table new h before left all next added so_far = record {
  order = added.order;
  below = none_beyond new h.picture left added.last next.least;
  told = λ p v. let now = added.told p v in let rest = next.rest (one p v) in let told = so_far.told p v in grind arith;
}

-- rows at the end of a table

none_at : (table : Table) (p q : ℕ) → keys_pass (λ k. ltb k q) table ≡ true → q ≤ p → at [] table p ≡ []
none_at [] p q all h = refl
none_at (r ∷ table) p q all h = let rest = none_at table p q in grind (arith, nat_tests)

at_end : (front : Table) (q : ℕ) (x : List Bound) (p : ℕ) → keys_pass (λ k. ltb k q) front ≡ true → at [] (front ++ (q, x) ∷ []) p ≡ cond (eqb q p) x (at [] front p)
at_end [] q x p all = refl
at_end (r ∷ front) q x p all = let rest = at_end front q x p in grind (arith, nat_tests)

keys_end : (f : ℕ → Bool) (front : Table) (q : ℕ) (x : List Bound) → keys_pass f (front ++ (q, x) ∷ []) ≡ (keys_pass f front && f q)
keys_end f front q x = list_all-append (λ (r : ℕ × List Bound). f r.0) front ((q, x) ∷ []) ∙ ap (λ b. keys_pass f front && b) (and-true (f q))

order_end : (front : Table) (q : ℕ) (x : List Bound) → in_order (front ++ (q, x) ∷ []) ≡ (in_order front && keys_pass (λ k. ltb k q) front)
order_end [] q x = refl
order_end (r ∷ front) q x = (λ i. keys_end (λ k. ltb r.0 k) front q x i && order_end front q x i) ∙ grind arith

-- a row behind all others
ends_with : (old front : Table) (picture : ℕ) (both : List Bound) (more : Versions) → in_order front ≡ true → keys_pass (λ k. ltb k picture) front ≡ true
    → ((p : ℕ) (v : Version) → denotes (cond (eqb picture p) both (at [] front p)) v ≡ (denotes (at [] old p) v || (eqb picture p && more v))) → HasBesides old (front ++ (picture, both) ∷ []) picture more
ends_with old front picture both more order below told = record {
  order = order_end front picture both ∙ and_from _ _ order below;
  last = keys_end (λ k. leb k picture) front picture both ∙ and_from _ _ (keys_pass-weaker (λ k. ltb k picture) (λ k. leb k picture) (λ k h. grind (arith, nat_tests)) front below) (le-leb picture picture (omega arith));
  told = λ p v. ap (λ l. denotes l v) (at_end front picture both p below) ∙ told p v;
}

-- as a row goes out and comes back

pub added_joined : (old front new : Table) (row : ℕ × List Bound) (picture : ℕ) (vector both : List Bound) → old ≡ front ++ row ∷ [] → eqb row.0 picture ≡ true → new ≡ front ++ (picture, both) ∷ []
    → in_order old ≡ true → ((v : Version) → denotes both v ≡ (denotes row.1 v || denotes vector v)) → HasBesides old new picture (denotes vector)
added_joined old front new row picture vector both of_old here of_new order is =
    let parts = and_parts (in_order front) (keys_pass (λ k. ltb k row.0) front) (sym (order_end front row.0 row.1) ∙ (rw of_old at order)) in
    let below : keys_pass (λ k. ltb k picture) front ≡ true = rw (← eqb-true row.0 picture here) parts.1 in
    rw (of_old, of_new) (ends_with (front ++ row ∷ []) front picture both (denotes vector) parts.0 below (λ p v. let was = at_end front row.0 row.1 p parts.1 in let joined = is v in grind (arith, nat_tests)))

pub added_apart : (old front between new : Table) (row : ℕ × List Bound) (picture : ℕ) (vector : List Bound) → old ≡ front ++ row ∷ [] → eqb row.0 picture ≡ false → between ≡ front ++ row ∷ [] → new ≡ between ++ (picture, vector) ∷ []
    → in_order old ≡ true → keys_pass (λ k. leb k picture) old ≡ true → HasBesides old new picture (denotes vector)
added_apart old front between new row picture vector of_old apart of_between of_new order all =
    let parts = and_parts (in_order front) (keys_pass (λ k. ltb k row.0) front) (sym (order_end front row.0 row.1) ∙ (rw of_old at order)) in
    let last = and_parts (keys_pass (λ k. leb k picture) front) (leb row.0 picture) (sym (keys_end (λ k. leb k picture) front row.0 row.1) ∙ (rw of_old at all)) in
    let less : ltb row.0 picture ≡ true = let most = last.1 in grind (arith, nat_tests) in
    let fronts = keys_pass-weaker (λ k. ltb k row.0) (λ k. ltb k picture) (λ k h. grind (arith, nat_tests)) front parts.1 in
    let below : keys_pass (λ k. ltb k picture) old ≡ true = rw of_old (keys_end (λ k. ltb k picture) front row.0 row.1 ∙ and_from _ _ fronts less) in
    rw (of_new, of_between, ← of_old) (ends_with old old picture vector (denotes vector) order below (λ p v. let none = none_at old p picture below in grind (arith, nat_tests)))
