-- The merge of two lists in order.
use Rattle.std.proofs.Common.{◌≡◌, ℕ, suc, ◌≤◌, Bool, true, ltb, eqb, cond, ◌&&◌, List, [], ◌∷◌, length, refl, subst, ap, ◌∙◌, arith}
use Rattle.std.specs.List.{list_all}
use Rattle.std.proofs.lemmas.Bool.{and_parts, and_from}
use Rattle.std.proofs.lemmas.Bool.Decides.{nat_tests}
use Rattle.item_knowledge.specs.Tables.{keys_pass, in_order, at, put, each, merge}

-- a test that holds above holds
pub keys_pass-weaker : {A : Type 0} (p q : ℕ → Bool) → ((k : ℕ) → p k ≡ true → q k ≡ true) → (xs : List (ℕ × A)) → keys_pass p xs ≡ true → keys_pass q xs ≡ true
keys_pass-weaker p q w [] h = refl
keys_pass-weaker p q w (x ∷ xs) h = grind (arith, nat_tests, w x.0, keys_pass-weaker p q w xs)

pub above_all : {A : Type 0} (n m : ℕ) (xs : List (ℕ × A)) → n ≤ m → keys_pass (λ k. ltb m k) xs ≡ true → keys_pass (λ k. ltb n k) xs ≡ true
above_all n m xs l h = keys_pass-weaker (λ k. ltb m k) (λ k. ltb n k) (λ k e. grind (arith, nat_tests)) xs h

-- above a number stands nothing at it
pub at_above : {A : Type 0} (d : A) (xs : List (ℕ × A)) (k : ℕ) → keys_pass (λ n. ltb k n) xs ≡ true → at d xs k ≡ d
at_above d [] k h = refl
at_above d (x ∷ xs) k h = grind (arith, nat_tests, at_above d xs k)

put_first : {A C : Type 0} (alone : A → C) (both : A → C → C) (x : ℕ × A) (ts : List (ℕ × C)) → keys_pass (λ k. ltb x.0 k) ts ≡ true → put alone both x ts ≡ (x.0, alone x.1) ∷ ts
put_first alone both x [] h = refl
put_first alone both x (t ∷ ts) h = grind (arith, nat_tests)

pub put_length : {A C : Type 0} (alone : A → C) (both : A → C → C) (x : ℕ × A) (ts : List (ℕ × C)) → length (put alone both x ts) ≤ suc (length ts)
put_length alone both x [] = omega arith
put_length alone both x (t ∷ ts) = grind (arith, nat_tests, put_length alone both x ts)

-- what holds of all rows of both holds of all of the merge

put_all : {A C : Type 0} (alone : A → C) (both : A → C → C) (test : ℕ × C → Bool) (x : ℕ × A) (ts : List (ℕ × C)) → test (x.0, alone x.1) ≡ true → ((t : ℕ × C) → test t ≡ true → test (x.0, both x.1 t.1) ≡ true) → list_all test ts ≡ true → list_all test (put alone both x ts) ≡ true
put_all alone both test x [] p w h = and_from _ _ p refl
put_all alone both test x (t ∷ ts) p w h = grind (arith, nat_tests, w t, put_all alone both test x ts p w)

each_all : {B C : Type 0} (other : B → C) (q : ℕ × B → Bool) (test : ℕ × C → Bool) → ((y : ℕ × B) → q y ≡ true → test (y.0, other y.1) ≡ true) → (ys : List (ℕ × B)) → list_all q ys ≡ true → list_all test (each other ys) ≡ true
each_all other q test w [] h = refl
each_all other q test w (y ∷ ys) h = grind (arith, nat_tests, w y, each_all other q test w ys)

pub merge_all : {A B C : Type 0} (alone : A → C) (both : A → C → C) (other : B → C) (p : ℕ × A → Bool) (q : ℕ × B → Bool) (test : ℕ × C → Bool) → ((x : ℕ × A) → p x ≡ true → test (x.0, alone x.1) ≡ true) → ((x : ℕ × A) (t : ℕ × C) → p x ≡ true → test t ≡ true → test (x.0, both x.1 t.1) ≡ true) → ((y : ℕ × B) → q y ≡ true → test (y.0, other y.1) ≡ true)
    → (xs : List (ℕ × A)) (ys : List (ℕ × B)) → list_all p xs ≡ true → list_all q ys ≡ true → list_all test (merge alone both other xs ys) ≡ true
merge_all alone both other p q test f g w [] ys h k = each_all other q test w ys k
merge_all alone both other p q test f g w (x ∷ xs) ys h k =
    let a = and_parts (p x) (list_all p xs) h in
    put_all alone both test x (merge alone both other xs ys) (f x a.0) (λ t. g x t a.0) (merge_all alone both other p q test f g w xs ys a.1 k)

pub merge_pass : {A B C : Type 0} (alone : A → C) (both : A → C → C) (other : B → C) (test : ℕ → Bool) (xs : List (ℕ × A)) (ys : List (ℕ × B)) → keys_pass test xs ≡ true → keys_pass test ys ≡ true → keys_pass test (merge alone both other xs ys) ≡ true
merge_pass alone both other test xs ys h g = merge_all alone both other (λ x. test x.0) (λ y. test y.0) (λ t. test t.0) (λ x e. e) (λ x t e d. e) (λ y e. e) xs ys h g

-- the steps of a loop

pub merge_left : {A B C : Type 0} (alone : A → C) (both : A → C → C) (other : B → C) (x : ℕ × A) (xs : List (ℕ × A)) (ys : List (ℕ × B)) → keys_pass (λ k. ltb x.0 k) xs ≡ true → keys_pass (λ k. ltb x.0 k) ys ≡ true → merge alone both other (x ∷ xs) ys ≡ (x.0, alone x.1) ∷ merge alone both other xs ys
merge_left alone both other x xs ys h g = put_first alone both x _ (merge_pass alone both other _ xs ys h g)

pub merge_right : {A B C : Type 0} (alone : A → C) (both : A → C → C) (other : B → C) (xs : List (ℕ × A)) (y : ℕ × B) (ys : List (ℕ × B)) → keys_pass (λ k. ltb y.0 k) xs ≡ true → merge alone both other xs (y ∷ ys) ≡ (y.0, other y.1) ∷ merge alone both other xs ys
merge_right alone both other [] y ys h = refl
merge_right alone both other (x ∷ xs) y ys h = grind (arith, nat_tests, merge_right alone both other xs y ys)

pub merge_both : {A B C : Type 0} (alone : A → C) (both : A → C → C) (other : B → C) (x : ℕ × A) (xs : List (ℕ × A)) (y : ℕ × B) (ys : List (ℕ × B)) → x.0 ≡ y.0 → keys_pass (λ k. ltb x.0 k) xs ≡ true → merge alone both other (x ∷ xs) (y ∷ ys) ≡ (x.0, both x.1 (other y.1)) ∷ merge alone both other xs ys
merge_both alone both other x xs y ys e h =
    let rest = merge_right alone both other xs y ys (subst (λ n. keys_pass (λ k. ltb n k) xs ≡ true) e h) in
    grind (arith, nat_tests)

-- the merge is in order

put_order : {A C : Type 0} (alone : A → C) (both : A → C → C) (x : ℕ × A) (ts : List (ℕ × C)) → in_order ts ≡ true → in_order (put alone both x ts) ≡ true
put_order alone both x [] h = refl
put_order alone both x (t ∷ ts) h = grind (arith, nat_tests, above_all x.0 t.0 ts, put_all alone both (λ u. ltb t.0 u.0) x ts, put_order alone both x ts)

pub each_keys : {B C : Type 0} (other : B → C) (test : ℕ → Bool) (ys : List (ℕ × B)) → keys_pass test (each other ys) ≡ keys_pass test ys
each_keys other test [] = refl
each_keys other test (y ∷ ys) = ap (λ b. test y.0 && b) (each_keys other test ys)

pub each_order : {B C : Type 0} (other : B → C) (ys : List (ℕ × B)) → in_order (each other ys) ≡ in_order ys
each_order other [] = refl
each_order other (y ∷ ys) = λ i. each_keys other (λ k. ltb y.0 k) ys i && each_order other ys i

pub merge_order : {A B C : Type 0} (alone : A → C) (both : A → C → C) (other : B → C) (xs : List (ℕ × A)) (ys : List (ℕ × B)) → in_order ys ≡ true → in_order (merge alone both other xs ys) ≡ true
merge_order alone both other [] ys h = each_order other ys ∙ h
merge_order alone both other (x ∷ xs) ys h = put_order alone both x _ (merge_order alone both other xs ys h)

-- what stands beside a number in the merge

put_at : {A C : Type 0} (alone : A → C) (both : A → C → C) (d : C) → ((a : A) → alone a ≡ both a d) → (x : ℕ × A) (ts : List (ℕ × C)) (k : ℕ) → in_order ts ≡ true → at d (put alone both x ts) k ≡ cond (eqb x.0 k) (both x.1 (at d ts k)) (at d ts k)
put_at alone both d e x [] k h = grind (arith, nat_tests, e x.1)
put_at alone both d e x (t ∷ ts) k h = grind (arith, nat_tests, e x.1, at_above d ts k, above_all x.0 t.0 ts, put_at alone both d e x ts k)

pub each_at : {B C : Type 0} (other : B → C) (d : B) (ys : List (ℕ × B)) (k : ℕ) → at (other d) (each other ys) k ≡ other (at d ys k)
each_at other d [] k = refl
each_at other d (y ∷ ys) k = grind (arith, nat_tests, each_at other d ys k)

pub merge_at : {A B C : Type 0} (alone : A → C) (both : A → C → C) (other : B → C) (d : A) (e : B) → ((a : A) → alone a ≡ both a (other e)) → ((b : B) → other b ≡ both d (other b)) → (xs : List (ℕ × A)) (ys : List (ℕ × B)) → in_order xs ≡ true → in_order ys ≡ true → (k : ℕ) → at (other e) (merge alone both other xs ys) k ≡ both (at d xs k) (other (at e ys k))
merge_at alone both other d e f g [] ys h o k = each_at other e ys k ∙ g (at e ys k)
merge_at alone both other d e f g (x ∷ xs) ys h o k =
    let one = put_at alone both (other e) f x (merge alone both other xs ys) k (merge_order alone both other xs ys o) in
    grind (arith, nat_tests, one, g (at e ys k), at_above d xs k, merge_at alone both other d e f g xs ys)
