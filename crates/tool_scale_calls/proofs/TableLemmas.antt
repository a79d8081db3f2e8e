-- A table that grows by one picture at a time.
use Rattle.std.proofs.Common.{◌≡◌, ℕ, ◌+◌, Bool, true, ltb, List, [], ◌∷◌, ◌++◌, refl, sym, subst, arith}
use Rattle.std.proofs.lemmas.Bool.{and_parts, and_from, lt-ltb, ltb-true}
use Rattle.item_knowledge.specs.Tables.{keys_pass, in_order}
use Rattle.item_knowledge.proofs.TableLemmas.{keys_pass-weaker}

pass_pushed : {A : Type 0} (test : ℕ → Bool) (xs : List (ℕ × A)) (x : ℕ × A) → keys_pass test xs ≡ true → test x.0 ≡ true → keys_pass test (xs ++ x ∷ []) ≡ true
pass_pushed test [] x h t = and_from _ _ t refl
pass_pushed test (y ∷ ys) x h t =
    let a = and_parts (test y.0) (keys_pass test ys) h in
    and_from _ _ a.0 (pass_pushed test ys x a.1 t)

order_pushed : {A : Type 0} (xs : List (ℕ × A)) (x : ℕ × A) → in_order xs ≡ true → keys_pass (λ k. ltb k x.0) xs ≡ true → in_order (xs ++ x ∷ []) ≡ true
order_pushed [] x h g = refl
order_pushed (y ∷ ys) x h g =
    let a = and_parts (keys_pass (λ k. ltb y.0 k) ys) (in_order ys) h in
    let b = and_parts (ltb y.0 x.0) (keys_pass (λ k. ltb k x.0) ys) g in
    and_from _ _ (pass_pushed (λ k. ltb y.0 k) ys x a.0 b.0) (order_pushed ys x a.1 b.1)

-- pictures up to the ith, in order
pub record IsTo {A : Type 0} (i : ℕ) (xs : List (ℕ × A)) : Type 0 where
  pub order : in_order xs ≡ true
  pub below : keys_pass (λ k. ltb k (i + 1)) xs ≡ true

pub one_more : {A : Type 0} (i : ℕ) (xs new : List (ℕ × A)) (x : ℕ × A) → IsTo i xs → x.0 ≡ i + 1 → new ≡ xs ++ x ∷ [] → IsTo (i + 1) new
one_more i xs new x h e is = subst (IsTo (i + 1)) (sym is) (record {
  order = order_pushed xs x h.order (keys_pass-weaker (λ k. ltb k (i + 1)) (λ k. ltb k x.0) (λ k t. let less = ltb-true k (i + 1) t in lt-ltb k x.0 (omega arith)) xs h.below);
  below = pass_pushed (λ k. ltb k (i + 1 + 1)) xs x
      (keys_pass-weaker (λ k. ltb k (i + 1)) (λ k. ltb k (i + 1 + 1)) (λ k t. let less = ltb-true k (i + 1) t in lt-ltb k (i + 1 + 1) (omega arith)) xs h.below)
      (lt-ltb x.0 (i + 1 + 1) (omega arith));
})
