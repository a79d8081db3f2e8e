-- A lawful order gives the same run as the order of the script.
use Rattle.std.proofs.Common.{◌≡◌, ◌≢◌, ℕ, zero, suc, ◌+◌, ◌<◌, ◌≤◌, Bool, cond, List, [], ◌∷◌, ◌++◌, length, refl, sym, ap, ◌∙◌, subst, arith}
use Rattle.std.specs.Prelude.{fold, Option}
use Rattle.std.specs.List.{AllByRecursion}
use Rattle.std.proofs.lemmas.List.Sums.{fold-append}
use Rattle.std.proofs.lemmas.Bool.{eq-eqb, ne_eqb}
use Rattle.fleet_model.specs.Contents.{Contents}
use Rattle.fleet_model.specs.Tallies.{totals_of}
use Rattle.fleet_model.specs.Answers.{ModelReport}
use Rattle.fleet_model.specs.Runs.{Fleet, step, opening_fleet, numbers_to}
use Rattle.photo_model.proofs.AllLemmas.{all_front, all_back, all_append}
use Rattle.photo_batcher.specs.Related.{AreRelated}
use Rattle.photo_batcher.specs.Orders.{times, KeepsOrder, AreSameRuns}
use Rattle.photo_batcher.specs.Laws.{LawfulOrdersAreTheRun, SameRunsHaveOneTotal}
use Rattle.photo_batcher.proofs.Counting.{split, none_is, all_map, all_both, times_append, times_cons, counts}
use Rattle.photo_batcher.proofs.Exchange.{same_itself, same_through, same_step, same_fold, exchange}

module _ (script : Contents) where
  -- a number can move behind numbers to which it isn't related
  moved_to_end : (f : Fleet) (n : ℕ) (after : List ℕ) → 0 < n → AllByRecursion (λ k. (0 < k) × (k ≢ n) × (AreRelated script n k → ⊥)) after → AreSameRuns (fold (step script) f (n ∷ after)) (fold (step script) f (after ++ n ∷ []))
  moved_to_end f n [] some free = same_itself _ _ refl
  moved_to_end f n (k ∷ after) some free =
      same_through _ (fold (step script) (step script (step script f k) n) after) _
      (same_fold script _ _ after (exchange script f n k some free.0.0 (λ e. free.0.1 (sym e)) free.0.2))
      (moved_to_end (step script f k) n after some free.1)

  order_behind : (before : List ℕ) (n : ℕ) (after : List ℕ) → KeepsOrder script (before ++ n ∷ after) → AllByRecursion (λ k. AreRelated script n k → n < k) after
  order_behind [] n after h = h.0
  order_behind (m ∷ before) n after h = order_behind before n after h.1

  order_without : (before : List ℕ) (n : ℕ) (after : List ℕ) → KeepsOrder script (before ++ n ∷ after) → KeepsOrder script (before ++ after)
  order_without [] n after h = h.1
  order_without (m ∷ before) n after h =
      let P = λ (k : ℕ). AreRelated script m k → m < k in
      (all_append P before after (all_front P before (n ∷ after) h.0) (all_back P before (n ∷ after) h.0).1, order_without before n after h.1)

  -- an order of the numbers from 1 to m
  record IsOrderTo (m : ℕ) (xs : List ℕ) : Type 0 where
    numbers : AllByRecursion (λ k. (0 < k) × (k ≤ m)) xs
    once : (k : ℕ) → 0 < k → k ≤ m → times k xs ≡ 1
    in_order : KeepsOrder script xs

  -- the order, with the last number taken out
  record IsLastOut (m : ℕ) (xs : List ℕ) : Type 0 where
    before : List ℕ
    after : List ℕ
    whole : xs ≡ before ++ suc m ∷ after
    rest : IsOrderTo m (before ++ after)
    free : AllByRecursion (λ k. (0 < k) × (k ≢ suc m) × (AreRelated script (suc m) k → ⊥)) after

  last_out : (m : ℕ) (xs : List ℕ) → IsOrderTo (suc m) xs → IsLastOut m xs
  last_out m xs o =
      let n = suc m in
      let here : times n xs ≡ 1 = o.once n (omega arith) (omega arith) in
      let s = split n xs (omega arith) in
      let counted : (k : ℕ) → times k xs ≡ times k s.before + (counts k n + times k s.after) = λ k. ap (times k) s.whole ∙ times_append k s.before (n ∷ s.after) ∙ ap (λ (t : ℕ). times k s.before + t) (times_cons k n s.after) in
      let self : counts n n ≡ 1 = ap (λ (b : Bool). cond {A = ℕ} b 1 0) (eq-eqb n n refl) in
      let all_counted = counted n in
      let none_before : times n s.before ≡ 0 = omega arith in
      let none_after : times n s.after ≡ 0 = omega arith in
      let P = λ (k : ℕ). (0 < k) × (k ≤ n) in
      let Q = λ (k : ℕ). (0 < k) × (k ≤ m) in
      let all : AllByRecursion P (s.before ++ n ∷ s.after) = subst (AllByRecursion P) s.whole o.numbers in
      let front : AllByRecursion P s.before = all_front P s.before (n ∷ s.after) all in
      let back : AllByRecursion P s.after = (all_back P s.before (n ∷ s.after) all).1 in
      let less : (k : ℕ) → P k × (k ≢ n) → Q k = λ k h. (h.0.0, below k m h.0.1 h.1) in
      let in_order : KeepsOrder script (s.before ++ n ∷ s.after) = subst (KeepsOrder script) s.whole o.in_order in
      let behind = order_behind s.before n s.after in_order in
      record {
        before = s.before;
        after = s.after;
        whole = s.whole;
        rest = record {
          numbers = all_append Q s.before s.after
              (all_map (λ k. P k × (k ≢ n)) Q s.before less (all_both P (λ k. k ≢ n) s.before front (none_is n s.before none_before)))
              (all_map (λ k. P k × (k ≢ n)) Q s.after less (all_both P (λ k. k ≢ n) s.after back (none_is n s.after none_after)));
          once = λ k some few. once_more _ _ _ _ _ (o.once k some (up k few)) (counted k) (ap (λ (b : Bool). cond {A = ℕ} b 1 0) (ne_eqb n k (λ e. above k few e))) (times_append k s.before s.after);
          in_order = order_without s.before n s.after in_order;
        };
        free = all_map (λ k. (P k × (k ≢ n)) × (AreRelated script n k → n < k)) (λ k. (0 < k) × (k ≢ n) × (AreRelated script n k → ⊥)) s.after (λ k h. (h.0.0.0, h.0.1, λ r. over k h.0.0.1 (h.1 r)))
            (all_both (λ k. P k × (k ≢ n)) (λ k. AreRelated script n k → n < k) s.after (all_both P (λ k. k ≢ n) s.after back (none_is n s.after none_after)) behind);
      }
    where
      below : (k m : ℕ) → k ≤ suc m → k ≢ suc m → k ≤ m
      below k m a b = omega arith

      over : (k : ℕ) → k ≤ suc m → suc m < k → ⊥
      over k a b = omega arith

      up : (k : ℕ) → k ≤ m → k ≤ suc m
      up k a = omega arith

      above : (k : ℕ) → k ≤ m → suc m ≡ k → ⊥
      above k a e = omega arith

      once_more : (all front back both self : ℕ) → all ≡ 1 → all ≡ front + (self + back) → self ≡ 0 → both ≡ front + back → both ≡ 1
      once_more all front back both self a b c d = omega arith

  reordered : (m : ℕ) (f : Fleet) (xs : List ℕ) → IsOrderTo m xs → AreSameRuns (fold (step script) f xs) (fold (step script) f (numbers_to m))
  reordered zero f [] o = same_itself _ _ refl
  reordered zero f (k ∷ xs) o = let a = o.numbers.0 in absurd (omega arith)
  reordered (suc m) f xs o =
      let s = last_out m xs o in
      let n = suc m in
      let g = fold (step script) f s.before in
      let start : fold (step script) f xs ≡ fold (step script) g (n ∷ s.after) = ap (fold (step script) f) s.whole ∙ fold-append (step script) f s.before (n ∷ s.after) in
      let middle : fold (step script) g (s.after ++ n ∷ []) ≡ step script (fold (step script) f (s.before ++ s.after)) n =
      fold-append (step script) g s.after (n ∷ []) ∙ ap (λ h. step script h n) (sym (fold-append (step script) f s.before s.after)) in
      let end : fold (step script) f (numbers_to n) ≡ step script (fold (step script) f (numbers_to m)) n = fold-append (step script) f (numbers_to m) (n ∷ []) in
      same_through _ _ _ (same_itself _ _ start)
      (same_through _ _ _ (moved_to_end g n s.after (omega arith) s.free)
      (same_through _ _ _ (same_itself _ _ middle)
      (same_through _ _ _ (same_step script _ _ n (reordered m f (s.before ++ s.after) s.rest)) (same_itself _ _ (sym end)))))

pub lawful_orders_are_the_run : LawfulOrdersAreTheRun
lawful_orders_are_the_run script order lawful =
    reordered script (length script.commands) (opening_fleet script) order (record {
      numbers = lawful.numbers;
      once = λ k some few. lawful.once k (some, few);
      in_order = lawful.in_order;
    })

pub same_runs_have_one_total : SameRunsHaveOneTotal
same_runs_have_one_total script one other same = ap (λ (reports : List (Option ModelReport)). totals_of script (record { devices = one.devices; reports = reports; log = one.log })) same.reports
