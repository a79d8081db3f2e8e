-- A plan with one more command.
use Rattle.std.proofs.Common.{◌≡◌, ℕ, zero, suc, ◌+◌, ◌-◌, ◌<◌, ◌≤◌, max, true, false, cond, List, [], ◌∷◌, ◌++◌, length, get_or, set, inl, inr, refl, sym, ap, ◌∙◌, subst, length-append, length-set, get_or-set_other, get_or-set_same, arith}
use Rattle.std.specs.Prelude.{Option, Some, None, IfSome, slice_index, nat_lt, replicate}
use Rattle.std.proofs.lemmas.List.{get_or_append_left, get_or_at, get_or-replicate, length-replicate}
use Rattle.std.proofs.lemmas.Bool.{cases_order, cases_eq, cases_Bool, both_ways}
use Rattle.fleet_model.specs.declared.command.Command.{Command}
use Rattle.fleet_model.specs.Contents.{Contents, command_of, devices_of}
use Rattle.photo_batcher.specs.Related.{IsNumber, works_on, uses}
use Rattle.photo_batcher.specs.Batches.{IsAfter}
use Rattle.photo_batcher.specs.Greedy.{last_on, last_on_second, free_behind, first_free, before_it}
use Rattle.photo_batcher.specs.Plans.{entry_of, none_or, IsPlan, planned, IsShaped}
use Rattle.photo_batcher.specs.Steps.{ArePlaces, IsPlannedTo, read_second, with_place, IsGroupedTo}
use Rattle.photo_batcher.proofs.Exchange.{used}
use Rattle.photo_batcher.proofs.Lasts.{used_by, there, last_below, works_first, works_second}
use Rattle.photo_batcher.proofs.Chains.{greedy_is}
use Rattle.photo_batcher.proofs.Grouped.{rows_are}
use Rattle.fleet_model.specs.Limits.{max_commands}
use Rattle.photo_batcher.proofs.Befores.{after_is, is_before, works_cases, some_same}

-- a longer list agrees with the old one on the old numbers

pub entry_more : (xs : List ℕ) (x k : ℕ) → k ≤ length xs → entry_of (xs ++ x ∷ []) k ≡ entry_of xs k
entry_more xs x zero h = refl
entry_more xs x (suc k) h = get_or_append_left xs (x ∷ []) 0 k h

pub entry_new : (xs : List ℕ) (x n : ℕ) → length xs ≡ n → entry_of (xs ++ x ∷ []) (suc n) ≡ x
entry_new xs x n h = get_or_at xs x [] 0 n h

free_more : (xs : List ℕ) (x k : ℕ) → k ≤ length xs → free_behind (entry_of (xs ++ x ∷ [])) k ≡ free_behind (entry_of xs) k
free_more xs x zero h = refl
free_more xs x (suc k) h = ap (λ t. t + 1) (entry_more xs x (suc k) h)

module _ (script : Contents) (batches : List ℕ) (x : ℕ) (k : ℕ) (few : k ≤ length batches) where
  first_more : (p : ℕ) (o : Option ℕ) → first_free (entry_of (batches ++ x ∷ [])) (last_on script k p) (last_on_second script k o) ≡ first_free (entry_of batches) (last_on script k p) (last_on_second script k o)
  first_more p None = let low = last_below script k p in free_more batches x (last_on script k p) (omega arith)
  first_more p (Some s) =
      let low = last_below script k p in
      let low_too = last_below script k s in
      let one = free_more batches x (last_on script k p) (omega arith) in
      let two = free_more batches x (last_on script k s) (omega arith) in
      λ i. max (one i) (two i)

  before_more : (p : ℕ) (o : Option ℕ) → before_it (entry_of (batches ++ x ∷ [])) (last_on script k p) (last_on_second script k o) ≡ before_it (entry_of batches) (last_on script k p) (last_on_second script k o)
  before_more p None = refl
  before_more p (Some s) =
      let low = last_below script k p in
      let low_too = last_below script k s in
      let one = free_more batches x (last_on script k p) (omega arith) in
      let two = free_more batches x (last_on script k s) (omega arith) in
      λ i. cond (nat_lt (two i) (one i)) (last_on script k p) (cond (nat_lt (one i) (two i)) (last_on script k s) (max (last_on script k p) (last_on script k s)))

-- the last commands on devices after one more command

last_here : (script : Contents) (n device : ℕ) → uses script (suc n) device ≡ true → last_on script (suc n) device ≡ suc n
last_here script n device h = ap (λ b. cond b (suc n) (last_on script n device)) h

last_there : (script : Contents) (n device : ℕ) → uses script (suc n) device ≡ false → last_on script (suc n) device ≡ last_on script n device
last_there script n device h = ap (λ b. cond b (suc n) (last_on script n device)) h

pub at_first : (o : Option ℕ) (n p : ℕ) (xs : List ℕ) → p < length xs → get_or (with_place o n (set xs p n)) p 0 ≡ n
at_first None n p xs h = get_or-set_same xs p n 0 h
at_first (Some k) n p xs h = elim (cases_eq p k) [
  | inl same ↦ let long = length-set xs p n in ap (λ j. get_or (set (set xs p n) k n) j 0) same ∙ get_or-set_same (set xs p n) k n 0 (omega arith)
  | inr other ↦ get_or-set_other (set xs p n) k p n 0 other ∙ get_or-set_same xs p n 0 h
]

pub at_second : (o : Option ℕ) (n p k : ℕ) (xs : List ℕ) → k < length xs → o ≡ Some k → get_or (with_place o n (set xs p n)) k 0 ≡ n
at_second o n p k xs h is = let long = length-set xs p n in ap (λ (r : Option ℕ). get_or (with_place r n (set xs p n)) k 0) is ∙ get_or-set_same (set xs p n) k n 0 (omega arith)

pub read_neither : (o : Option ℕ) (n p k : ℕ) (xs : List ℕ) → (p ≡ k → ⊥) → (o ≡ Some k → ⊥) → get_or (with_place o n (set xs p n)) k 0 ≡ get_or xs k 0
read_neither None n p k xs a b = get_or-set_other xs p k n 0 (λ e. a (sym e))
read_neither (Some j) n p k xs a b = get_or-set_other (set xs p n) j k n 0 (λ e. b (ap Some (sym e))) ∙ get_or-set_other xs p k n 0 (λ e. a (sym e))

pub length_with : (o : Option ℕ) (n p : ℕ) (xs : List ℕ) → length (with_place o n (set xs p n)) ≡ length xs
length_with None n p xs = length-set xs p n
length_with (Some k) n p xs = length-set (set xs p n) k n ∙ length-set xs p n

lasts_more : (script : Contents) (n first : ℕ) (second : Option ℕ) (c : Command) (last : List ℕ) (device : ℕ) → command_of script (suc n) ≡ Some c → first ≡ (devices_of c).0 → second ≡ (devices_of c).1 → device < length last
    → slice_index last device ≡ last_on script n device → slice_index (with_place second (suc n) (set last first (suc n))) device ≡ last_on script (suc n) device
lasts_more script n first second c last device here one two within old = elim (cases_Bool (uses script (suc n) device)) [
  | inl yes_here ↦
      let u = used_by script (suc n) device yes_here in
      let works : works_on c device ≡ true = ap (λ (x : Command). works_on x device) (some_same c u.command (sym here ∙ u.is)) ∙ u.works in
      elim (works_cases c device works) [
        | inl a ↦
            let is : first ≡ device = one ∙ a in
            let inside : first < length last = omega arith in
            ap (slice_index (with_place second (suc n) (set last first (suc n)))) (sym is) ∙ at_first second (suc n) first last inside ∙ sym (last_here script n device yes_here)
        | inr b ↦ at_second second (suc n) first device last within (two ∙ b) ∙ sym (last_here script n device yes_here)
      ]
  | inr not_here ↦
      let no_use = λ (w : works_on c device ≡ true). both_ways (uses script (suc n) device) not_here (used script (suc n) device c here w) in
      read_neither second (suc n) first device last
      (λ e. no_use (subst (λ (k : ℕ). works_on c k ≡ true) (sym one ∙ e) (works_first c)))
      (λ e. no_use (works_second c device (sym two ∙ e)))
      ∙ old ∙ sym (last_there script n device not_here)
]

free_low : (batches : List ℕ) (n k : ℕ) → ((j : ℕ) → j < n → slice_index batches j ≤ j) → k ≤ n → free_behind (entry_of batches) k ≤ n
free_low batches n zero few h = omega arith
free_low batches n (suc k) few h = let low = few k h in omega arith

low_first : (batches : List ℕ) (n l : ℕ) (o : Option ℕ) → ((j : ℕ) → j < n → slice_index batches j ≤ j) → l ≤ n → IfSome o (λ k. k ≤ n) → first_free (entry_of batches) l o ≤ n
low_first batches n l None few h k = free_low batches n l few h
low_first batches n l (Some j) few h k = let one = free_low batches n l few h in let two = free_low batches n j few k in omega arith

-- the places that the code reads
second_read : (script : Contents) (n : ℕ) (last : List ℕ) (o : Option ℕ) → ((device : ℕ) → device < length script.names → slice_index last device ≡ last_on script n device) → IfSome o (λ k. k < length script.names) → read_second last o ≡ last_on_second script n o
second_read script n last None lasts within = refl
second_read script n last (Some k) lasts within = ap Some (lasts k within)

second_low : (script : Contents) (n : ℕ) (o : Option ℕ) → IfSome (last_on_second script n o) (λ k. k ≤ n)
second_low script n None = tt
second_low script n (Some k) = last_below script n k

module _ (script : Contents) where
  pub planned_none : (last : List ℕ) → last ≡ replicate (length script.names) 0 → IsPlannedTo script 0 last [] []
  planned_none last is = record {
    many = refl;
    many_afters = refl;
    long = ap length is ∙ length-replicate (length script.names) 0;
    few = λ k h. absurd (omega arith);
    greedy = λ n c h e. absurd (omega arith);
    lasts = λ device h. ap (λ l. slice_index l device) is ∙ get_or-replicate (length script.names) device 0 0 h;
    before = λ k c h e. absurd (omega arith);
  }

  -- one more command
  more : (n first : ℕ) (second : Option ℕ) (last batches afters : List ℕ) (x a : ℕ) → IsPlannedTo script n last batches afters → ArePlaces script (suc n) first second
      → x ≡ first_free (entry_of batches) (slice_index last first) (read_second last second)
      → a ≡ before_it (entry_of batches) (slice_index last first) (read_second last second)
      → IsPlannedTo script (suc n) (with_place second (suc n) (set last first (suc n))) (batches ++ x ∷ []) (afters ++ a ∷ [])
  more n first second last batches afters x a old places is_x is_a =
      let c = places.command in
      let many = old.many in
      let one : slice_index last first ≡ last_on script n (devices_of c).0 = old.lasts first places.first_in ∙ ap (last_on script n) places.first_is in
      let two : read_second last second ≡ last_on_second script n (devices_of c).1 = second_read script n last second old.lasts places.second_in ∙ ap (last_on_second script n) places.second_is in
      let free : x ≡ first_free (entry_of batches) (last_on script n (devices_of c).0) (last_on_second script n (devices_of c).1) = is_x ∙ (λ i. first_free (entry_of batches) (one i) (two i)) in
      let before : a ≡ before_it (entry_of batches) (last_on script n (devices_of c).0) (last_on_second script n (devices_of c).1) = is_a ∙ (λ i. before_it (entry_of batches) (one i) (two i)) in
      let low : x ≤ n = subst (λ (t : ℕ). t ≤ n) (sym free) (low_first batches n (last_on script n (devices_of c).0) (last_on_second script n (devices_of c).1) old.few (last_below script n (devices_of c).0) (second_low script n (devices_of c).1)) in
      let equal = old.many_afters in
      record {
        many = length-append batches (x ∷ []) ∙ omega arith;
        many_afters = length-append afters (a ∷ []) ∙ omega arith;
        long = length_with second (suc n) first last ∙ old.long;
        few = λ k h. elim (cases_order k n) [
          | inl same ↦ let is : entry_of (batches ++ x ∷ []) (suc k) ≡ x = entry_new batches x k (many ∙ sym same) in omega arith
          | inr (inl less) ↦ let is : entry_of (batches ++ x ∷ []) (suc k) ≡ entry_of batches (suc k) = entry_more batches x (suc k) (omega arith) in let was = old.few k less in omega arith
          | inr (inr over) ↦ absurd (omega arith)
        ];
        greedy = λ k e h at_k. elim (cases_order k n) [
          | inl same ↦
              let is_c : c ≡ e = some_same c e (sym places.is ∙ ap (λ (j : ℕ). command_of script (suc j)) (sym same) ∙ at_k) in
              entry_new batches x k (many ∙ sym same) ∙ free ∙ sym (first_more script batches x n (omega arith) (devices_of c).0 (devices_of c).1)
              ∙ (λ i. first_free (entry_of (batches ++ x ∷ [])) (last_on script (sym same i) (devices_of (is_c i)).0) (last_on_second script (sym same i) (devices_of (is_c i)).1))
          | inr (inl less) ↦ entry_more batches x (suc k) (omega arith) ∙ old.greedy k e less at_k ∙ sym (first_more script batches x k (omega arith) (devices_of e).0 (devices_of e).1)
          | inr (inr over) ↦ absurd (omega arith)
        ];
        lasts = λ device h. lasts_more script n first second c last device places.is places.first_is places.second_is (let long = old.long in omega arith) (old.lasts device h);
        before = λ k e h at_k. elim (cases_order k n) [
          | inl same ↦
              let is_c : c ≡ e = some_same c e (sym places.is ∙ ap (λ (j : ℕ). command_of script (suc j)) (sym same) ∙ at_k) in
              entry_new afters a k (equal ∙ sym same) ∙ before ∙ sym (before_more script batches x n (omega arith) (devices_of c).0 (devices_of c).1)
              ∙ (λ i. before_it (entry_of (batches ++ x ∷ [])) (last_on script (sym same i) (devices_of (is_c i)).0) (last_on_second script (sym same i) (devices_of (is_c i)).1))
          | inr (inl less) ↦ entry_more afters a (suc k) (omega arith) ∙ old.before k e less at_k ∙ sym (before_more script batches x k (omega arith) (devices_of e).0 (devices_of e).1)
          | inr (inr over) ↦ absurd (omega arith)
        ];
      }

  pub planned_more : (n m first : ℕ) (second : Option ℕ) (last batches afters : List ℕ) (x a : ℕ) → m ≡ suc n → IsPlannedTo script n last batches afters → ArePlaces script m first second
      → x ≡ first_free (entry_of batches) (slice_index last first) (read_second last second)
      → a ≡ before_it (entry_of batches) (slice_index last first) (read_second last second)
      → IsPlannedTo script m (with_place second m (set last first m)) (batches ++ x ∷ []) (afters ++ a ∷ [])
  planned_more n m first second last batches afters x a is old places is_x is_a =
      subst (λ (k : ℕ). IsPlannedTo script k (with_place second k (set last first k)) (batches ++ x ∷ []) (afters ++ a ∷ [])) (sym is)
      (more n first second last batches afters x a old (subst (λ (k : ℕ). ArePlaces script k first second) is places) is_x is_a)

  pub planned_all : (last batches afters : List ℕ) (rows : List (List ℕ)) → IsPlannedTo script (length script.commands) last batches afters → IsGroupedTo (entry_of batches) (length script.commands) rows → IsPlan script (planned batches afters rows)
  planned_all last batches afters rows p g = record {
    each = p.many;
    each_after = p.many_afters;
    batches_are = greedy_is script (entry_of batches) p.greedy;
    afters_are = after_of;
    counted = record { below = λ n number. g.below n number.0 number.1; least = λ count all. g.least count (λ k above few. all k (above, few)) };
    members_are = rows_are script (entry_of batches) rows g.each;
  }
    where
      after_of : (n : ℕ) → IsNumber script n → IsAfter script (entry_of batches) n (none_or (entry_of afters n))
      after_of zero number = let above = number.0 in absurd (omega arith)
      after_of (suc n) number =
          let t = there script (suc n) number in
          let few : n < length script.commands = number.1 in
          subst (λ (k : ℕ). IsAfter script (entry_of batches) (suc n) (none_or k)) (sym (p.before n t.command few t.is)) (after_is script (entry_of batches) (length script.commands) p.greedy n t.command few t.is)

  pub shaped : (last batches afters : List ℕ) (rows : List (List ℕ)) (n : ℕ) → n ≤ length script.commands → n ≤ max_commands → IsPlannedTo script n last batches afters → length rows ≤ n → IsShaped (planned batches afters rows)
  shaped last batches afters rows n within few p low =
      let many = p.many in
      let equal = p.many_afters in
      record { long = omega arith; most = omega arith; few = omega arith; back = back }
    where
      back : (k : ℕ) → k < length afters → slice_index afters k ≤ k
      back k h =
          let equal = p.many_afters in
          let t = there script (suc k) (omega arith, omega arith) in
          let b = is_before script (entry_of batches) k t.command (p.greedy k t.command (omega arith) t.is) in
          let low = last_below script k b.device in
          let is = b.is in
          let before = p.before k t.command (omega arith) t.is in
          omega arith

-- what the code's calls require and give

pub low_last : (script : Contents) (n first : ℕ) (last batches afters : List ℕ) → IsPlannedTo script n last batches afters → first < length script.names → slice_index last first ≤ length batches
low_last script n first last batches afters p h = let is = p.lasts first h in let low = last_below script n first in let many = p.many in omega arith

pub low_second : (script : Contents) (n : ℕ) (second : Option ℕ) (last batches afters : List ℕ) → IsPlannedTo script n last batches afters → IfSome second (λ k. k < length script.names) → IfSome (read_second last second) (λ k. k ≤ length batches)
low_second script n None last batches afters p h = tt
low_second script n (Some k) last batches afters p h = low_last script n k last batches afters p h
