-- Checking an order, one number at a time.
use Rattle.std.proofs.Common.{◌≡◌, ℕ, zero, suc, ◌+◌, ◌<◌, ◌≤◌, true, false, List, [], ◌∷◌, ◌++◌, ◌⊎◌, inl, inr, length, get_or, set, take, drop, replicate, refl, sym, ap, ◌∙◌, subst, arith}
use Rattle.std.specs.Prelude.{Option, Some, None, IfSome, slice_index}
use Rattle.std.specs.List.{AllByRecursion}
use Rattle.std.proofs.lemmas.List.{take_all, drop_all, append-nil, take_more, drop_more, take-append-drop, get_or-replicate, length-replicate}
use Rattle.std.proofs.lemmas.Bool.{cases_order, cases_eq, cases_Bool, both_ways}
use Rattle.fleet_model.specs.Contents.{Contents, devices_of}
use Rattle.fleet_model.specs.declared.command.Command.{Command}
use Rattle.photo_model.proofs.AllLemmas.{all_back, all_append}
use Rattle.photo_batcher.specs.Related.{IsNumber, works_on, uses, AreRelated}
use Rattle.photo_batcher.specs.Orders.{times, KeepsOrder, IsLawful}
use Rattle.photo_batcher.specs.Steps.{ArePlaces, IsAbove, IsCheckedTo, with_place}
use Rattle.photo_batcher.proofs.Counting.{times_append, times_cons, counts}
use Rattle.photo_batcher.proofs.Exchange.{used}
use Rattle.photo_batcher.proofs.Lasts.{used_by, there, works_first, works_second}
use Rattle.photo_batcher.proofs.Befores.{works_cases, some_same}
use Rattle.photo_batcher.proofs.Planned.{at_first, at_second, read_neither, length_with}
use Rattle.photo_batcher.proofs.Turns.{self_counts, not_counts, all_by_times, by_all_times, times_one}

-- a list of n numbers from 1 to n, none of them twice, has each of them once

hits : ℕ → ℕ → ℕ
hits zero x = 0
hits (suc n) x = hits n x + counts (suc n) x

total : ℕ → List ℕ → ℕ
total zero xs = 0
total (suc n) xs = total n xs + times (suc n) xs

hits_none : (n x : ℕ) → n < x → hits n x ≡ 0
unfolding hits
hits_none zero x h = refl
hits_none (suc n) x h = let more = hits_none n x (omega arith) in let here = not_counts x (suc n) (omega arith) in omega arith

hits_one : (n x : ℕ) → 0 < x → x ≤ n → hits n x ≡ 1
unfolding hits
hits_one zero x h few = absurd (omega arith)
hits_one (suc n) x h few = go (cases_order x (suc n)) (hits_one n x h)
  where
    go : (x ≡ suc n) ⊎ ((x < suc n) ⊎ (suc n < x)) → (x ≤ n → hits n x ≡ 1) → hits (suc n) x ≡ 1
    go (inl same) more =
        let none = hits_none n x (omega arith) in
        let here : counts (suc n) x ≡ 1 = ap (λ (k : ℕ). counts k x) (sym same) ∙ self_counts x in
        omega arith
    go (inr (inl less)) more = let old = more (omega arith) in let here = not_counts x (suc n) (omega arith) in omega arith
    go (inr (inr over)) more = absurd (omega arith)

total_nil : (n : ℕ) → total n [] ≡ 0
unfolding total
total_nil zero = refl
total_nil (suc n) = let more = total_nil n in omega arith

total_cons : (n x : ℕ) (xs : List ℕ) → total n (x ∷ xs) ≡ hits n x + total n xs
unfolding total hits
total_cons zero x xs = refl
total_cons (suc n) x xs = let more = total_cons n x xs in let here = times_cons (suc n) x xs in omega arith

total_is : (n : ℕ) (xs : List ℕ) → AllByRecursion (λ k. (0 < k) × (k ≤ n)) xs → total n xs ≡ length xs
total_is n [] all = total_nil n
total_is n (x ∷ xs) all = let more = total_is n xs all.1 in let here = hits_one n x all.0.0 all.0.1 in let sum = total_cons n x xs in omega arith

each_one : (n : ℕ) (xs : List ℕ) → ((k : ℕ) → 0 < k → k ≤ n → times k xs ≡ 1) → total n xs ≡ n
unfolding total
each_one zero xs each = refl
each_one (suc n) xs each = let more = each_one n xs (λ k a b. each k a (omega arith)) in let here = each (suc n) (omega arith) (omega arith) in omega arith

total_low : (n : ℕ) (xs : List ℕ) → ((k : ℕ) → times k xs ≤ 1) → total n xs ≤ n
unfolding total
total_low zero xs low = omega arith
total_low (suc n) xs low = let more = total_low n xs low in let here = low (suc n) in omega arith

one_each : (n : ℕ) (xs : List ℕ) → ((k : ℕ) → times k xs ≤ 1) → total n xs ≡ n → (k : ℕ) → 0 < k → k ≤ n → times k xs ≡ 1
unfolding total
one_each zero xs low full k a b = absurd (omega arith)
one_each (suc n) xs low full k a b = go (cases_order k (suc n)) (one_each n xs low)
  where
    before : total n xs ≤ n
    before = total_low n xs low

    go : (k ≡ suc n) ⊎ ((k < suc n) ⊎ (suc n < k)) → (total n xs ≡ n → (j : ℕ) → 0 < j → j ≤ n → times j xs ≡ 1) → times k xs ≡ 1
    go (inl same) more = let few = before in let here = low (suc n) in let is : times k xs ≡ times (suc n) xs = ap (λ (j : ℕ). times j xs) same in omega arith
    go (inr (inl less)) more = let few = before in let here = low (suc n) in more (omega arith) k a (omega arith)
    go (inr (inr over)) more = absurd (omega arith)

-- lists in order

module _ (script : Contents) where
  keeps_at : (front : List ℕ) (n : ℕ) (rest : List ℕ) → KeepsOrder script (front ++ n ∷ rest) → AllByRecursion (λ k. AreRelated script k n → k < n) front
  keeps_at [] n rest h = tt
  keeps_at (m ∷ front) n rest h = ((all_back (λ j. AreRelated script m j → m < j) front (n ∷ rest) h.0).0, keeps_at front n rest h.1)

  keeps_join : (front : List ℕ) (n : ℕ) → KeepsOrder script front → AllByRecursion (λ k. AreRelated script k n → k < n) front → KeepsOrder script (front ++ n ∷ [])
  keeps_join [] n h all = (tt, tt)
  keeps_join (m ∷ front) n h all = (all_append (λ j. AreRelated script m j → m < j) front (n ∷ []) h.0 (all.0, tt), keeps_join front n h.1 all.1)

  -- a command is related to itself, so a list in order has no duplicates
  once_at_most : (order : List ℕ) → AllByRecursion (IsNumber script) order → KeepsOrder script order → (k : ℕ) → times k order ≤ 1
  once_at_most [] numbers h k = let none : times k [] ≡ 0 = refl in omega arith
  once_at_most (m ∷ more) numbers h k = go (cases_eq m k) (once_at_most more numbers.1 h.1 k)
    where
      go : (m ≡ k) ⊎ (m ≡ k → ⊥) → times k more ≤ 1 → times k (m ∷ more) ≤ 1
      go (inl same) rest = elim (cases_order 0 (times k more)) [
        | inl none ↦ let c = times_cons k m more in let s : counts k m ≡ 1 = ap (counts k) same ∙ self_counts k in omega arith
        | inr (inl some) ↦
            let t = there script m numbers.0 in
            let self : AreRelated script m m = let works = used script m (devices_of t.command).0 t.command t.is (works_first t.command) in record { device = (devices_of t.command).0; first = works; second = works } in
            let above : m < k = by_all_times (λ j. AreRelated script m j → m < j) more k h.0 some (subst (AreRelated script m) same self) in
            absurd (omega arith)
        | inr (inr below) ↦ absurd (omega arith)
      ]
      go (inr other) rest = let c = times_cons k m more in let z = not_counts m k other in omega arith

  pub lawful_long : (order : List ℕ) → IsLawful script order → length order ≡ length script.commands
  lawful_long order l =
      let is = total_is (length script.commands) order l.numbers in
      let one = each_one (length script.commands) order (λ k a b. l.once k (a, b)) in
      omega arith

  pub lawful_from : (order : List ℕ) → AllByRecursion (IsNumber script) order → KeepsOrder script order → length order ≡ length script.commands → IsLawful script order
  lawful_from order numbers in_order long =
      let is = total_is (length script.commands) order numbers in
      record {
        numbers = numbers;
        once = λ n number. one_each (length script.commands) order (once_at_most order numbers in_order) (omega arith) n number.0 number.1;
        in_order = in_order;
      }

  pub checked_none : (last : List ℕ) → last ≡ replicate (length script.names) 0 → IsCheckedTo script [] last
  checked_none last is = record {
    numbers = tt;
    in_order = tt;
    long = ap length is ∙ length-replicate (length script.names) 0;
    most = λ device k h some using. let none : times k [] ≡ 0 = refl in absurd (omega arith);
    some = λ device h above. let none : slice_index last device ≡ 0 = ap (λ l. slice_index l device) is ∙ get_or-replicate (length script.names) device 0 0 h in absurd (omega arith);
  }

  -- if the next number is above the last ones on its devices, all earlier numbers on these devices are below it
  below : (front last : List ℕ) (n first : ℕ) (second : Option ℕ) → IsCheckedTo script front last → ArePlaces script n first second → IsAbove last n first second → (k : ℕ) → 0 < times k front → AreRelated script k n → k < n
  below front last n first second old places above k some r =
      let u = used_by script n r.device r.second in
      let works : works_on places.command r.device ≡ true = ap (λ (x : Command). works_on x r.device) (some_same places.command u.command (sym places.is ∙ u.is)) ∙ u.works in
      elim (works_cases places.command r.device works) [
        | inl a ↦
            let is : first ≡ r.device = places.first_is ∙ a in
            let most : k ≤ slice_index last first = old.most first k places.first_in some (subst (λ (d : ℕ). uses script k d ≡ true) (sym is) r.first) in
            let high : slice_index last first < n = by_first second above in
            omega arith
        | inr b ↦ by_second second (places.second_is ∙ b) places.second_in above
      ]
    where
      by_first : (o : Option ℕ) → IsAbove last n first o → slice_index last first < n
      by_first None a = a
      by_first (Some j) a = a.0

      by_second : (o : Option ℕ) → o ≡ Some r.device → IfSome o (λ j. j < length script.names) → IsAbove last n first o → k < n
      by_second None e within a = cc
      by_second (Some j) e within a =
          let is : j ≡ r.device = same_device j r.device e in
          let most : k ≤ slice_index last j = old.most j k within some (subst (λ (d : ℕ). uses script k d ≡ true) (sym is) r.first) in
          let high : slice_index last j < n = a.1 in
          omega arith
        where
          same_device : (x y : ℕ) → Some x ≡ Some y → x ≡ y
          same_device x y e = cc

  times_push : (k n : ℕ) (front : List ℕ) → times k (front ++ n ∷ []) ≡ times k front + counts k n
  times_push k n front = times_append k front (n ∷ []) ∙ ap (λ (t : ℕ). times k front + t) (times_one k n)

  pub checked_more : (front last : List ℕ) (n first : ℕ) (second : Option ℕ) → IsNumber script n → IsCheckedTo script front last → ArePlaces script n first second → IsAbove last n first second → IsCheckedTo script (front ++ n ∷ []) (with_place second n (set last first n))
  checked_more front last n first second number old places above =
      let lower = below front last n first second old places above in
      record {
        numbers = all_append (IsNumber script) front (n ∷ []) old.numbers (number, tt);
        in_order = keeps_join front n old.in_order (all_by_times (λ k. AreRelated script k n → k < n) front lower);
        long = length_with second n first last ∙ old.long;
        most = λ device k h some using. most device k h some using lower;
        some = λ device h. some device h;
      }
    where
      -- the command works on the device, or the device's last command stays
      by_device : (device : ℕ) → (uses script n device ≡ true) ⊎ (uses script n device ≡ false)
      by_device device = cases_Bool (uses script n device)

      reads_new : (device : ℕ) → device < length script.names → uses script n device ≡ true → slice_index (with_place second n (set last first n)) device ≡ n
      reads_new device h using =
          let u = used_by script n device using in
          let works : works_on places.command device ≡ true = ap (λ (x : Command). works_on x device) (some_same places.command u.command (sym places.is ∙ u.is)) ∙ u.works in
          let long = old.long in
          elim (works_cases places.command device works) [
            | inl a ↦ let is : first ≡ device = places.first_is ∙ a in let inside = places.first_in in ap (slice_index (with_place second n (set last first n))) (sym is) ∙ at_first second n first last (omega arith)
            | inr b ↦ at_second second n first device last (omega arith) (places.second_is ∙ b)
          ]

      reads_old : (device : ℕ) → uses script n device ≡ false → slice_index (with_place second n (set last first n)) device ≡ slice_index last device
      reads_old device not_used =
          let no_use = λ (w : works_on places.command device ≡ true). both_ways (uses script n device) not_used (used script n device places.command places.is w) in
          read_neither second n first device last
          (λ e. no_use (subst (λ (k : ℕ). works_on places.command k ≡ true) (sym places.first_is ∙ e) (works_first places.command)))
          (λ e. no_use (works_second places.command device (sym places.second_is ∙ e)))

      most : (device k : ℕ) → device < length script.names → 0 < times k (front ++ n ∷ []) → uses script k device ≡ true → ((j : ℕ) → 0 < times j front → AreRelated script j n → j < n) → k ≤ slice_index (with_place second n (set last first n)) device
      most device k h stands using lower =
          let sum = times_push k n front in
          elim (by_device device) [
            | inl here ↦
                let new = reads_new device h here in
                elim (cases_eq n k) [
                  | inl same ↦ omega arith
                  | inr other ↦
                      let z = not_counts n k other in
                      let less : k < n = lower k (omega arith) (record { device = device; first = using; second = here }) in
                      omega arith
                ]
            | inr away ↦
                let stays = reads_old device away in
                elim (cases_eq n k) [
                  | inl same ↦ absurd (both_ways (uses script n device) away (ap (λ (j : ℕ). uses script j device) same ∙ using))
                  | inr other ↦ let z = not_counts n k other in let was : k ≤ slice_index last device = old.most device k h (omega arith) using in omega arith
                ]
          ]

      some : (device : ℕ) → device < length script.names → 0 < slice_index (with_place second n (set last first n)) device → (0 < times (slice_index (with_place second n (set last first n)) device) (front ++ n ∷ [])) × (uses script (slice_index (with_place second n (set last first n)) device) device ≡ true)
      some device h above_none = elim (by_device device) [
        | inl here ↦
            let new = reads_new device h here in
            let sum = times_push n n front in
            let self = self_counts n in
            subst (λ (k : ℕ). (0 < times k (front ++ n ∷ [])) × (uses script k device ≡ true)) (sym new) (omega arith, here)
        | inr away ↦
            let stays = reads_old device away in
            let was = old.some device h (omega arith) in
            let sum = times_push (slice_index last device) n front in
            let stood = was.0 in
            subst (λ (k : ℕ). (0 < times k (front ++ n ∷ [])) × (uses script k device ≡ true)) (sym stays) (omega arith, was.1)
      ]

  -- a number that isn't above the last ones on its devices is out of order
  pub out_of_order : (front last rest : List ℕ) (n first : ℕ) (second : Option ℕ) → IsCheckedTo script front last → ArePlaces script n first second → (IsAbove last n first second → ⊥) → IsNumber script n → KeepsOrder script (front ++ n ∷ rest) → ⊥
  out_of_order front last rest n first second old places not_above number keeps = not_above (by second places.second_is places.second_in)
    where
      lower : (device : ℕ) → device < length script.names → uses script n device ≡ true → slice_index last device < n
      lower device h using = elim (cases_order 0 (slice_index last device)) [
        | inl none ↦ let above = number.0 in omega arith
        | inr (inl some) ↦ let was = old.some device h some in by_all_times (λ k. AreRelated script k n → k < n) front (slice_index last device) (keeps_at front n rest keeps) was.0 (record { device = device; first = was.1; second = using })
        | inr (inr below_none) ↦ absurd (omega arith)
      ]

      on_first : slice_index last first < n
      on_first = lower first places.first_in (used script n first places.command places.is (subst (λ (k : ℕ). works_on places.command k ≡ true) (sym places.first_is) (works_first places.command)))

      by : (o : Option ℕ) → o ≡ (devices_of places.command).1 → IfSome o (λ k. k < length script.names) → IsAbove last n first o
      by None e within = on_first
      by (Some k) e within = (on_first, lower k within (used script n k places.command places.is (works_second places.command k (sym e))))

-- reading the list, and reading it after a write

pub at_place : (order : List ℕ) (i : ℕ) → i < length order → order ≡ take i order ++ get_or order i 0 ∷ drop (i + 1) order
at_place order i h = sym (take-append-drop i order) ∙ ap (λ (l : List ℕ). take i order ++ l) (drop_more order i 0 h)

pub written_back : (new items : List ℕ) (n : ℕ) → length new ≡ length items → n ≡ length items → take n (new ++ drop (length new) items) ≡ new
written_back new items n same long =
    ap (λ l. take n (new ++ l)) (drop_all (length new) items (omega arith)) ∙ ap (take n) (append-nil new) ∙ take_all n new (omega arith)

pub taken_more : (order : List ℕ) (i : ℕ) → i < length order → take (i + 1) order ≡ take i order ++ get_or order i 0 ∷ []
taken_more order i h = take_more order i 0 h

pub taken_all : (order : List ℕ) (i : ℕ) → length order ≤ i → take i order ≡ order
taken_all order i h = take_all i order h
