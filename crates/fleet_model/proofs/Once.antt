-- No device holds a version twice, so no device holds more versions than were made.
use Rattle.std.proofs.Common.{◌≡◌, ℕ, ◌+◌, ◌≤◌, Bool, true, false, cond, not, ◌&&◌, List, [], ◌∷◌, ◌++◌, inl, inr, length, filter, refl, sym, ap, ◌∙◌, subst, arith}
use Rattle.std.specs.List.{sum_by}
use Rattle.std.proofs.lemmas.Bool.{cases_Bool, not-true}
use Rattle.std.proofs.lemmas.List.Sums.{sum_by-cons, sum_by-append, length-filter}
use Rattle.std.proofs.lemmas.List.Filters.{sum_by-filter_both, length-filter_both}
use Rattle.photo_record.specs.declared.record.Record.{Record}
use Rattle.photo_filter_text.specs.Tree.{Tree}
use Rattle.photo_filter_rules.specs.Matching.{matches}
use Rattle.photo_version.specs.Version.{Version}
use Rattle.photo_model.specs.Entry.{Entry, entry_before, put_entry, put_entry_if, put_entries, others, is_of_other}
use Rattle.photo_model.specs.Device.{ModelDevice, holds, knows_entry, selects, new_entry, made, narrowed}
use Rattle.photo_model.specs.Refiltered.{refiltered}
use Rattle.photo_model.specs.Pull.{taken, handed, leaves_store, leaves_out, pulled, handed_over}
use Rattle.fleet_model.specs.Members.{In, here, there}
use Rattle.fleet_model.specs.Sound.{occurrences}
use Rattle.fleet_model.proofs.Members.{in_nothing, in_passed}
use Rattle.fleet_model.proofs.Superseding.{clash, same_version_is, is_same_version}
use Rattle.fleet_model.proofs.Pulling.{coming_is_told, told_held, told_unknown}
use Rattle.fleet_model.proofs.Traced.{IsTracedLog, IsTracedDevice}
use Rattle.fleet_model.proofs.TracedSteps.{fresh}
use Rattle.fleet_model.proofs.Times.{is_of, AreOnce, one_or_none, none_of, found}

-- the sum of a weight over what is held, before and after a change
module _ (f : Entry → ℕ) where
  sum_put : (e : Entry) (xs : List Entry) → sum_by f (put_entry e xs) ≡ f e + sum_by f xs
  sum_put e [] = sum_by-cons f e []
  sum_put e (x ∷ xs) = go (entry_before x e) (sum_put e xs)
    where
      go : (b : Bool) → sum_by f (put_entry e xs) ≡ f e + sum_by f xs → sum_by f (cond b (x ∷ put_entry e xs) (e ∷ x ∷ xs)) ≡ f e + sum_by f (x ∷ xs)
      go true h =
          let a : sum_by f (x ∷ put_entry e xs) ≡ f x + sum_by f (put_entry e xs) = sum_by-cons f x (put_entry e xs) in
          let b : sum_by f (x ∷ xs) ≡ f x + sum_by f xs = sum_by-cons f x xs in
          omega arith
      go false h = sum_by-cons f e (x ∷ xs)

  sum_puts : (es xs : List Entry) → sum_by f (put_entries es xs) ≡ sum_by f es + sum_by f xs
  sum_puts [] xs = omega arith
  sum_puts (e ∷ es) xs =
      let a : sum_by f (put_entry e (put_entries es xs)) ≡ f e + sum_by f (put_entries es xs) = sum_put e (put_entries es xs) in
      let b : sum_by f (put_entries es xs) ≡ sum_by f es + sum_by f xs = sum_puts es xs in
      let c : sum_by f (e ∷ es) ≡ f e + sum_by f es = sum_by-cons f e es in
      omega arith

  sum_both : (p : Entry → Bool) (xs : List Entry) → sum_by f (filter p xs) + sum_by f (filter (λ x. not (p x)) xs) ≡ sum_by f xs
  sum_both p xs = sum_by-filter_both p (λ x. not (p x)) (λ _. refl) f xs

  sum_passed : (p : Entry → Bool) (xs : List Entry) → sum_by f (filter p xs) ≤ sum_by f xs
  sum_passed p xs = let a : sum_by f (filter p xs) + sum_by f (filter (λ x. not (p x)) xs) ≡ sum_by f xs = sum_both p xs in omega arith

  sum_placed : (b : Bool) (e : Entry) (xs ys : List Entry) → sum_by f (put_entry_if b e xs) + sum_by f (put_entry_if (not b) e ys) ≡ f e + (sum_by f xs + sum_by f ys)
  sum_placed true e xs ys = let a : sum_by f (put_entry e xs) ≡ f e + sum_by f xs = sum_put e xs in omega arith
  sum_placed false e xs ys = let a : sum_by f (put_entry e ys) ≡ f e + sum_by f ys = sum_put e ys in omega arith

  sum_made : (d : ModelDevice) (p : ℕ) (r : Record) → sum_by f (holds (made d p r)) ≤ f (new_entry d p r) + sum_by f (holds d)
  sum_made d p r =
      let n = new_entry d p r in
      let b = matches d.tree r in
      let all : sum_by f (holds (made d p r)) ≡ sum_by f (put_entry_if b n (others p d.store)) + sum_by f (put_entry_if (not b) n (others p d.out)) = sum_by-append f (put_entry_if b n (others p d.store)) (put_entry_if (not b) n (others p d.out)) in
      let placed : sum_by f (put_entry_if b n (others p d.store)) + sum_by f (put_entry_if (not b) n (others p d.out)) ≡ f n + (sum_by f (others p d.store) + sum_by f (others p d.out)) = sum_placed b n (others p d.store) (others p d.out) in
      let store : sum_by f (others p d.store) ≤ sum_by f d.store = sum_passed (is_of_other p) d.store in
      let out : sum_by f (others p d.out) ≤ sum_by f d.out = sum_passed (is_of_other p) d.out in
      let old : sum_by f (holds d) ≡ sum_by f d.store + sum_by f d.out = sum_by-append f d.store d.out in
      omega arith

  sum_narrowed : (tree : Tree) (d : ModelDevice) → sum_by f (holds (narrowed tree d)) ≡ sum_by f (holds d)
  sum_narrowed tree d =
      let fits : List Entry = filter (λ (e : Entry). matches tree e.content) d.store in
      let goes : List Entry = filter (λ (e : Entry). not (matches tree e.content)) d.store in
      let all : sum_by f (holds (narrowed tree d)) ≡ sum_by f fits + sum_by f (put_entries goes d.out) = sum_by-append f fits (put_entries goes d.out) in
      let put : sum_by f (put_entries goes d.out) ≡ sum_by f goes + sum_by f d.out = sum_puts goes d.out in
      let both : sum_by f fits + sum_by f goes ≡ sum_by f d.store = sum_both (λ (e : Entry). matches tree e.content) d.store in
      let old : sum_by f (holds d) ≡ sum_by f d.store + sum_by f d.out = sum_by-append f d.store d.out in
      omega arith

  sum_refiltered : (tree : Tree) (d : ModelDevice) → sum_by f (holds (refiltered tree d)) ≡ sum_by f (holds d)
  sum_refiltered tree d =
      let fits : List Entry = filter (λ (e : Entry). matches tree e.content) (holds d) in
      let misfits : List Entry = filter (λ (e : Entry). not (matches tree e.content)) (holds d) in
      let all : sum_by f (holds (refiltered tree d)) ≡ sum_by f (put_entries fits []) + sum_by f (put_entries misfits []) = sum_by-append f (put_entries fits []) (put_entries misfits []) in
      let left : sum_by f (put_entries fits []) ≡ sum_by f fits + sum_by f [] = sum_puts fits [] in
      let right : sum_by f (put_entries misfits []) ≡ sum_by f misfits + sum_by f [] = sum_puts misfits [] in
      let none : sum_by f [] ≡ 0 = refl in
      let both : sum_by f fits + sum_by f misfits ≡ sum_by f (holds d) = sum_both (λ (e : Entry). matches tree e.content) (holds d) in
      omega arith

  sum_pulled : (t s : ModelDevice) → sum_by f (holds (pulled t s)) ≤ sum_by f (taken t s ++ handed t s) + sum_by f (holds t)
  sum_pulled t s =
      let new : List Entry = taken t s ++ handed t s in
      let fits : List Entry = filter (selects t) new in
      let misfits : List Entry = filter (λ (e : Entry). not (selects t e)) new in
      let store : List Entry = filter (λ (e : Entry). not (leaves_store t s e)) t.store in
      let out : List Entry = filter (λ (e : Entry). not (leaves_out t s e)) t.out in
      let all : sum_by f (holds (pulled t s)) ≡ sum_by f (put_entries fits store) + sum_by f (put_entries misfits out) = sum_by-append f (put_entries fits store) (put_entries misfits out) in
      let left : sum_by f (put_entries fits store) ≡ sum_by f fits + sum_by f store = sum_puts fits store in
      let right : sum_by f (put_entries misfits out) ≡ sum_by f misfits + sum_by f out = sum_puts misfits out in
      let both : sum_by f fits + sum_by f misfits ≡ sum_by f new = sum_both (selects t) new in
      let stayed : sum_by f store ≤ sum_by f t.store = sum_passed (λ (e : Entry). not (leaves_store t s e)) t.store in
      let waited : sum_by f out ≤ sum_by f t.out = sum_passed (λ (e : Entry). not (leaves_out t s e)) t.out in
      let old : sum_by f (holds t) ≡ sum_by f t.store + sum_by f t.out = sum_by-append f t.store t.out in
      omega arith

  sum_coming : (t s : ModelDevice) → sum_by f (taken t s ++ handed t s) ≤ sum_by f (holds s)
  sum_coming t s =
      let all : sum_by f (taken t s ++ handed t s) ≡ sum_by f (taken t s) + sum_by f (handed t s) = sum_by-append f (taken t s) (handed t s) in
      let left : sum_by f (taken t s) ≤ sum_by f s.store = sum_passed (λ (e : Entry). not (knows_entry t e) && selects t e) s.store in
      let right : sum_by f (handed t s) ≤ sum_by f s.out = sum_passed (λ (e : Entry). not (knows_entry t e)) s.out in
      let old : sum_by f (holds s) ≡ sum_by f s.store + sum_by f s.out = sum_by-append f s.store s.out in
      omega arith

  sum_handed : (t s : ModelDevice) → sum_by f (holds (handed_over t s)) ≤ sum_by f (holds s)
  sum_handed t s =
      let all : sum_by f (holds (handed_over t s)) ≡ sum_by f s.store + sum_by f (filter (knows_entry t) s.out) = sum_by-append f s.store (filter (knows_entry t) s.out) in
      let right : sum_by f (filter (knows_entry t) s.out) ≤ sum_by f s.out = sum_passed (knows_entry t) s.out in
      let old : sum_by f (holds s) ≡ sum_by f s.store + sum_by f s.out = sum_by-append f s.store s.out in
      omega arith

module _ (log : List Entry) (d : ModelDevice) (p : ℕ) (r : Record) (L : IsTracedLog log) (D : IsTracedDevice log d) (bounded : (e : Entry) → In e log → e.version.author ≡ d.author → e.version.number ≤ d.counter) (once : AreOnce (holds d)) where
  pub made_once : AreOnce (holds (made d p r))
  made_once v =
      let n = new_entry d p r in
      let all : occurrences v (holds (made d p r)) ≤ cond (is_of v n) 1 0 + occurrences v (holds d) = sum_made (λ e. cond (is_of v e) 1 0) d p r in
      elim (found v (holds d)) [
        | inl none ↦ let one : cond (is_of v n) 1 0 ≤ 1 = one_or_none (is_of v n) in omega arith
        | inr some ↦ elim (cases_Bool (is_of v n)) [
          | inl same ↦ absurd (fresh log d p r L D bounded some.0 (D.logged some.0 some.1) (some.2 ∙ sym (same_version_is n.version v same)))
          | inr other ↦
              let none : cond (is_of v n) 1 0 ≤ 0 = none_of (is_of v n) other in
              let old : occurrences v (holds d) ≤ 1 = once v in
              omega arith
        ]
      ]

pub narrowed_once : (tree : Tree) (d : ModelDevice) → AreOnce (holds d) → AreOnce (holds (narrowed tree d))
narrowed_once tree d once v = subst (λ (n : ℕ). n ≤ 1) (sym (sum_narrowed (λ e. cond (is_of v e) 1 0) tree d)) (once v)

pub refiltered_once : (tree : Tree) (d : ModelDevice) → AreOnce (holds d) → AreOnce (holds (refiltered tree d))
refiltered_once tree d once v = subst (λ (n : ℕ). n ≤ 1) (sym (sum_refiltered (λ e. cond (is_of v e) 1 0) tree d)) (once v)

module _ (log : List Entry) (t s : ModelDevice) (L : IsTracedLog log) (T : IsTracedDevice log t) (S : IsTracedDevice log s) (known : (e : Entry) → In e (holds t) → knows_entry t e ≡ true) where
  pub pulled_once : AreOnce (holds t) → AreOnce (holds s) → AreOnce (holds (pulled t s))
  pulled_once once_t once_s v =
      let all : occurrences v (holds (pulled t s)) ≤ occurrences v (taken t s ++ handed t s) + occurrences v (holds t) = sum_pulled (λ e. cond (is_of v e) 1 0) t s in
      let few : occurrences v (taken t s ++ handed t s) ≤ occurrences v (holds s) = sum_coming (λ e. cond (is_of v e) 1 0) t s in
      let old_t : occurrences v (holds t) ≤ 1 = once_t v in
      let old_s : occurrences v (holds s) ≤ 1 = once_s v in
      elim (found v (taken t s ++ handed t s)) [
        | inl none ↦ omega arith
        | inr new ↦ elim (found v (holds t)) [
          | inl none ↦ omega arith
          | inr old ↦
              let told = coming_is_told t s new.1 in
              let one : new.0 ≡ old.0 = L.distinct new.0 old.0 (S.logged new.0 (told_held t s told)) (T.logged old.0 old.1) (new.2 ∙ sym old.2) in
              clash (knows_entry t new.0) (ap (knows_entry t) one ∙ known old.0 old.1) (told_unknown t s told)
        ]
      ]

  pub handed_once : AreOnce (holds s) → AreOnce (holds (handed_over t s))
  handed_once once v =
      let all : occurrences v (holds (handed_over t s)) ≤ occurrences v (holds s) = sum_handed (λ e. cond (is_of v e) 1 0) t s in
      let old : occurrences v (holds s) ≤ 1 = once v in
      omega arith

-- an element other than the first is in the rest
behind : (e y : Entry) (ys : List Entry) → In e (y ∷ ys) → not (is_of y.version e) ≡ true → In e ys
behind e y ys (here same) other = clash (is_of y.version e) (is_same_version e.version y.version (ap (λ (x : Entry). x.version) same)) (not-true (is_of y.version e) other)
behind e y ys (there i) other = i

at_most_one : (v : Version) (p : Entry → Bool) (xs : List Entry) → occurrences v xs ≤ 1 → occurrences v (filter p xs) ≤ 1
at_most_one v p xs once = let fewer : occurrences v (filter p xs) ≤ occurrences v xs = sum_passed (λ e. cond (is_of v e) 1 0) p xs in omega arith

none_in : (xs : List Entry) → ((e : Entry) → In e xs → In e []) → length xs ≤ 0
none_in [] among = omega arith
none_in (x ∷ xs) among = in_nothing (among x (here refl))

-- a list with no version twice is no longer than a list that has all its entries
pub no_more : (ys xs : List Entry) → ((e : Entry) → In e xs → In e ys) → AreOnce xs → length xs ≤ length ys
no_more [] xs among once = none_in xs among
no_more (y ∷ ys) xs among once =
    let others_of : Entry → Bool = λ (e : Entry). not (is_of y.version e) in
    let rest : List Entry = filter others_of xs in
    let both : length (filter (is_of y.version) xs) + length rest ≡ length xs = length-filter_both (is_of y.version) others_of (λ _. refl) xs in
    let counted : length (filter (is_of y.version) xs) ≡ occurrences y.version xs = length-filter (is_of y.version) xs in
    let one : occurrences y.version xs ≤ 1 = once y.version in
    let among_rest : (e : Entry) → In e rest → In e ys = λ e i. let r = in_passed others_of xs i in behind e y ys (among e r.0) r.1 in
    let once_in_rest : AreOnce rest = λ v. at_most_one v others_of xs (once v) in
    let fewer : length rest ≤ length ys = no_more ys rest among_rest once_in_rest in
    omega arith
