-- A run of another arena's rows, placed stretch by stretch.
use Rattle.std.proofs.Common.{◌≡◌, ℕ, zero, suc, ◌+◌, ◌-◌, ◌<◌, ◌≤◌, List, [], ◌∷◌, ◌++◌, length, take, drop, sym, ap, ◌∙◌, arith, append_assoc}
use Rattle.std.proofs.Math.Seq.{take-add, drop-nil}
use Rattle.std.proofs.lemmas.List.{length-drop, length-take}
use Rattle.fragment_arena.specs.Arena.{run, words_in}

pub drop-drop : {A : Type 0} (n m : ℕ) (xs : List A) → drop n (drop m xs) ≡ drop (m + n) xs
drop-drop n zero xs = let same : n ≡ 0 + n = omega arith in ap (λ k. drop k xs) same
drop-drop n (suc m) [] = drop-nil n ∙ sym (drop-nil (suc m + n))
drop-drop n (suc m) (x ∷ xs) = let same : suc (m + n) ≡ suc m + n = omega arith in drop-drop n m xs ∙ ap (λ k. drop k (x ∷ xs)) same

pub run-split : (rows : List (List ℕ)) (from mid to : ℕ) → from ≤ mid → mid ≤ to → run rows from to ≡ run rows from mid ++ run rows mid to
run-split rows from mid to low high =
    let all : to - from ≡ (mid - from) + (to - mid) = omega (arith, low, high) in
    let rest : from + (mid - from) ≡ mid = omega (arith, low) in
    ap (λ n. take n (drop from rows)) all ∙ take-add (mid - from) (to - mid) (drop from rows)
    ∙ ap (λ rs. run rows from mid ++ take (to - mid) rs) (drop-drop (mid - from) from rows ∙ ap (λ n. drop n rows) rest)

words-append : (xs ys : List (List ℕ)) → words_in (xs ++ ys) ≡ words_in xs + words_in ys
words-append [] ys = omega arith
words-append (x ∷ xs) ys = let rest = words-append xs ys in omega (arith, rest)

pub words-split : (rows : List (List ℕ)) (from mid to : ℕ) → from ≤ mid → mid ≤ to → words_in (run rows from to) ≡ words_in (run rows from mid) + words_in (run rows mid to)
words-split rows from mid to low high = ap words_in (run-split rows from mid to low high) ∙ words-append (run rows from mid) (run rows mid to)

pub run-less : (rows : List (List ℕ)) (from mid to : ℕ) → from ≤ mid → mid ≤ to → words_in (run rows from mid) ≤ words_in (run rows from to)
run-less rows from mid to low high = omega (arith, words-split rows from mid to low high)

-- the rows of a run before `place` are placed, and their words and rows are taken from the reserved capacity
pub record IsPlaced (rows : List (List ℕ)) (from to place : ℕ) (old new : List (List ℕ)) (old_words new_words old_slots new_slots : ℕ) : Type 0 where
  pub placed : new ++ run rows place to ≡ old ++ run rows from to
  pub words : new_words + words_in (run rows from to) ≡ old_words + words_in (run rows place to)
  pub slots : new_slots + (place - from) ≡ old_slots

pub many-placed : (rows : List (List ℕ)) (from to place end : ℕ) (old new next : List (List ℕ)) (old_words new_words next_words old_slots new_slots next_slots : ℕ)
    → from ≤ place → place < end → end ≤ to → next ≡ new ++ run rows place end → next_words + words_in (run rows place end) ≡ new_words → next_slots + (end - place) ≡ new_slots
    → IsPlaced rows from to place old new old_words new_words old_slots new_slots → IsPlaced rows from to end old next old_words next_words old_slots next_slots
many-placed rows from to place end old new next old_words new_words next_words old_slots new_slots next_slots low lt le added words slots h =
    let all : run rows place to ≡ run rows place end ++ run rows end to = run-split rows place end to (omega (arith, lt)) le in
    let count : words_in (run rows place to) ≡ words_in (run rows place end) + words_in (run rows end to) = ap words_in all ∙ words-append (run rows place end) (run rows end to) in
    record {
      placed = (λ i. added i ++ run rows end to) ∙ append_assoc new (run rows place end) (run rows end to) ∙ ap (λ rs. new ++ rs) (sym all) ∙ h.placed;
      words = omega (arith, count, words, h.words);
      slots = omega (arith, slots, h.slots, low, lt);
    }

-- the words before a run and the words of the run are the words before its end
pub words-between : (rows : List (List ℕ)) (from to : ℕ) → from ≤ to → words_in (take from rows) + words_in (run rows from to) ≡ words_in (take to rows)
words-between rows from to le =
    let start : from - 0 ≡ from = omega arith in
    let all : to - 0 ≡ to = omega arith in
    let split = words-split rows 0 from to (omega arith) le in
    let low = ap (λ n. words_in (take n rows)) start in
    let high = ap (λ n. words_in (take n rows)) all in
    omega (arith, split, low, high)

pub run-long : (rows : List (List ℕ)) (from to : ℕ) → from ≤ to → to ≤ length rows → length (run rows from to) ≡ to - from
run-long rows from to low high = omega (arith, length-take (to - from) (drop from rows), length-drop from rows, low, high)
