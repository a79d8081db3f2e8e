-- Rows, cut out of words at their ends.
use Rattle.std.proofs.Common.{◌≡◌, ℕ, zero, suc, ◌+◌, ◌-◌, ◌<◌, ◌≤◌, List, [], ◌∷◌, ◌++◌, length, take, drop, get_or, set, map, refl, sym, ap, subst, ◌∙◌, arith, length-append, length-set, ◌^◌}
use Rattle.std.proofs.Math.Seq.{take-length, take-append-le, drop-append-le, drop-append-add, take-take, drop-drop, drop-set-lt, get_or-drop}
use Rattle.std.proofs.lemmas.List.{drop-take, length-drop, length-take, get_or_read_under, take_more_set, map_more}
use Rattle.fragment_arena.specs.Arena.{run, words_in}
use Rattle.fragment_arena.specs.Rows.{cut_at, AreEnds, CanMove}

pub cut-length : (ws : List ℕ) (from : ℕ) (ends : List ℕ) → length (cut_at ws from ends) ≡ length ends
cut-length ws from [] = refl
cut-length ws from (e ∷ es) = ap suc (cut-length ws e es)

-- where row i begins
abbrev pub begin_of : ℕ → List ℕ → ℕ → ℕ
begin_of from ends i = get_or (from ∷ ends) i 0

pub end-low : (from : ℕ) (ends : List ℕ) (len : ℕ) → AreEnds from ends len → from ≤ len
end-low from [] len a = omega (arith, a)
end-low from (e ∷ es) len a = omega (arith, a.0, end-low e es len a.1)

pub begins-low : (from : ℕ) (ends : List ℕ) (len i : ℕ) → AreEnds from ends len → i ≤ length ends → begin_of from ends i ≤ len
begins-low from ends len zero a le = end-low from ends len a
begins-low from [] len (suc i) a le = absurd (omega (arith, le))
begins-low from (e ∷ es) len (suc i) a le = begins-low e es len i a.1 (omega (arith, le))

pub cut-read : (ws : List ℕ) (from : ℕ) (ends : List ℕ) (i : ℕ) → i < length ends
    → get_or (cut_at ws from ends) i [] ≡ take (get_or ends i 0 - begin_of from ends i) (drop (begin_of from ends i) ws)
cut-read ws from [] i lt = absurd (omega (arith, lt))
cut-read ws from (e ∷ es) zero lt = refl
cut-read ws from (e ∷ es) (suc i) lt = cut-read ws e es i (omega (arith, lt))

one-long : (ws : List ℕ) (from e : ℕ) → from ≤ e → e ≤ length ws → length (take (e - from) (drop from ws)) ≡ e - from
one-long ws from e low high =
    let rest = length-drop from ws in
    let all = length-take (e - from) (drop from ws) in
    omega (arith, rest, all, low, high)

pub begins-count : (ws : List ℕ) (from : ℕ) (ends : List ℕ) (i : ℕ) → AreEnds from ends (length ws) → i ≤ length ends → from + words_in (take i (cut_at ws from ends)) ≡ begin_of from ends i
begins-count ws from ends zero a le = omega arith
begins-count ws from [] (suc i) a le = absurd (omega (arith, le))
begins-count ws from (e ∷ es) (suc i) a le =
    let long = one-long ws from e a.0 (end-low e es (length ws) a.1) in
    let rest = begins-count ws e es i a.1 (omega (arith, le)) in
    omega (arith, long, rest, a.0)

pub row-long : (ws : List ℕ) (from : ℕ) (ends : List ℕ) (i : ℕ) → AreEnds from ends (length ws) → i < length ends
    → begin_of from ends i + length (get_or (cut_at ws from ends) i []) ≡ get_or ends i 0
row-long ws from [] i a lt = absurd (omega (arith, lt))
row-long ws from (e ∷ es) zero a lt = let long = one-long ws from e a.0 (end-low e es (length ws) a.1) in omega (arith, long, a.0)
row-long ws from (e ∷ es) (suc i) a lt = row-long ws e es i a.1 (omega (arith, lt))

-- Appending words

shifted : (ws vs : List ℕ) (from : ℕ) (more : List ℕ) → cut_at (ws ++ vs) (length ws + from) (map (λ e. length ws + e) more) ≡ cut_at vs from more
shifted ws vs from [] = refl
shifted ws vs from (e ∷ es) =
    let same : (length ws + e) - (length ws + from) ≡ e - from = omega arith in
    λ i. take (same i) (drop-append-add ws vs from i) ∷ shifted ws vs e es i

pub cut-appended : (ws vs : List ℕ) (from : ℕ) (ends more : List ℕ) → AreEnds from ends (length ws)
    → cut_at (ws ++ vs) from (ends ++ map (λ e. length ws + e) more) ≡ cut_at ws from ends ++ cut_at vs 0 more
cut-appended ws vs from [] more a =
    let start : from ≡ length ws + 0 = omega (arith, a) in
    ap (λ n. cut_at (ws ++ vs) n (map (λ e. length ws + e) more)) start ∙ shifted ws vs 0 more
cut-appended ws vs from (e ∷ es) more a =
    let high : e ≤ length ws = end-low e es (length ws) a.1 in
    let low : from ≤ length ws = omega (arith, a.0, high) in
    let inside : e - from ≤ length (drop from ws) = omega (arith, high, length-drop from ws) in
    let first : take (e - from) (drop from (ws ++ vs)) ≡ take (e - from) (drop from ws) =
    ap (take (e - from)) (drop-append-le from ws vs low) ∙ take-append-le (e - from) (drop from ws) vs inside in
    λ i. first i ∷ cut-appended ws vs e es more a.1 i

shifted-ends : (n from : ℕ) (more : List ℕ) (len : ℕ) → AreEnds from more len → AreEnds (n + from) (map (λ e. n + e) more) (n + len)
shifted-ends n from [] len a = ap (λ k. n + k) a
shifted-ends n from (e ∷ es) len a = (omega (arith, a.0), shifted-ends n e es len a.1)

pub ends-appended : (from : ℕ) (ends more : List ℕ) (n len : ℕ) → AreEnds from ends n → AreEnds 0 more len → AreEnds from (ends ++ map (λ e. n + e) more) (n + len)
ends-appended from [] more n len a b =
    let start : n + 0 ≡ from = omega (arith, a) in
    subst (λ f. AreEnds f (map (λ e. n + e) more) (n + len)) start (shifted-ends n 0 more len b)
ends-appended from (e ∷ es) more n len a b = (a.0, ends-appended e es more n len a.1 b)

-- A run of rows

cut-drop : (ws : List ℕ) (from : ℕ) (ends : List ℕ) (i : ℕ) → i ≤ length ends → drop i (cut_at ws from ends) ≡ cut_at ws (begin_of from ends i) (drop i ends)
cut-drop ws from ends zero le = refl
cut-drop ws from [] (suc i) le = absurd (omega (arith, le))
cut-drop ws from (e ∷ es) (suc i) le = cut-drop ws e es i (omega (arith, le))

cut-take : (ws : List ℕ) (from : ℕ) (ends : List ℕ) (n : ℕ) → take n (cut_at ws from ends) ≡ cut_at ws from (take n ends)
cut-take ws from ends zero = refl
cut-take ws from [] (suc n) = refl
cut-take ws from (e ∷ es) (suc n) = ap (λ rows. take (e - from) (drop from ws) ∷ rows) (cut-take ws e es n)

pub cut-run : (ws : List ℕ) (from : ℕ) (ends : List ℕ) (a b : ℕ) → a ≤ length ends → run (cut_at ws from ends) a b ≡ cut_at ws (begin_of from ends a) (take (b - a) (drop a ends))
cut-run ws from ends a b le = ap (take (b - a)) (cut-drop ws from ends a le) ∙ cut-take ws (begin_of from ends a) (drop a ends) (b - a)

ends-drop : (from : ℕ) (ends : List ℕ) (len i : ℕ) → AreEnds from ends len → i ≤ length ends → AreEnds (begin_of from ends i) (drop i ends) len
ends-drop from ends len zero a le = a
ends-drop from [] len (suc i) a le = absurd (omega (arith, le))
ends-drop from (e ∷ es) len (suc i) a le = ends-drop e es len i a.1 (omega (arith, le))

ends-take : (from : ℕ) (ends : List ℕ) (len n : ℕ) → AreEnds from ends len → n ≤ length ends → AreEnds from (take n ends) (begin_of from ends n)
ends-take from ends len zero a le = refl
ends-take from [] len (suc n) a le = absurd (omega (arith, le))
ends-take from (e ∷ es) len (suc n) a le = (a.0, ends-take e es len n a.1 (omega (arith, le)))

begin-drop : (from : ℕ) (ends : List ℕ) (a n : ℕ) → a + n ≤ length ends → begin_of (begin_of from ends a) (drop a ends) n ≡ begin_of from ends (a + n)
begin-drop from ends zero n le = let none : n ≡ 0 + n = omega arith in ap (begin_of from ends) none
begin-drop from [] (suc a) n le = absurd (omega (arith, le))
begin-drop from (e ∷ es) (suc a) n le = let place : suc (a + n) ≡ suc a + n = omega arith in begin-drop e es a n (omega (arith, le)) ∙ ap (begin_of from (e ∷ es)) place

pub ends-run : (from : ℕ) (ends : List ℕ) (len a b : ℕ) → AreEnds from ends len → a ≤ b → b ≤ length ends → AreEnds (begin_of from ends a) (take (b - a) (drop a ends)) (begin_of from ends b)
ends-run from ends len a b h low high =
    let count : b - a ≤ length (drop a ends) = omega (arith, low, high, length-drop a ends) in
    let all : a + (b - a) ≡ b = omega (arith, low) in
    let there : a + (b - a) ≤ length ends = omega (arith, all, high) in
    subst (AreEnds (begin_of from ends a) (take (b - a) (drop a ends))) (begin-drop from ends a (b - a) there ∙ ap (begin_of from ends) all)
    (ends-take (begin_of from ends a) (drop a ends) len (b - a) (ends-drop from ends len a h (omega (arith, low, high))) count)

-- the same rows, cut out of the part of the words that they occupy
based : (ws : List ℕ) (base from m : ℕ) (ends : List ℕ) → AreEnds (base + from) ends (base + m) → base + m ≤ length ws
    → cut_at ws (base + from) ends ≡ cut_at (take m (drop base ws)) from (map (λ e. e - base) ends)
based ws base from m [] a le = refl
based ws base from m (e ∷ es) a le =
    let high : e ≤ base + m = end-low e es (base + m) a.1 in
    let place : base + (e - base) ≡ e = omega (arith, a.0) in
    let count : e - (base + from) ≡ e - base - from = omega arith in
    let rest : from + (m - from) ≡ m = omega (arith, a.0, high) in
    let within : e - base - from ≤ m - from = omega (arith, high) in
    let first : take (e - (base + from)) (drop (base + from) ws) ≡ take (e - base - from) (drop from (take m (drop base ws))) =
    (λ i. take (count i) (sym (drop-drop from base ws) i)) ∙ sym (take-take (e - base - from) (m - from) (drop from (drop base ws)) within)
    ∙ ap (take (e - base - from)) (sym (drop-take from (m - from) (drop base ws)) ∙ ap (λ n. drop from (take n (drop base ws))) rest) in
    let next : AreEnds (base + (e - base)) es (base + m) = subst (λ n. AreEnds n es (base + m)) (sym place) a.1 in
    λ i. first i ∷ (ap (λ n. cut_at ws n es) (sym place) ∙ based ws base (e - base) m es next le) i

based-ends : (base from m : ℕ) (ends : List ℕ) → AreEnds (base + from) ends (base + m) → AreEnds from (map (λ e. e - base) ends) m
based-ends base from m [] a = omega (arith, a)
based-ends base from m (e ∷ es) a =
    let place : base + (e - base) ≡ e = omega (arith, a.0) in
    (omega (arith, a.0), based-ends base (e - base) m es (subst (λ n. AreEnds n es (base + m)) (sym place) a.1))

module _ (ws : List ℕ) (ends : List ℕ) (a b : ℕ) (h : AreEnds 0 ends (length ws)) (low : a ≤ b) (high : b ≤ length ends) where
  abbrev pub first : ℕ
  first = begin_of 0 ends a

  abbrev pub count : ℕ
  count = words_in (run (cut_at ws 0 ends) a b)

  abbrev pub part : List ℕ
  part = take (b - a) (drop a ends)

  there : a ≤ length ends
  there = omega (arith, low, high)

  part-ends : AreEnds first part (begin_of 0 ends b)
  part-ends = ends-run 0 ends (length ws) a b h low high

  in-words : begin_of 0 ends b ≤ length ws
  in-words = begins-low 0 ends (length ws) b h high

  words-of : (from : ℕ) (es : List ℕ) (len : ℕ) → AreEnds from es len → len ≤ length ws → from + words_in (cut_at ws from es) ≡ len
  words-of from [] len g le = omega (arith, g)
  words-of from (e ∷ es) len g le =
      let top = end-low e es len g.1 in
      let long = one-long ws from e g.0 (omega (arith, top, le)) in
      let rest = words-of e es len g.1 le in
      omega (arith, long, rest, g.0)

  pub run-words : first + count ≡ begin_of 0 ends b
  run-words = ap (λ rows. first + words_in rows) (cut-run ws 0 ends a b there) ∙ words-of first part (begin_of 0 ends b) part-ends in-words

  pub run-inside : first + count ≤ length ws
  run-inside = omega (arith, run-words, in-words)

  part-from : AreEnds (first + 0) part (first + count)
  part-from =
      let start : first ≡ first + 0 = omega arith in
      subst (λ n. AreEnds n part (first + count)) start (subst (AreEnds first part) (sym run-words) part-ends)

  pub run-ends : AreEnds 0 (map (λ e. e - first) part) count
  run-ends = based-ends first 0 count part part-from

  pub run-rows : run (cut_at ws 0 ends) a b ≡ cut_at (take count (drop first ws)) 0 (map (λ e. e - first) part)
  run-rows =
      let start : first ≡ first + 0 = omega arith in
      cut-run ws 0 ends a b there ∙ ap (λ n. cut_at ws n part) start ∙ based ws first 0 count part part-from run-inside

-- Overwriting a word

-- The rows of a block

module _ (ws ends : List ℕ) (rows : List (List ℕ)) (is : cut_at ws 0 ends ≡ rows) (a : AreEnds 0 ends (length ws)) where
  pub count-is : length ends ≡ length rows
  count-is = sym (cut-length ws 0 ends) ∙ ap length is

  pub begin-is : (i : ℕ) → i ≤ length rows → words_in (take i rows) ≡ begin_of 0 ends i
  begin-is i le =
      let counted = begins-count ws 0 ends i a (omega (arith, le, count-is)) in
      ap (λ rs. words_in (take i rs)) (sym is) ∙ omega (arith, counted)

  pub end-is : (i : ℕ) → i < length rows → words_in (take i rows) + length (get_or rows i []) ≡ get_or ends i 0
  end-is i lt =
      let long = row-long ws 0 ends i a (omega (arith, lt, count-is)) in
      let same = ap (λ rs. length (get_or rs i [])) is in
      omega (arith, long, same, begin-is i (omega (arith, lt)))

  -- reading an end before row i gives where the row begins, whatever the default
  pub begin-read : (i n : ℕ) → ¬ (i ≡ 0) → i ≤ length rows → n ≡ get_or ends (i - 1) n → n ≡ words_in (take i rows)
  begin-read zero n some le read = absurd (some refl)
  begin-read (suc i) n some le read =
      let place : suc i - 1 ≡ i = omega arith in
      get_or_read_under ends i (length ends) n 0 (read ∙ ap (λ k. get_or ends k n) place) (omega (arith, le, count-is)) refl ∙ sym (begin-is (suc i) le)

  pub end-read : (i n : ℕ) → i < length rows → n ≡ get_or ends i n → words_in (take i rows) + length (get_or rows i []) ≡ n
  end-read i n lt read = end-is i lt ∙ sym (get_or_read_under ends i (length ends) n 0 read (omega (arith, lt, count-is)) refl)

  pub end-inside : (i : ℕ) → i < length rows → words_in (take i rows) + length (get_or rows i []) ≤ length ws
  end-inside i lt = omega (arith, end-is i lt, begins-low 0 ends (length ws) (suc i) a (omega (arith, lt, count-is)))

  pub row-is : (i len : ℕ) → i < length rows → len ≡ length (get_or rows i []) → take len (drop (words_in (take i rows)) ws) ≡ get_or rows i []
  row-is i len lt long =
      let below : i < length ends = omega (arith, lt, count-is) in
      let place = begin-is i (omega (arith, lt)) in
      let count : len ≡ get_or ends i 0 - begin_of 0 ends i = omega (arith, end-is i lt, place, long) in
      (λ k. take (count k) (drop (place k) ws)) ∙ sym (cut-read ws 0 ends i below) ∙ ap (λ rs. get_or rs i []) is

  -- one more row
  pub placed-is : (row : List ℕ) (e : ℕ) → e ≡ length ws + length row → cut_at (ws ++ row) 0 (ends ++ e ∷ []) ≡ rows ++ row ∷ []
  placed-is row e at =
      let all : length row - 0 ≡ length row = omega arith in
      ap (λ n. cut_at (ws ++ row) 0 (ends ++ n ∷ [])) at ∙ cut-appended ws row 0 ends (length row ∷ []) a
      ∙ (λ k. is k ++ (ap (λ n. take n row) all ∙ take-length row) k ∷ [])

  pub placed-ends : (row : List ℕ) (e : ℕ) → e ≡ length ws + length row → AreEnds 0 (ends ++ e ∷ []) (length (ws ++ row))
  placed-ends row e at =
      let low : 0 ≤ length row = omega arith in
      let all : length ws + length row ≡ length (ws ++ row) = sym (length-append ws row) in
      subst (AreEnds 0 (ends ++ e ∷ [])) all
      (subst (λ n. AreEnds 0 (ends ++ n ∷ []) (length ws + length row)) (sym at) (ends-appended 0 ends (length row ∷ []) (length ws) (length row) a (low, refl)))

-- Ends moved one by one

pub can-move-at : (first at : ℕ) (ends : List ℕ) (i d : ℕ) → CanMove first at ends → i < length ends → (first ≤ get_or ends i d) × (get_or ends i d - first + at < 2 ^ 32)
can-move-at first at [] i d h lt = absurd (omega (arith, lt))
can-move-at first at (e ∷ es) zero d h lt = (h.0, h.1)
can-move-at first at (e ∷ es) (suc i) d h lt = can-move-at first at es i d h.2 (omega (arith, lt))

pub can-move : (first at : ℕ) (from : ℕ) (ends : List ℕ) (len : ℕ) → AreEnds from ends len → first ≤ from → len - first + at < 2 ^ 32 → CanMove first at ends
can-move first at from [] len a low high = tt
can-move first at from (e ∷ es) len a low high =
    let top = end-low e es len a.1 in
    let next : first ≤ e = omega (arith, low, a.0) in
    (next, omega (arith, top, high, next), can-move first at e es len a.1 next high)

-- the ends up to place i are moved, and the others are unchanged
pub record AreMoved (first at : ℕ) (old new : List ℕ) (i : ℕ) : Type 0 where
  pub moved : take i new ≡ map (λ e. e - first + at) (take i old)
  pub rest : drop i new ≡ drop i old
  pub long : length new ≡ length old

pub still-there : (first at : ℕ) (old new : List ℕ) (i d : ℕ) → AreMoved first at old new i → get_or new i d ≡ get_or old i d
still-there first at old new i d h =
    let place : i ≡ i + 0 = omega arith in
    ap (λ k. get_or new k d) place ∙ sym (get_or-drop i new 0 d) ∙ ap (λ xs. get_or xs 0 d) h.rest ∙ get_or-drop i old 0 d ∙ ap (λ k. get_or old k d) (sym place)

pub moved-one : (first at : ℕ) (old new : List ℕ) (i n d : ℕ) → i < length old → n ≡ get_or new i d - first + at → AreMoved first at old new i → AreMoved first at old (set new i n) (i + 1)
moved-one first at old new i n d lt is h =
    let below : i < length new = omega (arith, lt, h.long) in
    let past : i < i + 1 = omega arith in
    record {
      moved = take_more_set new i n below ∙ (λ k. h.moved k ++ (is ∙ ap (λ x. x - first + at) (still-there first at old new i d h)) k ∷ []) ∙ sym (map_more (λ x. x - first + at) old i d lt);
      rest = drop-set-lt (i + 1) new i n past ∙ sym (drop-drop 1 i new) ∙ ap (drop 1) h.rest ∙ drop-drop 1 i old;
      long = length-set new i n ∙ h.long;
    }

-- A run of another block's rows is appended to a block

twice-moved : (n first : ℕ) (part : List ℕ) → map (λ e. n + e) (map (λ e. e - first) part) ≡ map (λ e. e - first + n) part
twice-moved n first [] = refl
twice-moved n first (e ∷ es) = let same : n + (e - first) ≡ e - first + n = omega arith in λ i. same i ∷ twice-moved n first es i

module _ (ws ends : List ℕ) (rows : List (List ℕ)) (is : cut_at ws 0 ends ≡ rows) (h : AreEnds 0 ends (length ws))
    (vs stops : List ℕ) (others : List (List ℕ)) (are : cut_at vs 0 stops ≡ others) (g : AreEnds 0 stops (length vs)) (a b : ℕ) (low : a ≤ b) (high : b ≤ length others) where
  inside : b ≤ length stops
  inside = omega (arith, high, count-is vs stops others are g)

  start : words_in (take a others) ≡ begin_of 0 stops a
  start = begin-is vs stops others are g a (omega (arith, low, high))

  long : words_in (run others a b) ≡ words_in (run (cut_at vs 0 stops) a b)
  long = ap (λ rs. words_in (run rs a b)) (sym are)

  pub taken-inside : words_in (take a others) + words_in (run others a b) ≤ length vs
  taken-inside = omega (arith, start, long, run-inside vs stops a b g low inside)

  pub taken-can-move : (at : ℕ) → at + words_in (run others a b) < 2 ^ 32 → CanMove (words_in (take a others)) at (take (b - a) (drop a stops))
  taken-can-move at fits =
      let all = run-words vs stops a b g low inside in
      let same : words_in (take a others) ≤ begin_of 0 stops a = omega (arith, start) in
      can-move (words_in (take a others)) at (begin_of 0 stops a) (take (b - a) (drop a stops)) (begin_of 0 stops b) (ends-run 0 stops (length vs) a b g low inside) same (omega (arith, all, long, start, fits))

  pub taken-rows : cut_at (ws ++ take (words_in (run others a b)) (drop (words_in (take a others)) vs)) 0 (ends ++ map (λ e. e - words_in (take a others) + length ws) (take (b - a) (drop a stops)))
      ≡ rows ++ run others a b
  taken-rows =
      (λ i. cut_at (ws ++ take (long i) (drop (start i) vs)) 0 (ends ++ sym (twice-moved (length ws) (start i) (take (b - a) (drop a stops))) i))
      ∙ cut-appended ws (take (words_in (run (cut_at vs 0 stops) a b)) (drop (begin_of 0 stops a) vs)) 0 ends (map (λ e. e - begin_of 0 stops a) (take (b - a) (drop a stops))) h
      ∙ (λ i. is i ++ (sym (run-rows vs stops a b g low inside) ∙ ap (λ rs. run rs a b) are) i)

  pub taken-ends : AreEnds 0 (ends ++ map (λ e. e - words_in (take a others) + length ws) (take (b - a) (drop a stops)))
      (length (ws ++ take (words_in (run others a b)) (drop (words_in (take a others)) vs)))
  taken-ends =
      let part = take (words_in (run (cut_at vs 0 stops) a b)) (drop (begin_of 0 stops a) vs) in
      let rest = length-drop (begin_of 0 stops a) vs in
      let cut_off = length-take (words_in (run (cut_at vs 0 stops) a b)) (drop (begin_of 0 stops a) vs) in
      let count : words_in (run (cut_at vs 0 stops) a b) ≡ length part = omega (arith, rest, cut_off, run-inside vs stops a b g low inside) in
      let all : length ws + words_in (run (cut_at vs 0 stops) a b) ≡ length (ws ++ part) = omega (arith, count, length-append ws part) in
      subst (λ n. AreEnds 0 n (length (ws ++ take (words_in (run others a b)) (drop (words_in (take a others)) vs)))) (λ i. ends ++ (twice-moved (length ws) (sym start i) (take (b - a) (drop a stops))) i)
      (subst (AreEnds 0 _) (λ i. length (ws ++ take (sym long i) (drop (sym start i) vs)))
      (subst (AreEnds 0 _) all (ends-appended 0 ends (map (λ e. e - begin_of 0 stops a) (take (b - a) (drop a stops))) (length ws) (words_in (run (cut_at vs 0 stops) a b)) h (run-ends vs stops a b g low inside))))
