-- Sets of words as rising lists: search and insertion.
use Rattle.std.proofs.Common.{◌≡◌, ◌≢◌, ℕ, zero, suc, ◌+◌, ◌<◌, ◌≤◌, true, false, cond, ◌==◌, List, [], ◌∷◌, ◌++◌, length, get_or, slice_index_or, take, drop, Result, Ok, Err, refl, sym, ap, subst, ◌∙◌, add-one, arith, inl, inr}
use Rattle.std.proofs.lemmas.Bool.{and_parts, and_from, or_parts, or_from, cases_Bool, cases_lt, lt-leb, cond-true, cond-false}
use Rattle.std.proofs.lemmas.List.{get_or_read, take_more, at_drop_more, take-append-drop}
use Rattle.std.proofs.lemmas.List.Elements.{All-cons, All-head, All-tail}
use Rattle.std.proofs.lemmas.Cmp.{nat_list_cmp_total}
use Rattle.std.proofs.lemmas.List.Splits.{length-slice_split}
use Rattle.std.proofs.lemmas.List.Folds.{list_any_at}
use Rattle.std.proofs.lemmas.List.Sorted.{searchable_from_sorted}
use Rattle.std.specs.Cmp.{IsTotalOrder}
use Rattle.std.specs.Cmp.Lexicographic.{slice_cmp, texts_ties}
use Rattle.std.specs.declared.cmp.Ordering.{Ordering}
use Rattle.std.specs.declared.cmp.Ordering.TheVariants.{Less, Equal, Greater}
use Rattle.std.specs.List.{All, HoldsAt, insert}
use Rattle.std.specs.List.Sorted.{IsSortedBy, IsNonDecreasingBy, IsPartitionPoint}
use Rattle.std.specs.Str.{bytes_eq}
use Rattle.std.specs.Ordering.{nat_cmp, is_lt, is_eq, ordering_reverse, ordering_index}
use Rattle.photo_record.specs.Word.{IsWord, IsWordSet, word_before, is_rising, has_word, put_word}
use Rattle.photo_record.specs.Reading.{word_of_text, ◌>>=◌, with_new_word, with_piece, with_pieces, pieces_of, is_dash, words_of_text, MayWantMemory}
use Rattle.photo_record.specs.declared.fault.WordFault.{WordFault}
use Rattle.photo_record.specs.declared.fault.WordFault.TheVariants.{Empty, TooMany, Repeated}
use Rattle.photo_record.proofs.FormLemmas.{word_of_text-nil}

abbrev pub order : List ℕ → List ℕ → Ordering
order = slice_cmp nat_cmp

less_back : (v w : List ℕ) → order v w ≡ Less → order w v ≡ Greater
less_back v w h = let o : IsTotalOrder order = nat_list_cmp_total in o.antisymm w v ∙ ap ordering_reverse h

greater_back : (v w : List ℕ) → order v w ≡ Greater → order w v ≡ Less
greater_back v w h = let o : IsTotalOrder order = nat_list_cmp_total in o.antisymm w v ∙ ap ordering_reverse h

less_from_before : (v w : List ℕ) → word_before v w ≡ true → order v w ≡ Less
less_from_before v w h = by (order v w) h
  where
    by : (o : Ordering) → is_lt o ≡ true → o ≡ Less
    by Less h = refl
    by Equal h = cc
    by Greater h = cc

not_before : (v w : List ℕ) → order v w ≡ Less → word_before w v ≡ false
not_before v w h = ap is_lt (less_back v w h)

same-from_equal : (v w : List ℕ) → order v w ≡ Equal → bytes_eq v w ≡ true
same-from_equal v w h = texts_ties v w ∙ ap is_eq h

differ-from_less : (v w : List ℕ) → order v w ≡ Less → bytes_eq v w ≡ false
differ-from_less v w h = texts_ties v w ∙ ap is_eq h

differ-from_greater : (v w : List ℕ) → order v w ≡ Greater → bytes_eq v w ≡ false
differ-from_greater v w h = texts_ties v w ∙ ap is_eq h

pub rising_tail : (v : List ℕ) (vs : List (List ℕ)) → is_rising (v ∷ vs) ≡ true → is_rising vs ≡ true
rising_tail v [] h = refl
rising_tail v (w ∷ ws) h = (and_parts _ _ h).1

rising_head : (v w : List ℕ) (ws : List (List ℕ)) → is_rising (v ∷ w ∷ ws) ≡ true → order v w ≡ Less
rising_head v w ws h = less_from_before v w (and_parts _ _ h).0

-- what a binary search asks of the words' order
next_after : (words : List (List ℕ)) → is_rising words ≡ true → (k : ℕ) (d : List ℕ) → suc k < length words → is_lt (order (get_or words (suc k) d) (get_or words k d)) ≡ false
next_after [] h k d lt = absurd (omega arith)
next_after (v ∷ []) h k d lt = absurd (omega arith)
next_after (v ∷ w ∷ ws) h zero d lt = not_before v w (rising_head v w ws h)
next_after (v ∷ w ∷ ws) h (suc k) d lt = next_after (w ∷ ws) (rising_tail v (w ∷ ws) h) k d (omega arith)

sorted : (words : List (List ℕ)) → is_rising words ≡ true → IsSortedBy (λ a b. is_lt (order a b)) words
sorted words h k d lo hi = rw add-one (next_after words h k d (omega arith))

pub searchable : (words : List (List ℕ)) (w : List ℕ) → is_rising words ≡ true → IsNonDecreasingBy (λ y. ordering_index (order y w)) words
searchable words w h = searchable_from_sorted nat_list_cmp_total (λ x. x) words w (sorted words h)

has_word_none : (words : List (List ℕ)) (w : List ℕ) → ((k : ℕ) (d : List ℕ) → k < length words → bytes_eq (get_or words k d) w ≡ false) → has_word words w ≡ false
has_word_none [] w h = refl
has_word_none (v ∷ vs) w h =
    or_from _ _ (h zero v (omega arith)) (has_word_none vs w (λ k d lt. h (suc k) d (omega arith)))

-- the search ended between two words: the word is absent and belongs there
pub absent : (words : List (List ℕ)) (w : List ℕ) (i : ℕ) → IsPartitionPoint (λ y. order y w ≡ Less) (λ y. order y w ≡ Greater) words i → has_word words w ≡ false
absent words w i p =
    has_word_none words w (λ k d lt. elim (cases_lt k i) [
      | inl below ↦ differ-from_less (get_or words k d) w (p.0 k d (omega arith) below)
      | inr above ↦ differ-from_greater (get_or words k d) w (p.1 k d above lt)
    ])

pub placed : (words : List (List ℕ)) (w : List ℕ) (i : ℕ) → i ≤ length words → IsPartitionPoint (λ y. order y w ≡ Less) (λ y. order y w ≡ Greater) words i → insert words i w ≡ put_word w words
placed [] w zero le p = refl
placed [] w (suc i) le p = absurd (omega arith)
placed (v ∷ vs) w zero le p =
    let before : word_before w v ≡ true = ap is_lt (greater_back v w (p.1 zero v (omega arith) (omega arith))) in
    sym (ap (λ b. cond b (w ∷ v ∷ vs) (v ∷ put_word w vs)) before)
placed (v ∷ vs) w (suc i) le p =
    let after : word_before w v ≡ false = not_before v w (p.0 zero v (omega arith) (omega arith)) in
    let rest = placed vs w i (omega arith) (λ k d lo hi. p.0 (suc k) d (omega arith) (omega arith), λ k d lo hi. p.1 (suc k) d (omega arith) (omega arith)) in
    ap (λ ws. v ∷ ws) rest ∙ sym (ap (λ b. cond b (w ∷ v ∷ vs) (v ∷ put_word w vs)) after)

-- the search found the word
pub present : (words : List (List ℕ)) (w : List ℕ) (i : ℕ) → i < length words → HoldsAt (λ y. order y w ≡ Equal) words i → has_word words w ≡ true
present words w i lt h = list_any_at (λ v. bytes_eq v w) words i w lt (same-from_equal (get_or words i w) w (h w))

pub length-put_word : (w : List ℕ) (words : List (List ℕ)) → length (put_word w words) ≡ length words + 1
length-put_word w [] = refl
length-put_word w (v ∷ vs) =
    elim (cases_Bool (word_before w v)) [
      | inl before ↦ ap (λ b. length (cond b (w ∷ v ∷ vs) (v ∷ put_word w vs))) before ∙ omega arith
      | inr after ↦ ap (λ b. length (cond b (w ∷ v ∷ vs) (v ∷ put_word w vs))) after ∙ omega (arith, length-put_word w vs)
    ]

-- of two different words one stands before the other
other_before : (v w : List ℕ) → bytes_eq v w ≡ false → word_before w v ≡ false → word_before v w ≡ true
other_before v w differ after = by (order v w) (order w v) (less_back v w) (let o : IsTotalOrder order = nat_list_cmp_total in o.antisymm v w) (sym (texts_ties v w) ∙ differ) after
  where
    by : (a b : Ordering) → (a ≡ Less → b ≡ Greater) → a ≡ ordering_reverse b → is_eq a ≡ false → is_lt b ≡ false → is_lt a ≡ true
    by Less b back flip ne nlt = refl
    by Equal b back flip ne nlt = cc
    by Greater Less back flip ne nlt = cc
    by Greater Equal back flip ne nlt = cc
    by Greater Greater back flip ne nlt = cc

pub rising_put : (w : List ℕ) (words : List (List ℕ)) → is_rising words ≡ true → has_word words w ≡ false → is_rising (put_word w words) ≡ true
rising_put w [] rising none = refl
rising_put w (v ∷ vs) rising none =
    elim (cases_Bool (word_before w v)) [
      | inl before ↦ ap (λ b. is_rising (cond b (w ∷ v ∷ vs) (v ∷ put_word w vs))) before ∙ and_from _ _ before rising
      | inr after ↦
          let first = other_before v w (or_parts _ _ none).0 after in
          ap (λ b. is_rising (cond b (w ∷ v ∷ vs) (v ∷ put_word w vs))) after
          ∙ onto v w vs first rising (rising_put w vs (rising_tail v vs rising) (or_parts _ _ none).1)
    ]
  where
    onto : (v w : List ℕ) (vs : List (List ℕ)) → word_before v w ≡ true → is_rising (v ∷ vs) ≡ true → is_rising (put_word w vs) ≡ true → is_rising (v ∷ put_word w vs) ≡ true
    onto v w [] first rising more = and_from _ _ first refl
    onto v w (u ∷ us) first rising more =
        elim (cases_Bool (word_before w u)) [
          | inl before ↦
              let e = ap (λ b. is_rising (cond b (w ∷ u ∷ us) (u ∷ put_word w us))) before in
              let e2 = ap (λ b. is_rising (v ∷ cond b (w ∷ u ∷ us) (u ∷ put_word w us))) before in
              e2 ∙ and_from _ _ first (sym e ∙ more)
          | inr after ↦
              let e = ap (λ b. is_rising (cond b (w ∷ u ∷ us) (u ∷ put_word w us))) after in
              let e2 = ap (λ b. is_rising (v ∷ cond b (w ∷ u ∷ us) (u ∷ put_word w us))) after in
              e2 ∙ and_from _ _ (and_parts _ _ rising).0 (sym e ∙ more)
        ]

all_put : (w : List ℕ) (words : List (List ℕ)) → All IsWord words → IsWord w → All IsWord (put_word w words)
all_put w [] all is = All-cons IsWord w [] is all
all_put w (v ∷ vs) all is =
    elim (cases_Bool (word_before w v)) [
      | inl before ↦ subst (λ b. All IsWord (cond b (w ∷ v ∷ vs) (v ∷ put_word w vs))) (sym before) (All-cons IsWord w (v ∷ vs) is all)
      | inr after ↦
          subst (λ b. All IsWord (cond b (w ∷ v ∷ vs) (v ∷ put_word w vs))) (sym after)
          (All-cons IsWord v (put_word w vs) (All-head IsWord v vs all) (all_put w vs (All-tail IsWord v vs all) is))
    ]

pub put_set : (words : List (List ℕ)) (w : List ℕ) → IsWordSet words → length words < 16 → has_word words w ≡ false → IsWord w → IsWordSet (put_word w words)
put_set words w set room none is = record {
  rising = rising_put w words set.rising none;
  few = omega (arith, length-put_word w words);
  each = all_put w words set.each is;
}

-- ---- one more piece

pub with_piece-present : (words : List (List ℕ)) (piece w : List ℕ) → length words < 16 → word_of_text piece ≡ Ok w → has_word words w ≡ true → with_piece words piece ≡ Err Repeated
with_piece-present words piece w room is here =
    ap (λ t. cond t (Err TooMany) (word_of_text piece >>= with_new_word words)) (lt-leb 16 (length words) room)
    ∙ ap (λ r. r >>= with_new_word words) is ∙ ap (λ t. cond t (Err Repeated) (Ok (put_word w words))) here

pub with_piece-absent : (words : List (List ℕ)) (piece w : List ℕ) → length words < 16 → word_of_text piece ≡ Ok w → has_word words w ≡ false → with_piece words piece ≡ Ok (put_word w words)
with_piece-absent words piece w room is none =
    ap (λ t. cond t (Err TooMany) (word_of_text piece >>= with_new_word words)) (lt-leb 16 (length words) room)
    ∙ ap (λ r. r >>= with_new_word words) is ∙ ap (λ t. cond t (Err Repeated) (Ok (put_word w words))) none

-- the search found the piece's word in the set
pub found : (self items : List (List ℕ)) (piece w : List ℕ) (i : ℕ) → items ≡ self → length items < 16 → word_of_text piece ≡ Ok w → i < length items → HoldsAt (λ y. order y w ≡ Equal) items i → with_piece self piece ≡ Err Repeated
found self items piece w i same room is lt at =
    ap (λ ws. with_piece ws piece) (sym same) ∙ with_piece-present items piece w room is (present items w i lt at)

-- the search found no word, and the new one is inserted where it ended
pub record IsInserted (self items new : List (List ℕ)) (w : List ℕ) (i : ℕ) : Type 0 where
  pub same : items ≡ self
  pub rising : is_rising items ≡ true
  pub room : length items < 16
  pub within : i ≤ length items
  pub between : IsNonDecreasingBy (λ y. ordering_index (order y w)) items → IsPartitionPoint (λ y. order y w ≡ Less) (λ y. order y w ≡ Greater) items i
  pub is : new ≡ insert items i w

pub inserted_ok : (self items new : List (List ℕ)) (w : List ℕ) (i : ℕ) (piece : List ℕ) → IsInserted self items new w i → word_of_text piece ≡ Ok w → with_piece self piece ≡ Ok new
inserted_ok self items new w i piece h is =
    let point = h.between (searchable items w h.rising) in
    ap (λ ws. with_piece ws piece) (sym h.same)
    ∙ with_piece-absent items piece w h.room is (absent items w i point)
    ∙ ap (λ ws. Ok ws) (sym (h.is ∙ placed items w i h.within point))

pub inserted_set : (self items new : List (List ℕ)) (w : List ℕ) (i : ℕ) → IsInserted self items new w i → IsWordSet items → IsWord w → IsWordSet new
inserted_set self items new w i h set word =
    let point = h.between (searchable items w h.rising) in
    let e = h.is ∙ placed items w i h.within point in
    subst IsWordSet (sym e) (put_set items w set h.room (absent items w i point) word)

-- ---- all pieces in turn

with_pieces-append : (words : List (List ℕ)) (xs ys : List (List ℕ)) → with_pieces words (xs ++ ys) ≡ (with_pieces words xs >>= λ more. with_pieces more ys)
with_pieces-append words [] ys = refl
with_pieces-append words (x ∷ xs) ys = by (with_piece words x) (λ more. with_pieces-append more xs ys)
  where
    by : (r : Result (List (List ℕ)) WordFault) → ((more : List (List ℕ)) → with_pieces more (xs ++ ys) ≡ (with_pieces more xs >>= λ m. with_pieces m ys)) → (r >>= λ more. with_pieces more (xs ++ ys)) ≡ ((r >>= λ more. with_pieces more xs) >>= λ m. with_pieces m ys)
    by (Ok more) step = step more
    by (Err e) step = refl

-- the set has the words of the first pieces, and the next piece is at hand
pub record IsReadTo (pieces : List (List ℕ)) (k : ℕ) (words : List (List ℕ)) (piece : List ℕ) : Type 0 where
  pub before : with_pieces [] (take k pieces) ≡ Ok words
  pub within : k < length pieces
  pub at : piece ≡ get_or pieces k piece

pub with_pieces-more : (pieces : List (List ℕ)) (k : ℕ) (words : List (List ℕ)) (piece : List ℕ) (more : List (List ℕ)) → IsReadTo pieces k words piece → with_piece words piece ≡ Ok more → with_pieces [] (take (k + 1) pieces) ≡ Ok more
with_pieces-more pieces k words piece more h is =
    ap (with_pieces []) (take_more pieces k piece h.within)
    ∙ with_pieces-append [] (take k pieces) (get_or pieces k piece ∷ [])
    ∙ ap (λ r. r >>= λ m. with_pieces m (get_or pieces k piece ∷ [])) h.before
    ∙ ap (λ p. with_piece words p >>= λ m. Ok m) (sym h.at)
    ∙ ap (λ r. r >>= λ m. Ok m) is

pub with_pieces-refused : (pieces : List (List ℕ)) (k : ℕ) (words : List (List ℕ)) (piece : List ℕ) (e : WordFault) → IsReadTo pieces k words piece → with_piece words piece ≡ Err e → with_pieces [] pieces ≡ Err e
with_pieces-refused pieces k words piece e h is =
    ap (with_pieces []) (sym (take-append-drop k pieces))
    ∙ with_pieces-append [] (take k pieces) (drop k pieces)
    ∙ ap (λ r. r >>= λ m. with_pieces m (drop k pieces)) h.before
    ∙ at_drop_more (with_pieces words) pieces k piece h.within
    ∙ ap (λ p. with_piece words p >>= λ m. with_pieces m (drop (k + 1) pieces)) (sym h.at)
    ∙ ap (λ r. r >>= λ m. with_pieces m (drop (k + 1) pieces)) is

pub words_of_text-dash : (text : List ℕ) → is_dash text ≡ true → words_of_text text ≡ Ok []
unfolding words_of_text
words_of_text-dash text dash = cond-true _ _ _ dash

pub words_of_text-pieces : (text : List ℕ) → is_dash text ≡ false → words_of_text text ≡ with_pieces [] (pieces_of text)
unfolding words_of_text
words_of_text-pieces text none = cond-false _ _ _ none

pub may_want : (text : List ℕ) (k : ℕ) (words : List (List ℕ)) (piece : List ℕ) → is_dash text ≡ false → IsReadTo (pieces_of text) k words piece → length words < 16 → piece ≢ [] → MayWantMemory text
may_want text k words piece none h room some = record {
  at = k;
  words = words;
  no_dash = none;
  in_text = h.within;
  before = h.before;
  room = room;
  piece = λ empty. some (get_or_read (pieces_of text) k piece h.within h.at [] ∙ empty);
}

-- if a text is read as a set, its first piece is a word
pub may_want-read : (text : List ℕ) (words : List (List ℕ)) → is_dash text ≡ false → words_of_text text ≡ Ok words → MayWantMemory text
may_want-read text words none is = record {
  at = 0;
  words = [];
  no_dash = none;
  in_text = omega (arith, length-slice_split (λ b. b == 44) text);
  before = refl;
  room = omega arith;
  piece = first (pieces_of text) (omega (arith, length-slice_split (λ b. b == 44) text)) (sym (words_of_text-pieces text none) ∙ is);
}
  where
    first : (pieces : List (List ℕ)) → 0 < length pieces → with_pieces [] pieces ≡ Ok words → slice_index_or pieces 0 [] ≢ []
    first [] some is empty = absurd (omega arith)
    first (piece ∷ pieces) some is empty =
        let e : with_pieces [] (piece ∷ pieces) ≡ Err Empty =
        ap (λ p. with_piece [] p >>= λ more. with_pieces more pieces) empty
        ∙ ap (λ r. (r >>= with_new_word []) >>= λ more. with_pieces more pieces) word_of_text-nil in
        cc

pub err_again : {A B : Type 0} {x y : WordFault} → (let r : Result A WordFault = Err x in r) ≡ Err y → (let r : Result B WordFault = Err x in r) ≡ Err y
err_again e = let same = fault_same e in ap (λ f. Err f) same
  where
    fault_same : {A : Type 0} {x y : WordFault} → (let r : Result A WordFault = Err x in r) ≡ Err y → x ≡ y
    fault_same e = cc
