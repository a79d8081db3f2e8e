-- Words and other items joined by a separator, one at a time.
use Rattle.std.proofs.Common.{◌≡◌, ◌≢◌, ◌<◌, ◌≤◌, ◌+◌, ◌∷◌, ◌++◌, ℕ, List, [], length, take, map, get_or, slice_get, Some, refl, sym, ap, ◌∙◌, append_assoc, append-nil, arith}
use Rattle.std.specs.List.{join_with_byte}
use Rattle.std.proofs.lemmas.List.{length-map, take_more, length-take-le, take_all, map-append}
use Rattle.std.proofs.lemmas.Option.{get_or_from_slice_get, slice_get_within}
use Rattle.std.specs.Fmt.{decimal}
use Rattle.photo_record.specs.Showing.{words_text}
use Rattle.item_knowledge.specs.Entries.{Entry}
use Rattle.fleet_model.specs.Contents.{Contents}
use Rattle.photo_script.specs.Reports.{pictures_text, bound_text, bounds_text}

join-push : (c : ℕ) (xs : List (List ℕ)) (y : List ℕ) → 1 ≤ length xs → join_with_byte c (xs ++ y ∷ []) ≡ join_with_byte c xs ++ (c ∷ y)
join-push c [] y some = absurd (omega arith)
join-push c (x ∷ []) y some = refl
join-push c (x ∷ z ∷ zs) y some = ap (λ t. x ++ (c ∷ t)) (join-push c (z ∷ zs) y (omega arith)) ∙ sym (append_assoc x (c ∷ join_with_byte c (z ∷ zs)) (c ∷ y))

-- one more word
pub join-turn : (ws : List (List ℕ)) (i : ℕ) (w : List ℕ) → 1 ≤ i → slice_get ws i ≡ Some w → join_with_byte 44 (take (i + 1) ws) ≡ join_with_byte 44 (take i ws) ++ (44 ∷ w)
join-turn ws i w some at =
    let within : i < length ws = slice_get_within ws i w at in
    let front : length (take i ws) ≡ i = length-take-le i ws (omega arith) in
    let more = take_more ws i [] within ∙ ap (λ x. take i ws ++ x ∷ []) (get_or_from_slice_get ws i w [] at) in
    ap (join_with_byte 44) more ∙ join-push 44 (take i ws) w (omega arith)

-- the first word
pub join-first : (ws : List (List ℕ)) (w : List ℕ) → slice_get ws 0 ≡ Some w → w ≡ join_with_byte 44 (take 1 ws)
join-first [] w at = cc
join-first (v ∷ vs) w at = cc

-- all words
pub join-all : (ws : List (List ℕ)) (n : ℕ) → ws ≢ [] → length ws ≤ n → join_with_byte 44 (take n ws) ≡ words_text ws
join-all [] n some whole = absurd (some refl)
join-all (w ∷ ws) n some whole = ap (join_with_byte 44) (take_all n (w ∷ ws) whole)

-- the text of the first items
abbrev pub joined_to : {X : Type 0} → ℕ → (X → List ℕ) → List X → ℕ → List ℕ
joined_to c text xs i = join_with_byte c (map text (take i xs))

module _ {X : Type 0} (c : ℕ) (text : X → List ℕ) (xs : List X) where
  -- one more item
  pub joined_to-more : (i : ℕ) (d : X) → 1 ≤ i → i < length xs → joined_to c text xs (i + 1) ≡ joined_to c text xs i ++ (c ∷ text (get_or xs i d))
  joined_to-more i d some within =
      let front : length (map text (take i xs)) ≡ i = length-map (take i xs) text ∙ length-take-le i xs (omega arith) in
      let more = ap (map text) (take_more xs i d within) ∙ map-append text (take i xs) (get_or xs i d ∷ []) in
      ap (join_with_byte c) more ∙ join-push c (map text (take i xs)) (text (get_or xs i d)) (omega arith)

  pub joined_to-turn : (old now : List ℕ) (i : ℕ) (d : X) → 1 ≤ i → i < length xs → now ≡ ((old ++ joined_to c text xs i) ++ (c ∷ [])) ++ text (get_or xs i d)
      → now ≡ old ++ joined_to c text xs (i + 1)
  joined_to-turn old now i d some within written =
      let front = joined_to c text xs i in
      let item = text (get_or xs i d) in
      let regrouped : ((old ++ front) ++ (c ∷ [])) ++ item ≡ old ++ (front ++ (c ∷ item)) = simp append_assoc in
      written ∙ regrouped ∙ ap (λ t. old ++ t) (sym (joined_to-more i d some within))

  pub joined_to-all : (n : ℕ) → length xs ≤ n → joined_to c text xs n ≡ join_with_byte c (map text xs)
  joined_to-all n whole = ap (λ ys. join_with_byte c (map text ys)) (take_all n xs whole)

pub pictures-all : (ps : List ℕ) (n : ℕ) → 0 < length ps → length ps ≤ n → joined_to 44 decimal ps n ≡ pictures_text ps
pictures-all [] n some whole = absurd (omega arith)
pictures-all (p ∷ ps) n some whole = joined_to-all 44 decimal (p ∷ ps) n whole

-- the bounds after the first, each behind a space
abbrev pub bounds_behind : Contents → List Entry → List ℕ
bounds_behind script [] = []
bounds_behind script (e ∷ es) = (32 ∷ bound_text script e) ++ bounds_behind script es

pub bounds-first : (script : Contents) (e : Entry) (es : List Entry) → bound_text script e ++ bounds_behind script es ≡ bounds_text script (e ∷ es)
bounds-first script e [] = append-nil (bound_text script e)
bounds-first script e (f ∷ es) = ap (λ t. bound_text script e ++ (32 ∷ t)) (bounds-first script f es)
