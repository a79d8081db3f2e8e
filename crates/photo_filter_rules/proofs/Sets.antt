-- Sets of words as lists: their union and their common words.
use Rattle.std.proofs.Common.{◌≡◌, refl, sym, ap, ◌∙◌, ℕ, Bool, true, false, not, ◌&&◌, ◌||◌, List, [], ◌∷◌, ◌++◌, inl, inr, ◌+◌, ◌<◌, length, take, get_or, append-nil, append_assoc}
use Rattle.std.specs.List.{list_any, list_all, filter}
use Rattle.std.specs.Cmp.Lexicographic.{same_text}
use Rattle.std.proofs.lemmas.Bool.{false≢true, cases_Bool, and_parts}
use Rattle.std.proofs.lemmas.List.Folds.{list_all-append}
use Rattle.std.proofs.lemmas.List.Elements.{filter_more}
use Rattle.std.specs.Str.{bytes_eq}
use Rattle.photo_record.specs.Word.{has_word}
use Rattle.photo_filter_rules.specs.Alternatives.{both_sets}
use Rattle.photo_filter_rules.proofs.Bools.{not-or}

-- what holds of each word of a set holds of a word that the set has
pub has_word_all : (p : List ℕ → Bool) (ws : List (List ℕ)) (v : List ℕ) → list_all p ws ≡ true → has_word ws v ≡ true → p v ≡ true
has_word_all p [] v h e = absurd (false≢true e)
has_word_all p (w ∷ ws) v h e =
    let hs = and_parts (p w) (list_all p ws) h in
    elim (cases_Bool (bytes_eq w v)) [
      | inl s ↦ ap p (sym (same_text w v (sym s))) ∙ hs.0
      | inr s ↦ has_word_all p ws v hs.1 (sym (ap (λ b. b || has_word ws v) s) ∙ e)
    ]

all_new : (p : List ℕ → Bool) (ws vs : List (List ℕ)) → list_all p ws ≡ true → list_all p (filter (λ v. not (has_word ws v)) vs) ≡ list_all p vs
all_new p ws [] h = refl
all_new p ws (v ∷ vs) h =
    elim (cases_Bool (has_word ws v)) [
      | inl s ↦ rw (s, has_word_all p ws v h s) (all_new p ws vs h)
      | inr s ↦ rw s (ap (λ b. p v && b) (all_new p ws vs h))
    ]

pub all-both_sets : (p : List ℕ → Bool) (ws vs : List (List ℕ)) → list_all p (both_sets ws vs) ≡ (list_all p ws && list_all p vs)
all-both_sets p ws vs =
    list_all-append p ws (filter (λ v. not (has_word ws v)) vs)
    ∙ elim (cases_Bool (list_all p ws)) [
      | inl s ↦ ap (λ b. list_all p ws && b) (all_new p ws vs s)
      | inr s ↦ rw s refl
    ]

pub not-list_any : (p : List ℕ → Bool) (ws : List (List ℕ)) → not (list_any p ws) ≡ list_all (λ w. not (p w)) ws
not-list_any p [] = refl
not-list_any p (w ∷ ws) = not-or (p w) (list_any p ws) ∙ ap (λ b. not (p w) && b) (not-list_any p ws)

pub none-both_sets : (p : List ℕ → Bool) (ws vs : List (List ℕ)) → not (list_any p (both_sets ws vs)) ≡ (not (list_any p ws) && not (list_any p vs))
none-both_sets p ws vs =
    rw (not-list_any p (both_sets ws vs), not-list_any p ws, not-list_any p vs) (all-both_sets (λ w. not (p w)) ws vs)

-- if a test holds of each word of one set and of none of another, they have no word in common
pub no_common : (p : List ℕ → Bool) (ws fs : List (List ℕ)) → list_all p ws ≡ true → list_all (λ w. not (p w)) fs ≡ true → list_any (has_word fs) ws ≡ false
no_common p [] fs h n = refl
no_common p (w ∷ ws) fs h n =
    let hs = and_parts (p w) (list_all p ws) h in
    elim (cases_Bool (has_word fs w)) [
      | inl s ↦ absurd (false≢true (sym (ap not hs.0) ∙ has_word_all (λ w. not (p w)) fs w n s))
      | inr s ↦ rw s (no_common p ws fs hs.1 n)
    ]

-- one step of a union over the second set: the first set has the word, or it doesn't
pub union_skips : (ws us vs : List (List ℕ)) (i : ℕ) (v : List ℕ) → us ≡ ws ++ filter (λ w. not (has_word ws w)) (take i vs)
    → i < length vs → v ≡ get_or vs i v → has_word ws v ≡ true
    → us ≡ ws ++ filter (λ w. not (has_word ws w)) (take (i + 1) vs)
union_skips ws us vs i v known in' is has =
    rw (filter_more (λ w. not (has_word ws w)) vs i v in', ← is, has, append-nil (filter (λ w. not (has_word ws w)) (take i vs))) known

pub union_takes : (ws us more vs : List (List ℕ)) (i : ℕ) (v : List ℕ) → us ≡ ws ++ filter (λ w. not (has_word ws w)) (take i vs)
    → i < length vs → v ≡ get_or vs i v → has_word ws v ≡ false → more ≡ us ++ v ∷ []
    → more ≡ ws ++ filter (λ w. not (has_word ws w)) (take (i + 1) vs)
union_takes ws us more vs i v known in' is has grown =
    rw (filter_more (λ w. not (has_word ws w)) vs i v in', ← is, has)
    (grown ∙ ap (λ z. z ++ v ∷ []) known ∙ append_assoc ws (filter (λ w. not (has_word ws w)) (take i vs)) (v ∷ []))
