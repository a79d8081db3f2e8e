-- A picture fits one of a tree's alternatives exactly if the tree matches it.
use Rattle.std.proofs.Common.{◌≡◌, refl, sym, ap, ◌∙◌, ℕ, ℤ, pos, Bool, true, false, not, ◌&&◌, ◌||◌, int_le, ◌≤◌, List, [], ◌∷◌, map, arith, inl, inr}
use Rattle.std.specs.List.{list_any, list_all}
use Rattle.std.proofs.Math.Bool.{and-true, and-false, not-not, and-or_distrib_left, and-or_distrib_right}
use Rattle.std.proofs.lemmas.Bool.{false≢true, cases_Bool, and_parts, and_from, false_from_ne_true}
use Rattle.std.proofs.lemmas.List.Folds.{list_any-append}
use Rattle.std.proofs.lemmas.Int.{ints}
use Rattle.photo_record.specs.Limits.{max_rating, first_day, last_day, IsDay}
use Rattle.photo_record.specs.Word.{has_word}
use Rattle.photo_record.specs.declared.record.Record.TheVariants.{Picture}
use Rattle.photo_filter_text.specs.Tree.{Tree, All, Nothing, Rate, On, Keyword, Not, Both, Either}
use Rattle.photo_filter_text.specs.declared.tree.Cmp.{Cmp}
use Rattle.photo_filter_rules.specs.declared.span.Span.{Span}
use Rattle.photo_filter_rules.specs.declared.polarity.Polarity.{Polarity}
use Rattle.photo_filter_rules.specs.declared.polarity.Polarity.TheVariants.{Plain, Negated}
use Rattle.photo_filter_rules.specs.Matching.{IsContent, Content, content, matches, matches_picture, compares}
use Rattle.photo_filter_rules.specs.Limits.{all_ratings, all_days}
use Rattle.photo_filter_rules.specs.Alternatives.{Alternative, is_within, fits, is_possible, both_of, possible, with_ratings, with_days, spans_of, pairs, either_list, opposite, alternatives_of, all_or_none, with_keyword}
use Rattle.photo_filter_rules.specs.Laws.{FitsWhereMatched}
use Rattle.photo_filter_rules.proofs.Bools.{and_pairs, not-and, not-or}
use Rattle.photo_filter_rules.proofs.Sets.{all-both_sets, none-both_sets, not-list_any, no_common}
use Rattle.photo_filter_rules.proofs.Spans.{is_within-both_spans, any-spans_of, toward}

four_pairs : (r s d e q u f g : Bool) → (((r && s) && (d && e)) && ((q && u) && (f && g))) ≡ (((r && d) && (q && f)) && ((s && e) && (u && g)))
four_pairs r s d e q u f g =
    rw (and_pairs r s d e, and_pairs q u f g) (and_pairs (r && d) (s && e) (q && f) (u && g))

pub fits-both_of : (c : Content) (a b : Alternative) → fits c (both_of a b) ≡ (fits c a && fits c b)
fits-both_of c a b =
    rw (is_within-both_spans a.ratings b.ratings (pos c.rating), is_within-both_spans a.days b.days c.day, all-both_sets (has_word c.words) a.required b.required, none-both_sets (has_word c.words) a.forbidden b.forbidden)
    (four_pairs (is_within a.ratings (pos c.rating)) (is_within b.ratings (pos c.rating)) (is_within a.days c.day) (is_within b.days c.day)
    (list_all (has_word c.words) a.required) (list_all (has_word c.words) b.required)
    (not (list_any (has_word c.words) a.forbidden)) (not (list_any (has_word c.words) b.forbidden)))

middle : (a x b : ℤ) → int_le a x ≡ true → int_le x b ≡ true → int_le a b ≡ true
middle a x b h g = grind (arith, ints)

not_empty : (s : Span) (x : ℤ) → is_within s x ≡ true → int_le s.first s.last ≡ true
not_empty s x h =
    let p = and_parts (int_le s.first x) (int_le x s.last) h in
    middle s.first x s.last p.0 p.1

-- an alternative that a picture fits is possible
possible_from_fits : (c : Content) (a : Alternative) → fits c a ≡ true → is_possible a ≡ true
possible_from_fits c a h =
    let p = and_parts _ _ h in
    let ranges = and_parts (is_within a.ratings (pos c.rating)) (is_within a.days c.day) p.0 in
    let words = and_parts (list_all (has_word c.words) a.required) (not (list_any (has_word c.words) a.forbidden)) p.1 in
    let apart = no_common (has_word c.words) a.required a.forbidden words.0 (sym (not-list_any (has_word c.words) a.forbidden) ∙ words.1) in
    rw (not_empty a.ratings (pos c.rating) ranges.0, not_empty a.days c.day ranges.1, apart) refl

pub any-possible : (c : Content) (xs : List Alternative) → list_any (fits c) (possible xs) ≡ list_any (fits c) xs
any-possible c [] = refl
any-possible c (a ∷ xs) =
    elim (cases_Bool (is_possible a)) [
      | inl s ↦ rw s (ap (λ b. fits c a || b) (any-possible c xs))
      | inr s ↦
          let misses : fits c a ≡ false = false_from_ne_true (fits c a) (λ e. false≢true (sym s ∙ possible_from_fits c a e)) in
          rw (s, misses) (any-possible c xs)
    ]

any-map_both_of : (c : Content) (a : Alternative) (ys : List Alternative) → list_any (fits c) (map (both_of a) ys) ≡ (fits c a && list_any (fits c) ys)
any-map_both_of c a [] = sym (and-false (fits c a))
any-map_both_of c a (y ∷ ys) =
    rw (fits-both_of c a y, any-map_both_of c a ys) (sym (and-or_distrib_left (fits c a) (fits c y) (list_any (fits c) ys)))

pub any-pairs : (c : Content) (xs ys : List Alternative) → list_any (fits c) (pairs xs ys) ≡ (list_any (fits c) xs && list_any (fits c) ys)
any-pairs c [] ys = refl
any-pairs c (a ∷ xs) ys =
    list_any-append (fits c) (possible (map (both_of a) ys)) (pairs xs ys)
    ∙ rw (any-possible c (map (both_of a) ys), any-map_both_of c a ys, any-pairs c xs ys) (sym (and-or_distrib_right (fits c a) (list_any (fits c) xs) (list_any (fits c) ys)))

-- a record's rating and day are in the whole ranges
rating_from : (c : Content) → IsContent c → int_le (pos 0) (pos c.rating) ≡ true
rating_from c is = grind (arith, ints)

rating_to : (c : Content) → IsContent c → int_le (pos c.rating) (pos max_rating) ≡ true
rating_to c is = let h : c.rating ≤ max_rating = is.rating in grind (arith, ints)

day_from : (c : Content) → IsContent c → int_le first_day c.day ≡ true
day_from c is = let h = is.day.0 in grind (arith, ints)

day_to : (c : Content) → IsContent c → int_le c.day last_day ≡ true
day_to c is = let h = is.day.1 in grind (arith, ints)

rating_within : (c : Content) → IsContent c → is_within all_ratings (pos c.rating) ≡ true
rating_within c is = and_from _ _ (rating_from c is) (rating_to c is)

day_within : (c : Content) → IsContent c → is_within all_days c.day ≡ true
day_within c is = and_from _ _ (day_from c is) (day_to c is)

plain_word : (b : Bool) → ((true && ((b && true) && true)) || false) ≡ b
plain_word true = refl
plain_word false = refl

negated_word : (b : Bool) → ((true && (true && not (b || false))) || false) ≡ not b
negated_word true = refl
negated_word false = refl

-- alternatives that ask only for one range
fits-with_ratings : (c : Content) (ss : List Span) → is_within all_days c.day ≡ true
    → list_any (fits c) (map with_ratings ss) ≡ list_any (λ s. is_within s (pos c.rating)) ss
fits-with_ratings c [] h = refl
fits-with_ratings c (s ∷ ss) h =
    rw (h, and-true (is_within s (pos c.rating)), and-true (is_within s (pos c.rating)), fits-with_ratings c ss h) refl

fits-with_days : (c : Content) (ss : List Span) → is_within all_ratings (pos c.rating) ≡ true
    → list_any (fits c) (map with_days ss) ≡ list_any (λ s. is_within s c.day) ss
fits-with_days c [] h = refl
fits-with_days c (s ∷ ss) h =
    rw (h, and-true (is_within s c.day), fits-with_days c ss h) refl

fits-rate : (c : Content) → IsContent c → (polarity : Polarity) (cmp : Cmp) (rating : ℕ)
    → list_any (fits c) (alternatives_of (Rate cmp rating) polarity) ≡ toward polarity (compares cmp (pos rating) (pos c.rating))
fits-rate c is polarity cmp rating =
    any-possible c (map with_ratings (spans_of all_ratings polarity cmp (pos rating)))
    ∙ fits-with_ratings c (spans_of all_ratings polarity cmp (pos rating)) (day_within c is)
    ∙ any-spans_of all_ratings polarity cmp (pos rating) (pos c.rating) (rating_from c is) (rating_to c is)

fits-on : (c : Content) → IsContent c → (polarity : Polarity) (cmp : Cmp) (day : ℤ)
    → list_any (fits c) (alternatives_of (On cmp day) polarity) ≡ toward polarity (compares cmp day c.day)
fits-on c is polarity cmp day =
    any-possible c (map with_days (spans_of all_days polarity cmp day))
    ∙ fits-with_days c (spans_of all_days polarity cmp day) (rating_within c is)
    ∙ any-spans_of all_days polarity cmp day c.day (day_from c is) (day_to c is)

fits-all_or_none : (c : Content) → IsContent c → (polarity : Polarity) → list_any (fits c) (all_or_none polarity) ≡ toward polarity true
fits-all_or_none c is Plain = rw (rating_within c is, day_within c is) refl
fits-all_or_none c is Negated = refl

fits-nothing : (c : Content) → IsContent c → (polarity : Polarity) → list_any (fits c) (all_or_none (opposite polarity)) ≡ toward polarity false
fits-nothing c is Plain = refl
fits-nothing c is Negated = rw (rating_within c is, day_within c is) refl

fits-with_keyword : (c : Content) → IsContent c → (polarity : Polarity) (word : List ℕ) → list_any (fits c) (with_keyword polarity word ∷ []) ≡ toward polarity (has_word c.words word)
fits-with_keyword c is Plain word = rw (rating_within c is, day_within c is) (plain_word (has_word c.words word))
fits-with_keyword c is Negated word = rw (rating_within c is, day_within c is) (negated_word (has_word c.words word))

toward-opposite : (polarity : Polarity) (b : Bool) → toward (opposite polarity) b ≡ toward polarity (not b)
toward-opposite Plain b = refl
toward-opposite Negated b = sym (not-not b)

fits-either : (c : Content) (polarity : Polarity) (xs ys : List Alternative) (a b : Bool)
    → list_any (fits c) xs ≡ toward polarity a → list_any (fits c) ys ≡ toward polarity b
    → list_any (fits c) (either_list polarity xs ys) ≡ toward polarity (a || b)
fits-either c Plain xs ys a b h g = rw (list_any-append (fits c) xs ys, h, g) refl
fits-either c Negated xs ys a b h g = rw (any-pairs c xs ys, h, g) (sym (not-or a b))

fits-both : (c : Content) (polarity : Polarity) (xs ys : List Alternative) (a b : Bool)
    → list_any (fits c) xs ≡ toward polarity a → list_any (fits c) ys ≡ toward polarity b
    → list_any (fits c) (either_list (opposite polarity) xs ys) ≡ toward polarity (a && b)
fits-both c Plain xs ys a b h g = rw (any-pairs c xs ys, h, g) refl
fits-both c Negated xs ys a b h g = rw (list_any-append (fits c) xs ys, h, g) (sym (not-and a b))

pub fits-alternatives_of : (c : Content) → IsContent c → (tree : Tree) (polarity : Polarity)
    → list_any (fits c) (alternatives_of tree polarity) ≡ toward polarity (matches_picture tree c)
fits-alternatives_of c is All polarity = fits-all_or_none c is polarity
fits-alternatives_of c is Nothing polarity = fits-nothing c is polarity
fits-alternatives_of c is (Rate cmp rating) polarity = fits-rate c is polarity cmp rating
fits-alternatives_of c is (On cmp day) polarity = fits-on c is polarity cmp day
fits-alternatives_of c is (Keyword word) polarity = fits-with_keyword c is polarity word
fits-alternatives_of c is (Not part) polarity =
    fits-alternatives_of c is part (opposite polarity) ∙ toward-opposite polarity (matches_picture part c)
fits-alternatives_of c is (Both left right) polarity =
    fits-both c polarity (alternatives_of left polarity) (alternatives_of right polarity) (matches_picture left c) (matches_picture right c)
    (fits-alternatives_of c is left polarity) (fits-alternatives_of c is right polarity)
fits-alternatives_of c is (Either left right) polarity =
    fits-either c polarity (alternatives_of left polarity) (alternatives_of right polarity) (matches_picture left c) (matches_picture right c)
    (fits-alternatives_of c is left polarity) (fits-alternatives_of c is right polarity)

pub fits_where_matched : FitsWhereMatched
fits_where_matched =
    (λ tree c is. fits-alternatives_of c is tree Plain, λ tree c is. fits-alternatives_of c is tree Negated)

-- the filter's list answers for its tree
pub matched_by_list : (tree : Tree) (xs : List Alternative) (rating : ℕ) (day : ℤ) (words : List (List ℕ)) → xs ≡ alternatives_of tree Plain
    → rating ≤ max_rating → IsDay day → list_any (fits (content rating day words)) xs ≡ matches tree (Picture rating day words)
matched_by_list tree xs rating day words e r d =
    rw e (fits-alternatives_of (content rating day words) (record { rating = r; day = d }) tree Plain)
