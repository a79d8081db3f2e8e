-- A filter matches whatever a filter that it covers matches.
use Rattle.std.proofs.Common.{◌≡◌, refl, sym, ap, ◌∙◌, ℕ, ℤ, pos, Bool, true, not, ◌&&◌, ◌||◌, int_le, List, [], ◌∷◌, arith, inl, inr}
use Rattle.std.specs.List.{list_any, list_all}
use Rattle.std.proofs.Math.Bool.{or-true}
use Rattle.std.proofs.lemmas.Bool.{false≢true, cases_Bool, and_parts, and_from}
use Rattle.std.proofs.lemmas.Int.{ints}
use Rattle.photo_record.specs.Word.{has_word}
use Rattle.photo_record.specs.declared.record.Record.{Record}
use Rattle.photo_record.specs.declared.record.Record.TheVariants.{Picture, Removed}
use Rattle.photo_filter_text.specs.Tree.{Tree}
use Rattle.photo_filter_rules.specs.declared.span.Span.{Span}
use Rattle.photo_filter_rules.specs.declared.polarity.Polarity.TheVariants.{Plain}
use Rattle.photo_filter_rules.specs.Matching.{IsInRange, Content, content, matches}
use Rattle.photo_filter_rules.specs.Alternatives.{Alternative, is_within, fits, alternatives_of}
use Rattle.photo_filter_rules.specs.Covers.{contains, asks_no_more, has_room_for, covers}
use Rattle.photo_filter_rules.proofs.Sets.{has_word_all, not-list_any}
use Rattle.photo_filter_rules.proofs.Fitting.{fits-alternatives_of}

follows : (a b x : ℤ) → int_le a b ≡ true → int_le b x ≡ true → int_le a x ≡ true
follows a b x h g = grind (arith, ints)

within_wider : (s t : Span) (x : ℤ) → contains s t ≡ true → is_within t x ≡ true → is_within s x ≡ true
within_wider s t x wider inside =
    let ends = and_parts (int_le s.first t.first) (int_le t.last s.last) wider in
    let p = and_parts (int_le t.first x) (int_le x t.last) inside in
    and_from _ _ (follows s.first t.first x ends.0 p.0) (follows x t.last s.last p.1 ends.1)

-- what holds of each word of a set holds of words that the set has
all_among : (p : List ℕ → Bool) (ws vs : List (List ℕ)) → list_all (has_word ws) vs ≡ true → list_all p ws ≡ true → list_all p vs ≡ true
all_among p ws [] among all = refl
all_among p ws (v ∷ vs) among all =
    let parts = and_parts (has_word ws v) (list_all (has_word ws) vs) among in
    and_from _ _ (has_word_all p ws v all parts.0) (all_among p ws vs parts.1 all)

none_among : (p : List ℕ → Bool) (ws vs : List (List ℕ)) → list_all (has_word ws) vs ≡ true → not (list_any p ws) ≡ true → not (list_any p vs) ≡ true
none_among p ws vs among none =
    not-list_any p vs ∙ all_among (λ w. not (p w)) ws vs among (sym (not-list_any p ws) ∙ none)

fits_wider : (c : Content) (a b : Alternative) → asks_no_more a b ≡ true → fits c b ≡ true → fits c a ≡ true
fits_wider c a b less fit =
    let asked = and_parts (contains a.ratings b.ratings && contains a.days b.days)
    (list_all (has_word b.required) a.required && list_all (has_word b.forbidden) a.forbidden) less in
    let ranges = and_parts (contains a.ratings b.ratings) (contains a.days b.days) asked.0 in
    let words = and_parts (list_all (has_word b.required) a.required) (list_all (has_word b.forbidden) a.forbidden) asked.1 in
    let said = and_parts (is_within b.ratings (pos c.rating) && is_within b.days c.day)
    (list_all (has_word c.words) b.required && not (list_any (has_word c.words) b.forbidden)) fit in
    let inside = and_parts (is_within b.ratings (pos c.rating)) (is_within b.days c.day) said.0 in
    let has = and_parts (list_all (has_word c.words) b.required) (not (list_any (has_word c.words) b.forbidden)) said.1 in
    and_from _ _
    (and_from _ _ (within_wider a.ratings b.ratings (pos c.rating) ranges.0 inside.0) (within_wider a.days b.days c.day ranges.1 inside.1))
    (and_from _ _ (all_among (has_word c.words) b.required a.required words.0 has.0) (none_among (has_word c.words) b.forbidden a.forbidden words.1 has.1))

fits_room : (c : Content) (xs : List Alternative) (b : Alternative) → has_room_for xs b ≡ true → fits c b ≡ true → list_any (fits c) xs ≡ true
fits_room c [] b room fit = absurd (false≢true room)
fits_room c (a ∷ xs) b room fit =
    elim (cases_Bool (asks_no_more a b)) [
      | inl s ↦ ap (λ t. t || list_any (fits c) xs) (fits_wider c a b s fit)
      | inr s ↦
          let rest = fits_room c xs b (sym (ap (λ t. t || has_room_for xs b) s) ∙ room) fit in
          rw rest (or-true (fits c a))
    ]

fits_covering : (c : Content) (xs ys : List Alternative) → list_all (has_room_for xs) ys ≡ true → list_any (fits c) ys ≡ true → list_any (fits c) xs ≡ true
fits_covering c xs [] room fit = absurd (false≢true fit)
fits_covering c xs (b ∷ ys) room fit =
    let parts = and_parts (has_room_for xs b) (list_all (has_room_for xs) ys) room in
    elim (cases_Bool (fits c b)) [
      | inl s ↦ fits_room c xs b parts.0 s
      | inr s ↦ fits_covering c xs ys parts.1 (sym (ap (λ t. t || list_any (fits c) ys) s) ∙ fit)
    ]

pub covers_selects : (f g : Tree) (r : Record) → IsInRange r → covers f g ≡ true → matches g r ≡ true → matches f r ≡ true
covers_selects f g (Picture rating day words) is covered matched =
    let c : Content = content rating day words in
    sym (fits-alternatives_of c is f Plain)
    ∙ fits_covering c (alternatives_of f Plain) (alternatives_of g Plain) covered
    (fits-alternatives_of c is g Plain ∙ matched)
covers_selects f g Removed is covered matched = absurd (false≢true matched)
