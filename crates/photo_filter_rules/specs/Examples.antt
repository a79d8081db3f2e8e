-- The definitions, worked for some trees.
use Rattle.std.specs.Prelude.{◌≡◌, ℕ, zero, suc, ◌+◌, true, false, List, [], ◌∷◌, ◌++◌, length, codes, pos, Some, None, is_some}
use Rattle.photo_record.specs.Limits.{first_day}
use Rattle.photo_record.specs.declared.record.Record.TheVariants.{Removed}
use Rattle.photo_filter_text.specs.declared.tree.Cmp.TheVariants.{AtLeast, AtMost, Equal}
use Rattle.photo_filter_text.specs.Tree.{Tree, All, Nothing, Rate, On, Keyword, Not, Both, Either}
use Rattle.photo_filter_text.specs.Examples.{repeated}
use Rattle.photo_filter_rules.specs.declared.polarity.Polarity.TheVariants.{Plain}
use Rattle.photo_filter_rules.specs.Matching.{Content, matches, matches_picture}
use Rattle.photo_filter_rules.specs.Filters.{filter_of}
use Rattle.photo_filter_rules.specs.Alternatives.{span, anything, with_ratings, with_keyword, alternatives_of, is_too_wide}
use Rattle.photo_filter_rules.specs.Covers.{covers}

abbrev pub word : List ℕ
word = codes "x"

abbrev pub other_word : List ℕ
other_word = codes "y"

-- the first word and so many more, joined by `or`
abbrev pub one_of_words : ℕ → ℕ → Tree
one_of_words first zero = Keyword (first ∷ [])
one_of_words first (suc more) = Either (one_of_words first more) (Keyword ((first + suc more) ∷ []))

pub record TheLists : Type 0 where
  pub not_or : alternatives_of (Not (Either (Rate Equal 0) (Keyword word))) Plain
      ≡ record anything { ratings = span (pos 1) (pos 5); forbidden = word ∷ [] } ∷ []
  pub unequal : alternatives_of (Not (Rate Equal 3)) Plain
      ≡ with_ratings (span (pos 0) (pos 2)) ∷ with_ratings (span (pos 4) (pos 5)) ∷ []
  pub word_and_all : alternatives_of (Both (Keyword (codes "and")) All) Plain ≡ with_keyword Plain (codes "and") ∷ []
  pub all_or_none_and_all : alternatives_of (Either All (Both Nothing All)) Plain ≡ anything ∷ []
  pub no_day : alternatives_of (Not (On AtLeast first_day)) Plain ≡ []
  pub no_range : alternatives_of (Both (Rate AtLeast 4) (Rate AtMost 3)) Plain ≡ []
  pub one_rating : alternatives_of (Both (Rate AtLeast 3) (Rate AtMost 3)) Plain ≡ with_ratings (span (pos 3) (pos 3)) ∷ []
  pub asked_and_forbidden : alternatives_of (Both (Keyword word) (Not (Keyword word))) Plain ≡ []
  -- equal alternatives aren't merged
  pub twice : alternatives_of (Either (Keyword word) (Keyword word)) Plain ≡ with_keyword Plain word ∷ with_keyword Plain word ∷ []
  -- the union has the word once
  pub once : alternatives_of (Both (Keyword word) (Keyword word)) Plain ≡ with_keyword Plain word ∷ []

-- eight words joined by `or`, and eight others; five and thirteen; and these in a tree whose own list is empty
pub record TheWidths : Type 0 where
  pub sixty_four : length (alternatives_of (Both (one_of_words 97 7) (one_of_words 105 7)) Plain) ≡ 64
  pub not_wide : is_too_wide (Both (one_of_words 97 7) (one_of_words 105 7)) Plain ≡ false
  pub sixty_five : is_too_wide (Both (one_of_words 97 4) (one_of_words 105 12)) Plain ≡ true
  pub wide_part : is_too_wide (Both (Both (one_of_words 97 4) (one_of_words 105 12)) Nothing) Plain ≡ true
  pub wide_negated : is_too_wide (Not (Either (Not (one_of_words 97 4)) (Not (one_of_words 105 12)))) Plain ≡ true
  pub narrow_negated : is_too_wide (Not (Both (one_of_words 97 4) (one_of_words 105 12))) Plain ≡ false

-- no tree matches a removed record
pub record TheRemoved : Type 0 where
  pub by_all : matches All Removed ≡ false
  pub by_not_all : matches (Not All) Removed ≡ false
  pub by_not_none : matches (Not Nothing) Removed ≡ false

-- which tree covers which
pub record TheCovers : Type 0 where
  pub narrower : covers (Rate AtLeast 3) (Both (Rate Equal 4) (Keyword word)) ≡ true
  pub by_all : covers All (Not (Keyword word)) ≡ true
  -- a tree without alternatives is covered by every tree, and covers no other
  pub nothing : covers Nothing (Not (On AtLeast first_day)) ≡ true
  pub by_nothing : covers Nothing All ≡ false
  pub word_asked : covers (Keyword word) All ≡ false
  pub word_among_two : covers (Keyword word) (Both (Keyword other_word) (Keyword word)) ≡ true
  pub two_words : covers (Both (Keyword other_word) (Keyword word)) (Keyword word) ≡ false
  pub forbidden_among_two : covers (Not (Keyword word)) (Not (Either (Keyword other_word) (Keyword word))) ≡ true
  pub two_forbidden : covers (Not (Either (Keyword other_word) (Keyword word))) (Not (Keyword word)) ≡ false
  pub forbidden_and_asked : covers (Not (Keyword word)) (Keyword word) ≡ false
  pub day_within : covers (Both (On AtLeast (pos 10)) (On AtMost (pos 20))) (On Equal (pos 20)) ≡ true
  pub day_before : covers (On AtLeast (pos 10)) (On AtLeast (pos 9)) ≡ false
  pub day_after : covers (On AtMost (pos 20)) (On AtMost (pos 21)) ≡ false
  pub same_range : covers (Both (Rate AtLeast 3) (Rate AtMost 3)) (Rate Equal 3) ≡ true
  -- each alternative of the second has its own in the first, in another order
  pub each_its_own : covers (Either (Keyword word) (Rate AtLeast 4)) (Either (Rate Equal 5) (Both (Keyword word) (On AtMost (pos 0)))) ≡ true
  pub one_without : covers (Either (Keyword word) (Rate AtLeast 4)) (Either (Keyword word) (Rate AtLeast 3)) ≡ false
  -- two alternatives of the first cover one of the second only together
  pub split : covers (Either (Rate Equal 3) (Rate AtLeast 4)) (Rate AtLeast 3) ≡ false
  pub split_matches : (c : Content) → matches_picture (Rate AtLeast 3) c ≡ true → matches_picture (Either (Rate Equal 3) (Rate AtLeast 4)) c ≡ true

-- texts that are filters, and texts that aren't
pub record TheFilters : Type 0 where
  pub brackets : filter_of (codes "not (rating = 0 or keyword x)") ≡ Some (Not (Either (Rate Equal 0) (Keyword word)))
  pub word : filter_of (codes "keyword and and all") ≡ Some (Both (Keyword (codes "and")) All)
  pub from_left : filter_of (codes "all or none and all") ≡ Some (Either All (Both Nothing All))
  pub day : filter_of (codes "not day >= 0000-01-01") ≡ Some (Not (On AtLeast first_day))
  pub empty : filter_of [] ≡ None
  pub two : filter_of (codes "all all") ≡ None
  pub no_rating : filter_of (codes "rating >= 6") ≡ None
  pub no_space : filter_of (codes "rating >=4") ≡ None
  pub bracket_for_word : filter_of (codes "keyword (") ≡ None
  pub not_closed : filter_of (codes "( all") ≡ None
  pub short : filter_of (codes "keyword") ≡ None
  pub no_word : filter_of (codes "keyword a,b") ≡ None
  pub low : is_some (filter_of (repeated 31 (codes "not ") ++ codes "all")) ≡ true
  pub deep : filter_of (repeated 32 (codes "not ") ++ codes "all") ≡ None
  pub wide : filter_of (codes "(keyword a or keyword b or keyword c or keyword d or keyword e) and (keyword f or keyword g or keyword h or keyword i or keyword j or keyword k or keyword l or keyword m or keyword n or keyword o or keyword p or keyword q or keyword r)") ≡ None
