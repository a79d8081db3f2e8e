-- The definitions at some texts, by computation.
use Rattle.std.proofs.Common.{ℕ, List, ◌++◌, refl}
use Rattle.std.specs.Prelude.{codes}
use Rattle.photo_filter_text.specs.Tree.{Not, All}
use Rattle.photo_filter_text.specs.Tokens.{tokens_of}
use Rattle.photo_filter_text.specs.Fault.{IsFilter}
use Rattle.photo_filter_text.specs.Grammar.{all, none, rating, day, negation, brackets, test, factor, conjunction, term, disjunction}
use Rattle.photo_filter_text.specs.Examples.{repeated, under_nots, TheTokens, TheTrees, TheTexts, TheFaults, TheFilters}
use Rattle.jiff_core.specs.Calendar.{days_from_civil, day_count, days_of_years, days_of_months}
use Rattle.std.specs.Str.{chars, is_utf8}
use lib.Utf8.{encode}
use Rattle.unicode_normalization.proofs.Computing.{unicode_normalization}
use Rattle.photo_record.specs.Reading.{day_of_text, word_of_text}
use Rattle.photo_filter_text.specs.Steps.{symbol_of, at_factor, after_term, after_factor}
use Rattle.photo_filter_text.proofs.Judged.{fault-of, filter-of}

pub the-tokens : TheTokens
the-tokens = record { brackets = refl; runs_of_spaces = refl; no_spaces = refl; none = refl; operators = refl }

pub the-trees : TheTrees
unfolding day_of_text days_from_civil day_count days_of_years days_of_months
the-trees = record {
  and_first = disjunction (term (factor (test all))) (conjunction (factor (test none)) (test all));
  or_from_left = disjunction (disjunction (term (factor (test all))) (factor (test none))) (factor (test all));
  and_from_left = term (conjunction (conjunction (factor (test all)) (test none)) (test all));
  no_node = term (factor (brackets (term (factor (brackets (term (factor (test all))))))));
  not_first = term (conjunction (factor (negation (test all))) (test none));
  rating = term (factor (test (rating refl refl)));
  day = term (factor (test (day refl refl)));
}

pub the-texts : TheTexts
the-texts = record { either = refl; negation = refl; keyword = refl; low = refl }

pub the-faults : TheFaults
unfolding chars is_utf8 encode unicode_normalization day_of_text word_of_text symbol_of at_factor after_term after_factor
the-faults = record {
  nothing = fault-of _ _ refl;
  spaces = fault-of _ _ refl;
  first = fault-of _ _ refl;
  second = fault-of _ _ refl;
  no_space = fault-of _ _ refl;
  bracket_for_word = fault-of _ _ refl;
  no_rating = fault-of _ _ refl;
  no_date = fault-of _ _ refl;
  comma = fault-of _ _ refl;
  not_closed = fault-of _ _ refl;
  no_word = fault-of _ _ refl;
  deep = fault-of _ _ refl;
  long = fault-of _ _ refl;
}

high : List ℕ
high = repeated 31 (codes "not ") ++ codes "all"

long : List ℕ
long = repeated 127 (codes "(") ++ (codes "not all" ++ repeated 127 (codes ")"))

high-is : IsFilter (tokens_of high) (under_nots 31 All)
unfolding high symbol_of at_factor after_term after_factor
high-is = filter-of (tokens_of high) (under_nots 31 All) refl

long-is : IsFilter (tokens_of long) (Not All)
unfolding long symbol_of at_factor after_term after_factor
long-is = filter-of (tokens_of long) (Not All) refl

pub the-filters : TheFilters
unfolding high long
the-filters = record { low = high-is; short = long-is }
