use Rattle.std.proofs.Common.{refl, pos}
use Rattle.photo_filter_rules.proofs.Worked.{the_filters}
use Rattle.photo_filter_rules.proofs.Spans.{split_range}
use Rattle.photo_filter_rules.proofs.laws.examples.Goals as goal

pub returns-clause-lists : goal.returns-clause-lists
returns-clause-lists c = record {
  not_or = refl;
  unequal = refl;
  word_and_all = refl;
  all_or_none_and_all = refl;
  no_day = refl;
  no_range = refl;
  one_rating = refl;
  asked_and_forbidden = refl;
  twice = refl;
  once = refl;
}

pub returns-clause-widths : goal.returns-clause-widths
returns-clause-widths c = record {
  sixty_four = refl;
  not_wide = refl;
  sixty_five = refl;
  wide_part = refl;
  wide_negated = refl;
  narrow_negated = refl;
}

pub returns-clause-removed : goal.returns-clause-removed
returns-clause-removed c = record { by_all = refl; by_not_all = refl; by_not_none = refl }

pub returns-clause-covers : goal.returns-clause-covers
returns-clause-covers c = record {
  narrower = refl;
  by_all = refl;
  nothing = refl;
  by_nothing = refl;
  word_asked = refl;
  word_among_two = refl;
  two_words = refl;
  forbidden_among_two = refl;
  two_forbidden = refl;
  forbidden_and_asked = refl;
  day_within = refl;
  day_before = refl;
  day_after = refl;
  same_range = refl;
  each_its_own = refl;
  one_without = refl;
  split = refl;
  split_matches = λ picture. split_range (pos picture.rating);
}

pub returns-clause-filters : goal.returns-clause-filters
returns-clause-filters c = the_filters
