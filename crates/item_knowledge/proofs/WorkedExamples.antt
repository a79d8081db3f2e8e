-- The worked unions, groups and marks: what holds of every picture and version is shown by the cases of a few tests.
use Rattle.std.proofs.Common.{◌≡◌, length, refl, sym, ap, arith}
use Rattle.std.proofs.lemmas.Bool.{false≢true}
use Rattle.std.proofs.lemmas.Bool.Decides.{nat_tests}
use Rattle.photo_version.specs.Author.{author}
use Rattle.photo_version.specs.Version.{version}
use Rattle.item_knowledge.specs.Entries.{bound}
use Rattle.item_knowledge.specs.Examples.{TheStaged, TheUnions, TheGroups, TheMarks}
use Rattle.item_knowledge.specs.VectorIndex.{mixed, share}
use Rattle.item_knowledge.proofs.GatherLemmas.{group_grown, group_begun}

pub the_staged : TheStaged
the_staged = record {
  union = record {
    there = refl;
    star = λ a. grind (arith, nat_tests);
    pairs = λ p v above. grind arith;
  };
  other_way = record {
    there = refl;
    star = λ a. grind (arith, nat_tests);
    pairs = λ p v above. grind arith;
  };
  normal = refl;
  same = record {
    there = refl;
    star = λ a. grind (arith, nat_tests);
    pairs = λ p v above. grind arith;
  };
  nothing = λ u. false≢true u.there;
  first_alone = λ u. false≢true (u.pairs 8 (version (author 1) 1) (omega arith));
  second_alone = λ u. false≢true (u.pairs 7 (version (author 0) 1) (omega arith));
  of_all = λ u. false≢true (sym (u.pairs 9 (version (author 1) 1) (omega arith)));
  too_late = λ u. false≢true (sym (u.pairs 7 (version (author 0) 2) (omega arith)));
}

pub the_unions : TheUnions
the_unions = record {
  beyond = record {
    first = refl;
    normal = refl;
    index = record { order = refl; positive = refl; range = refl; vectors = λ p. grind (arith, nat_tests) };
    vectors = λ p. grind (arith, nat_tests);
    named = λ k l. (8, let first : k ≡ 0 = omega arith in grind arith);
  };
  repeated = λ u. absurd (omega (arith, ap length (u.vectors 8)));
  left_out = λ u. absurd (omega (arith, ap length (u.vectors 8)));
}

pub the_groups : TheGroups
the_groups = record {
  grown = group_grown 9 _ _ _ 0 (omega arith) refl refl;
  begun = group_begun 8 _ _ _ 1 refl refl;
  other_vector = λ a. let bad = ap (λ es. bound es 0) a.vector in omega (arith, bad);
  lost = λ a. absurd (omega (arith, ap length (a.pictures 0)));
}

pub the_marks : TheMarks
unfolding mixed share
the_marks = record { place = refl; by_the_last = refl; no_entry = refl; marked = refl; unmarked = refl; shared = refl }
