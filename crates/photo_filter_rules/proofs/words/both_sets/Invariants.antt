use Rattle.std.proofs.Common.{◌≡◌, ◌++◌, take, not}
use Rattle.std.specs.List.{filter}
use Rattle.photo_record.specs.Word.{has_word}
use Rattle.photo_filter_rules.proofs.words.both_sets.Given as goal

abbrev pub invariant-loop-word : goal.invariant-loop-word
invariant-loop-word l = l.union.items ≡ l.words.items ++ filter (λ w. not (has_word l.words.items w)) (take l.word-index l.word-items)
