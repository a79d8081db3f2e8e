use Rattle.photofleet_cli.proofs.Numbers.{AreReadTo}
use Rattle.photofleet_cli.proofs.words.numbers_in.Given as goal

-- the numbers so far are those that the words so far write
abbrev pub invariant-loop-word : goal.invariant-loop-word
invariant-loop-word l = AreReadTo l.words l.word-index l.numbers.items
