use Rattle.std.proofs.Common.{ℕ, ◌<◌, length, get_or}
use Rattle.photo_version.specs.Author.{device_of_author, author_of_word}
use Rattle.test_scripts.proofs.scripts.known.is_fragment_of.Given as goal

abbrev pub invariant-loop-i : goal.invariant-loop-i
invariant-loop-i l = (k : ℕ) → k < l.i → device_of_author (author_of_word (get_or l.fragment.entries k (0, 0)).0) < length l.script.names
