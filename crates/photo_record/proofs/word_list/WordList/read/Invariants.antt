use Rattle.std.proofs.Common.{◌≡◌, Ok, [], length, take}
use Rattle.photo_record.specs.Reading.{with_pieces, pieces_of}
use Rattle.photo_record.proofs.word_list.WordList.read.Given as goal

abbrev pub invariant-loop-piece : goal.invariant-loop-piece
invariant-loop-piece l = with_pieces [] (take (length l.yielded) (pieces_of l.fn.text)) ≡ Ok l.words
