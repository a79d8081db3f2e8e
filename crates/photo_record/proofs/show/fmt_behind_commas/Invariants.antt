use Rattle.std.proofs.Common.{◌∷◌, take}
use Rattle.std.specs.Fmt.{HasWritten, IsPlainFormatter}
use Rattle.std.specs.List.{flat_map}
use Rattle.photo_record.proofs.show.fmt_behind_commas.Given as goal

abbrev pub invariant-loop-word : goal.invariant-loop-word
invariant-loop-word g l =
    IsPlainFormatter l.fn.f → HasWritten g.W.Write.write_str_gives l.fn.f (flat_map (λ word. 44 ∷ word) (take l.word-index l.words)) l.f
