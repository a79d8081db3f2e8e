use Rattle.std.proofs.Common.{Ok, sym, ap, ◌∙◌}
use Rattle.script_reader.proofs.SharingLemmas.{found_is_read}
use Rattle.script_reader.proofs.word_sets.WordSets.read.Goals as goal

pub returns-in-Some-clause-read : goal.returns-in-Some-clause-read
returns-in-Some-clause-read c =
    found_is_read c.args.text.now c.self.inside.sets.entries c.in-Some.words.now c.self.invariant.read (sym c.in-Some.ensures.value)
    ∙ ap Ok (sym c.in-Ok.ensures)
