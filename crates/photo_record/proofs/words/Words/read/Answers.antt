use Rattle.std.proofs.Common.{sym, ◌∙◌}
use Rattle.photo_record.proofs.SetLemmas.{words_of_text-dash, may_want-read}
use Rattle.photo_record.proofs.words.Words.read.Goals as goal

pub returns-then-eq-clause-read : goal.returns-then-eq-clause-read
returns-then-eq-clause-read c = words_of_text-dash c.args.text.now (sym c.eq.ensures ∙ c.if-eq.true)

pub returns-in_default-clause-no_memory : goal.returns-in_default-clause-no_memory
returns-in_default-clause-no_memory c = λ _.
    may_want-read c.args.text.now c.in_ok-words.words (sym c.eq.ensures ∙ c.if-eq.false) c.in_ok-words.ensures.read
