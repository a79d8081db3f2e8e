use Rattle.photo_record.proofs.ReadLemmas.{word_is, word_itself}
use Rattle.photo_record.proofs.laws.words_are_read.Goals as goal

pub returns-clause-word : goal.returns-clause-word
returns-clause-word c = word_is c.args.text.now

pub returns-clause-itself : goal.returns-clause-itself
returns-clause-itself c = word_itself c.args.text.now c.utf8.text
