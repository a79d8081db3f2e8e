use Rattle.std.proofs.Common.{rules, tests}
use Rattle.std.proofs.lemmas.Iterator.{YieldsList-from_chars}
use Rattle.std.proofs.lemmas.Iterator.Search.{any_from_yields_List}
use Rattle.photo_record.specs.Word.{is_bad_character}
use Rattle.photo_record.proofs.word.has_bad_character.Goals as goal

pub returns : goal.returns
returns c = any_from_yields_List is_bad_character _ _ c.any.result c.any.ensures.ran (YieldsList-from_chars c.args.form.now c.utf8.form c.chars.ensures.rest) (λ x b q k. search (rules, tests))
