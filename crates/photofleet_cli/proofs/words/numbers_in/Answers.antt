use Rattle.std.proofs.Common.{get_or}
use Rattle.photofleet_cli.proofs.Numbers.{no_word, number_parsed, no_number_parsed, one_read, one_refused}
use Rattle.photofleet_cli.proofs.words.numbers_in.Goals as goal

pub returns-in_default : goal.returns-in_default
returns-in_default c =
    let word = (get_or c.args.words.now c.loop-word.word-index no_word).now in
    one_refused c.args.words.now c.loop-word.word-index _ c.loop-word-test.true (no_number_parsed word c.parse.result c.in_default.field-0 c.parse.ensures.value.0 c.in_default.is) c.loop-word.invariant

pub loop-word-preserved : goal.loop-word-preserved
loop-word-preserved c =
    let word = (get_or c.args.words.now c.loop-word.word-index no_word).now in
    one_read c.args.words.now c.loop-word.word-index _ _ c.in-Ok.number c.loop-word-test.true (number_parsed word c.parse.result c.in-Ok.number c.parse.ensures.value.0 c.in-Ok.is)
    c.in_ok-push.ensures.items c.loop-word.invariant
