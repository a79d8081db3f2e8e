use Rattle.std.proofs.Common.{◌≡◌, Some, slice_get, string_bytes, ◌++◌, ap, sym, ◌∙◌, arith}
use Rattle.script_text.proofs.WordTurns.{written-more, words-all}
use Rattle.script_text.proofs.field.push_words.Goals as goal

pub loop-i-preserved : goal.loop-i-preserved
loop-i-preserved c =
    let words = c.args.words.now in
    let at : slice_get words c.loop-i.i ≡ Some c.text-in-loop-i.result.now = c.get-in-loop-i.ensures ∙ ap Some (sym c.text-in-loop-i.ensures.text) in
    written-more words (string_bytes c.args.text.now) (string_bytes c.loop-i.text) (string_bytes c.push_str-in-loop-i-2.new.self) c.text-in-loop-i.result.now c.loop-i.i c.loop-i.auto.i c.loop-i.invariant at c.text-in-loop-i.utf8
    (c.in_ok-push_str-3.ensures.bytes ∙ ap (λ t. t ++ c.text-in-loop-i.result.now) c.in_ok-push_str-2.ensures.bytes)

pub returns-clause-words : goal.returns-clause-words
returns-clause-words c =
    words-all c.args.words.now (string_bytes c.args.text.now) (string_bytes c.loop-i.text) c.loop-i.i c.len-count.ensures.set (omega arith) c.loop-i.invariant
