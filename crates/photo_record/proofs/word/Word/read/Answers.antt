use Rattle.std.proofs.Common.{length, Ok, sym, ap, subst, ◌∙◌, arith}
use Rattle.photo_record.specs.Word.{IsWord}
use Rattle.photo_record.proofs.FormLemmas.{form_of, word_of_text-empty, word_of_text-bad, word_of_text-long, word_of_text-ok, form_is_word}
use Rattle.photo_record.proofs.word.Word.read.Goals as goal

pub returns-then-is_empty-clause-refused : goal.returns-then-is_empty-clause-refused
returns-then-is_empty-clause-refused c = λ _. word_of_text-empty c.args.text.now (sym c.if-is_empty.true ∙ c.is_empty.ensures)

pub returns-then-has_bad_character-clause-refused : goal.returns-then-has_bad_character-clause-refused
returns-then-has_bad_character-clause-refused c = λ _.
    let form = form_of c.args.text.now c.deref.result.now c.utf8.text (sym c.if-is_empty.false ∙ c.is_empty.ensures) c.deref.utf8 (c.deref.ensures ∙ c.in-Ok.ensures) in
    word_of_text-bad c.args.text.now c.deref.result.now form (sym c.has_bad_character.ensures ∙ c.if-has_bad_character.true)

pub returns-then-len-gt-MAX_WORD_BYTES-clause-refused :
    goal.returns-then-len-gt-MAX_WORD_BYTES-clause-refused
returns-then-len-gt-MAX_WORD_BYTES-clause-refused c = λ _.
    let form = form_of c.args.text.now c.deref.result.now c.utf8.text (sym c.if-is_empty.false ∙ c.is_empty.ensures) c.deref.utf8 (c.deref.ensures ∙ c.in-Ok.ensures) in
    word_of_text-long c.args.text.now c.deref.result.now form (sym c.has_bad_character.ensures ∙ c.if-has_bad_character.false) (omega (arith, ap length c.deref.ensures, c.in-Ok.form.bytes.ok))

pub invariant_of-result : goal.invariant_of-result
invariant_of-result c =
    let form = form_of c.args.text.now c.deref.result.now c.utf8.text (sym c.if-is_empty.false ∙ c.is_empty.ensures) c.deref.utf8 (c.deref.ensures ∙ c.in-Ok.ensures) in
    subst IsWord c.deref.ensures (form_is_word c.args.text.now c.deref.result.now form (sym c.has_bad_character.ensures ∙ c.if-has_bad_character.false) (omega (arith, ap length c.deref.ensures, c.in-Ok.form.bytes.ok)))

pub returns-clause-read : goal.returns-clause-read
returns-clause-read c =
    let form = form_of c.args.text.now c.deref.result.now c.utf8.text (sym c.if-is_empty.false ∙ c.is_empty.ensures) c.deref.utf8 (c.deref.ensures ∙ c.in-Ok.ensures) in
    word_of_text-ok c.args.text.now c.deref.result.now form (sym c.has_bad_character.ensures ∙ c.if-has_bad_character.false) (omega (arith, ap length c.deref.ensures, c.in-Ok.form.bytes.ok)) ∙ ap (λ b. Ok b) c.deref.ensures
