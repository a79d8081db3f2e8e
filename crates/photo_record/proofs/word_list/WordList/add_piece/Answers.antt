use Rattle.std.proofs.Common.{sym, subst, ap, ◌∙◌, arith, not}
use Rattle.std.specs.List.{insert}
use Rattle.photo_record.specs.Reading.{word_of_text}
use Rattle.photo_record.specs.Word.{is_rising, IsWord, IsWordSet}
use Rattle.photo_record.proofs.SetLemmas.{found, inserted_ok, inserted_set}
use Rattle.photo_record.proofs.FormLemmas.{word_of_text-nil}
use Rattle.photo_record.proofs.word_list.WordList.add_piece.Goals as goal

pub returns-in_default-clause-refused : goal.returns-in_default-clause-refused
returns-in_default-clause-refused c = λ _.
    found c.args.self.now c.deref.result.now c.args.piece.now c.in_ok-word.word c.in_default.field-0
    (c.deref.ensures.value ∙ c.self.view_is) (omega arith) c.in_ok-word.ensures.read c.in_default.ensures.bound c.in_default.ensures.ok

pub returns-then-is_err-clause-piece : goal.returns-then-is_err-clause-piece
returns-then-is_err-clause-piece c = λ _ none.
    let e = sym c.in_ok-word.ensures.read ∙ ap word_of_text none ∙ word_of_text-nil in cc

pub invariant_of-self-2 : goal.invariant_of-self-2
invariant_of-self-2 c =
    let ok = c.is_err.ensures.negation ∙ ap not c.if-is_err.false in
    let is = rw ok at c.insert.ensures.items in
    inserted_set c.args.self.now c.deref.result.now c.insert.new.self.items c.in_ok-word.word c.in-Err.place
    (record {
      same = c.deref.ensures.value ∙ c.self.view_is;
      rising = ap is_rising c.deref.ensures.value ∙ c.self.invariant.rising;
      room = omega arith;
      within = c.in-Err.ensures.bound;
      between = c.in-Err.ensures.position;
      is = is ∙ ap (λ ws. insert ws c.in-Err.place c.in_ok-word.word) (sym c.deref.ensures.value);
    })
    (subst IsWordSet (sym c.deref.ensures.value) c.self.invariant) (subst IsWord c.word.view_is c.word.invariant)

pub returns-clause-ok : goal.returns-clause-ok
returns-clause-ok c =
    let ok = c.is_err.ensures.negation ∙ ap not c.if-is_err.false in
    let is = rw ok at c.insert.ensures.items in
    inserted_ok c.args.self.now c.deref.result.now c.insert.new.self.items c.in_ok-word.word c.in-Err.place c.args.piece.now
    (record {
      same = c.deref.ensures.value ∙ c.self.view_is;
      rising = ap is_rising c.deref.ensures.value ∙ c.self.invariant.rising;
      room = omega arith;
      within = c.in-Err.ensures.bound;
      between = c.in-Err.ensures.position;
      is = is ∙ ap (λ ws. insert ws c.in-Err.place c.in_ok-word.word) (sym c.deref.ensures.value);
    }) c.in_ok-word.ensures.read
