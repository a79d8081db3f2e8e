use Rattle.std.proofs.Common.{Ok, [], length, take, sym, ap, ◌∙◌, arith, lit<}
use Rattle.std.proofs.lemmas.Iterator.Consumers.{YieldsList-turn, YieldsList-end}
use Rattle.std.proofs.lemmas.Iterator.Splits.{YieldsList-from_str_split}
use Rattle.std.proofs.lemmas.List.{take_all, length_push}
use Rattle.std.proofs.lemmas.Result.{err_from_is_err_and}
use Rattle.std.specs.Str.Iter.{split_text, split_has_more, split_pattern}
use Rattle.photo_record.specs.Reading.{with_pieces, pieces_of}
use Rattle.photo_record.proofs.SetLemmas.{IsReadTo, with_pieces-more, with_pieces-refused, words_of_text-pieces, may_want, err_again}
use Rattle.photo_record.proofs.word_list.WordList.read.Goals as goal

pub loop-piece-init : goal.loop-piece-init
loop-piece-init c = ap (λ ws. Ok ws) (sym c.new.ensures.items)

pub loop-piece-preserved : goal.loop-piece-preserved
loop-piece-preserved c =
    let same = c.into_iter-piece-iterator.ensures.into_iter_gives in
    let turn = YieldsList-turn (YieldsList-from_str_split 44 c.args.text.now (lit< tt) (ap split_text same ∙ c.split-piece-items.ensures.text) (ap split_has_more same ∙ c.split-piece-items.ensures.has_more) (ap split_pattern same ∙ c.split-piece-items.ensures.pattern)) c.loop-piece.yielded _ c.loop-piece.yielded_by _ _ c.in-Some.piece c.in-Some.is c.next.ensures.steps in
    let to : IsReadTo (pieces_of c.args.text.now) (length c.loop-piece.yielded) c.loop-piece.words c.in-Some.piece.now = record {
      before = c.loop-piece.invariant;
      within = turn.0;
      at = turn.1;
    } in
    ap (λ n. with_pieces [] (take n (pieces_of c.args.text.now))) (length_push c.loop-piece.yielded c.in-Some.piece)
    ∙ with_pieces-more (pieces_of c.args.text.now) (length c.loop-piece.yielded) c.loop-piece.words c.in-Some.piece.now c.add_piece.new.self to c.in_ok-add_piece.ensures.ok

pub returns-in_err-add_piece-clause-refused : goal.returns-in_err-add_piece-clause-refused
returns-in_err-add_piece-clause-refused c =
    let same = c.into_iter-piece-iterator.ensures.into_iter_gives in
    let turn = YieldsList-turn (YieldsList-from_str_split 44 c.args.text.now (lit< tt) (ap split_text same ∙ c.split-piece-items.ensures.text) (ap split_has_more same ∙ c.split-piece-items.ensures.has_more) (ap split_pattern same ∙ c.split-piece-items.ensures.pattern)) c.loop-piece.yielded _ c.loop-piece.yielded_by _ _ c.in-Some.piece c.in-Some.is c.next.ensures.steps in
    let to : IsReadTo (pieces_of c.args.text.now) (length c.loop-piece.yielded) c.loop-piece.words c.in-Some.piece.now = record {
      before = c.loop-piece.invariant;
      within = turn.0;
      at = turn.1;
    } in
    let p = err_from_is_err_and c.from_residual.result c.from_residual.ensures.1 in
    rw (p.1, p.2) (λ other.
    words_of_text-pieces c.args.text.now c.requires
    ∙ with_pieces-refused (pieces_of c.args.text.now) (length c.loop-piece.yielded) c.loop-piece.words c.in-Some.piece.now c.in_err-add_piece.field-0.0 to (c.in_err-add_piece.ensures.refused other))

pub returns-in_err-add_piece-clause-no_memory : goal.returns-in_err-add_piece-clause-no_memory
returns-in_err-add_piece-clause-no_memory c =
    let same = c.into_iter-piece-iterator.ensures.into_iter_gives in
    let turn = YieldsList-turn (YieldsList-from_str_split 44 c.args.text.now (lit< tt) (ap split_text same ∙ c.split-piece-items.ensures.text) (ap split_has_more same ∙ c.split-piece-items.ensures.has_more) (ap split_pattern same ∙ c.split-piece-items.ensures.pattern)) c.loop-piece.yielded _ c.loop-piece.yielded_by _ _ c.in-Some.piece c.in-Some.is c.next.ensures.steps in
    let to : IsReadTo (pieces_of c.args.text.now) (length c.loop-piece.yielded) c.loop-piece.words c.in-Some.piece.now = record {
      before = c.loop-piece.invariant;
      within = turn.0;
      at = turn.1;
    } in
    let p = err_from_is_err_and c.from_residual.result c.from_residual.ensures.1 in
    rw (p.1, p.2) (λ wanted.
    may_want c.args.text.now (length c.loop-piece.yielded) c.loop-piece.words c.in-Some.piece.now c.requires to
    (c.in_err-add_piece.ensures.room (err_again wanted)) (c.in_err-add_piece.ensures.piece (err_again wanted)))

pub returns-clause-read : goal.returns-clause-read
returns-clause-read c =
    let same = c.into_iter-piece-iterator.ensures.into_iter_gives in
    let done = YieldsList-end (YieldsList-from_str_split 44 c.args.text.now (lit< tt) (ap split_text same ∙ c.split-piece-items.ensures.text) (ap split_has_more same ∙ c.split-piece-items.ensures.has_more) (ap split_pattern same ∙ c.split-piece-items.ensures.pattern)) c.loop-piece.yielded _ c.loop-piece.yielded_by _ _ c.in-None.is c.next.ensures.steps in
    words_of_text-pieces c.args.text.now c.requires
    ∙ ap (with_pieces []) (sym (take_all (length c.loop-piece.yielded) (pieces_of c.args.text.now) (omega (arith, done.1))))
    ∙ c.loop-piece.invariant
