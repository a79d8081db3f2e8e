use Rattle.std.proofs.Common.{ℕ, List, Bor, ◌++◌, length, map, suc, zero, ap, sym, subst, ◌∙◌, Err, lit<, arith}
use Rattle.std.proofs.lemmas.Iterator.Consumers.{YieldsList-so_far, YieldsList-turn, YieldsList-end}
use Rattle.std.proofs.lemmas.Iterator.Splits.{YieldsList-from_str_split}
use Rattle.std.proofs.lemmas.List.{append-nil}
use Rattle.std.proofs.lemmas.Result.{err_from_is_err_and}
use Rattle.script_reader.specs.Growing.{IsGrown}
use Rattle.script_reader.proofs.Grown.{utf8_more}
use Rattle.live_script.specs.Live.{with_line}
use Rattle.live_script.specs.Refused.{IsFaultOf}
use Rattle.live_script.proofs.Behind.{grown_line, some_lines}
use Rattle.live_script.proofs.Readable.{script_utf8}
use Rattle.live_script.proofs.Grew.{longer_adds, ok_longer}
use Rattle.live_script.proofs.LinesBehind.{behind_push, each_behind, fault_behind, fault_line, fault_so_far, piece_whole, pieces_behind, some_pieces}
use Rattle.live_script.proofs.several.script_with.Goals as goal

pub returns-in_err-script-clause-refused : goal.returns-in_err-script-clause-refused
returns-in_err-script-clause-refused c =
    let text = c.args.text.now in
    let p = err_from_is_err_and c.from_residual.result c.from_residual.ensures.1 in
    let fault = c.in_err-script.field-0.0 in
    let found : IsFaultOf text fault = record { first = c.in_err-script.ensures.refused; memory = λ e. c.in_err-script.ensures.no_memory (ap Err e) } in
    rw (p.1, p.2) (fault_behind text c.args.lines.now fault c.requires.small (utf8_more (suc zero) text c.args.lines.now (script_utf8 text c.requires.script) c.utf8.lines) found)

pub loop-line-init : goal.loop-line-init
loop-line-init c = record {
  grown = subst (λ t. IsGrown t c.in_ok-script.script) (sym (append-nil c.args.text.now)) c.in_ok-script.ensures.grown;
  some = omega (arith, c.in_ok-script.ensures.lines, some_pieces c.args.text.now);
  longer = λ old is. ok_longer _ _ old c.in_ok-script.ensures.grown.read is;
}

pub push-requires : goal.push-requires
push-requires c =
    let road = YieldsList-from_str_split 10 c.args.lines.now (lit< tt) (cc) (cc) (cc) in
    let turn = YieldsList-turn road c.loop-line.yielded _ c.loop-line.yielded_by _ _ c.in-Some.line c.in-Some.is c.next.ensures.steps in
    record { one = rw c.as_bytes.ensures.value (piece_whole c.args.lines.now (length c.loop-line.yielded) c.in-Some.line.now turn.0 turn.1) }

pub loop-line-preserved : goal.loop-line-preserved
loop-line-preserved c =
    let so_far = c.loop-line.invariant in
    let text = c.args.text.now ++ each_behind (map (λ p. p.now) c.loop-line.yielded) in
    let line = c.as_bytes.result.now in
    let grown = c.in_ok-push.ensures.grown text so_far.grown in
    record {
      grown = subst (λ t. IsGrown t c.push.new.self) (behind_push c.args.text.now c.loop-line.yielded c.in-Some.line line c.as_bytes.ensures.value) (grown_line c.loop-line.script.lines text line c.push.new.self so_far.some grown);
      some = some_lines c.loop-line.script.lines text line c.push.new.self so_far.some grown;
      longer = λ old is. longer_adds _ old _ _ (so_far.longer old is) (c.in_ok-push.ensures.said text so_far.grown);
    }

pub returns-in_err-push-clause-refused : goal.returns-in_err-push-clause-refused
returns-in_err-push-clause-refused c =
    let so_far = c.loop-line.invariant in
    let text = c.args.text.now in
    let lines = c.args.lines.now in
    let yielded = c.loop-line.yielded in
    let road = YieldsList-from_str_split 10 lines (lit< tt) (cc) (cc) (cc) in
    let turn = YieldsList-turn road yielded _ c.loop-line.yielded_by _ _ c.in-Some.line c.in-Some.is c.next.ensures.steps in
    let begun = YieldsList-so_far road yielded _ c.loop-line.yielded_by in
    let front = map (λ (p : Bor (List ℕ)). p.now) yielded in
    let before = text ++ each_behind front in
    let fault = c.in_err-push.field-0.0 in
    let p = err_from_is_err_and c.from_residual-in_err-push.result c.from_residual-in_err-push.ensures.1 in
    let found = fault_line c.loop-line.script.lines before c.as_bytes.result.now fault so_far.some (c.in_err-push.ensures.refused before so_far.grown) (λ e. c.in_err-push.ensures.no_memory before so_far.grown (ap Err e)) in
    let utf8 = utf8_more (suc zero) text lines (script_utf8 text c.requires.script) c.utf8.lines in
    rw (p.1, p.2) (fault_so_far text lines front (length yielded) c.in-Some.line.now begun turn.0 turn.1 fault c.requires.small utf8 (subst (λ l. IsFaultOf (with_line before l) fault) c.as_bytes.ensures.value found))

pub returns-clause-grown : goal.returns-clause-grown
returns-clause-grown c =
    let road = YieldsList-from_str_split 10 c.args.lines.now (lit< tt) (cc) (cc) (cc) in
    let end = YieldsList-end road c.loop-line.yielded _ c.loop-line.yielded_by _ _ c.in-None.is c.next.ensures.steps in
    subst (λ t. IsGrown t c.loop-line.script) (ap (λ t. c.args.text.now ++ t) (ap each_behind end.0 ∙ pieces_behind c.args.lines.now)) c.loop-line.invariant.grown
