use Rattle.std.proofs.Common.{◌≡◌, ◌+◌, length, refl, sym, ap, ◌∙◌, lit<, arith}
use Rattle.std.proofs.lemmas.Iterator.Consumers.{YieldsList-so_far, YieldsList-turn, YieldsList-end}
use Rattle.std.proofs.lemmas.Iterator.Splits.{YieldsList-from_str_split}
use Rattle.std.proofs.lemmas.List.{length_push}
use Rattle.std.proofs.Common.{◌≢◌, ◌≤◌, [], Err}
use Rattle.script_reader.specs.Limits.{max_line_bytes}
use Rattle.script_reader.specs.Lines.{fields_of}
use Rattle.script_reader.specs.declared.refusal.Refusal.TheVariants.{Memory}
use Rattle.script_reader.specs.Steps.{Refuses, seen}
use Rattle.script_reader.specs.Saying.{said}
use Rattle.script_reader.proofs.Taken.{HasTaken-none}
use Rattle.script_reader.proofs.Places.{length-map}
use Rattle.script_reader.proofs.Turns.{refused-turn, wants-turn, taken-turn, taken-all, taken-end}
use Rattle.script_reader.proofs.reader.Reader.read_pieces.Goals as goal

pub loop-piece-init : goal.loop-piece-init
loop-piece-init c = record { numbered = refl; taken = HasTaken-none c.args.self.now c.requires.first }

pub returns-in-Err-clause-refused : goal.returns-in-Err-clause-refused
returns-in-Err-clause-refused c =
    let number : 1 + length c.loop-piece.yielded ≡ c.loop-piece.number + 1 = omega arith in
    let road = YieldsList-from_str_split 10 c.args.text.now (lit< tt) (cc) (cc) (cc) in
    let turn = YieldsList-turn road c.loop-piece.yielded _ c.loop-piece.yielded_by _ _ c.in-Some.piece c.in-Some.is c.next.ensures.steps in
    let front = YieldsList-so_far road c.loop-piece.yielded _ c.loop-piece.yielded_by in
    let line = c.without_return.result.now in
    let refused : Refuses c.in-Err.refusal (said (seen c.loop-piece.self) line) = c.in-Err.ensures.reads.0 in
    rw c.in_line.ensures (refused-turn c.args.text.now c.loop-piece.yielded c.in-Some.piece.now line c.loop-piece.self c.in-Err.refusal (c.loop-piece.number + 1) c.loop-piece.invariant.taken
    front turn.0 turn.1 c.without_return.ensures refused number)

pub returns-in-Err-clause-no_memory : goal.returns-in-Err-clause-no_memory
returns-in-Err-clause-no_memory c =
    let road = YieldsList-from_str_split 10 c.args.text.now (lit< tt) (cc) (cc) (cc) in
    let turn = YieldsList-turn road c.loop-piece.yielded _ c.loop-piece.yielded_by _ _ c.in-Some.piece c.in-Some.is c.next.ensures.steps in
    let front = YieldsList-so_far road c.loop-piece.yielded _ c.loop-piece.yielded_by in
    let line = c.without_return.result.now in
    let short : c.in-Err.refusal ≡ Memory → length line ≤ max_line_bytes = λ e. c.read_line.ensures.memory (c.in-Err.is ∙ ap Err e) in
    let has_field : c.in-Err.refusal ≡ Memory → fields_of line ≢ [] = λ e. c.read_line.ensures.has_field (c.in-Err.is ∙ ap Err e) in
    rw c.in_line.ensures (wants-turn c.args.text.now c.loop-piece.yielded c.in-Some.piece.now line c.loop-piece.self c.in-Err.refusal (c.loop-piece.number + 1) c.requires.small c.utf8.text c.loop-piece.invariant.taken
    front turn.0 turn.1 c.without_return.ensures short has_field)

pub loop-piece-preserved : goal.loop-piece-preserved
loop-piece-preserved c =
    let read = rw c.without_return.ensures at c.in_default.ensures.reads in
    record {
      numbered = omega (arith, length_push c.loop-piece.yielded c.in-Some.piece);
      taken = taken-turn c.loop-piece.yielded c.in-Some.piece c.loop-piece.self c.read_line.new.self read.0 c.loop-piece.invariant.taken read.1 read.2;
    }

pub returns-clause-read : goal.returns-clause-read
returns-clause-read c =
    let road = YieldsList-from_str_split 10 c.args.text.now (lit< tt) (cc) (cc) (cc) in
    let end = YieldsList-end road c.loop-piece.yielded _ c.loop-piece.yielded_by _ _ c.in-None.is c.next.ensures.steps in
    taken-end c.args.text.now c.loop-piece.yielded c.loop-piece.self c.loop-piece.invariant.taken end.0

pub returns-clause-count : goal.returns-clause-count
returns-clause-count c =
    let road = YieldsList-from_str_split 10 c.args.text.now (lit< tt) (cc) (cc) (cc) in
    let end = YieldsList-end road c.loop-piece.yielded _ c.loop-piece.yielded_by _ _ c.in-None.is c.next.ensures.steps in
    c.loop-piece.invariant.numbered ∙ sym (length-map (λ p. p.now) c.loop-piece.yielded) ∙ ap length end.0

pub returns-clause-taken : goal.returns-clause-taken
returns-clause-taken c =
    let road = YieldsList-from_str_split 10 c.args.text.now (lit< tt) (cc) (cc) (cc) in
    let end = YieldsList-end road c.loop-piece.yielded _ c.loop-piece.yielded_by _ _ c.in-None.is c.next.ensures.steps in
    taken-all c.args.text.now c.loop-piece.yielded c.loop-piece.self c.loop-piece.invariant.taken end.0
