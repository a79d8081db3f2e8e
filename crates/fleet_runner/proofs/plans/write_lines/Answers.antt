use Rattle.std.proofs.Common.{rules, ◌≡◌, ◌<◌, ◌≤◌, ◌∙◌, length, subst, arith}
use Rattle.std.specs.Prelude.{Result, OnErr}
use Rattle.fleet_runner.specs.PlanTexts.{count_line, plan_text}
use Rattle.run_error.specs.declared.error.RunError.{RunError}
use Rattle.fleet_runner.specs.Outputs.{AppendsFront}
use Rattle.fleet_runner.proofs.PlanLines.{line_written, line_cut, last_cut, lines_appended}
use Rattle.fleet_runner.proofs.plans.write_lines.Goals as goal

pub loop-place-preserved : goal.loop-place-preserved
loop-place-preserved g c =
    let p = c.args.plan.now in
    let place = c.loop-place.place in
    let within : place < length p.batches = omega (arith, c.loop-place-test.true, c.commands-place-end.ensures.count) in
    line_written _ (g.W.Write.contents c.loop-place.writer) (g.W.Write.contents c.write_text.new.writer) p place (length p.batches) _ (plan_text p) within (c.as_bytes.ensures.value ∙ rw c.clear.ensures.bytes at c.in_ok-push_command.ensures) c.loop-place.invariant c.in_ok-write_text.ensures.written

pub returns-in_err-write_text-clause-front : goal.returns-in_err-write_text-clause-front
returns-in_err-write_text-clause-front g c =
    let p = c.args.plan.now in
    let place = c.loop-place.place in
    let within : place < length p.batches = omega (arith, c.loop-place-test.true, c.commands-place-end.ensures.count) in
    λ e. line_cut _ (g.W.Write.contents c.loop-place.writer) (g.W.Write.contents c.write_text.new.writer) p place (length p.batches) _ (plan_text p) within (c.as_bytes.ensures.value ∙ rw c.clear.ensures.bytes at c.in_ok-push_command.ensures) c.loop-place.invariant c.in_err-write_text.ensures.front

pub returns-clause-front : goal.returns-clause-front
returns-clause-front g c =
    let p = c.args.plan.now in
    let place = c.loop-place.place in
    let all : place ≡ length p.batches = omega (arith, c.loop-place-test.false, c.loop-place.auto.place-end, c.commands-place-end.ensures.count) in
    let line : c.as_bytes-2.result.now ≡ count_line p = search rules in
    λ e. last_cut _ (g.W.Write.contents c.loop-place.writer) (g.W.Write.contents c.write_text-2.new.writer) p place (length p.batches) c.as_bytes-2.result.now (plan_text p) all line c.loop-place.invariant (subst (λ (r : Result (Unit {0}) RunError). OnErr r (AppendsFront (g.W.Write.contents c.loop-place.writer) (g.W.Write.contents c.write_text-2.new.writer) c.as_bytes-2.result.now)) e c.write_text-2.ensures.front)

pub returns-in_err-push_command-clause-first : goal.returns-in_err-push_command-clause-first
returns-in_err-push_command-clause-first g c = λ e.
    let p = c.args.plan.now in
    let within : c.loop-place.place ≤ length p.batches = omega (arith, c.loop-place-test.true, c.commands-place-end.ensures.count) in
    lines_appended _ (g.W.Write.contents c.loop-place.writer) p c.loop-place.place within c.loop-place.invariant

pub returns-in_err-push_count-clause-first : goal.returns-in_err-push_count-clause-first
returns-in_err-push_count-clause-first g c = λ e.
    let p = c.args.plan.now in
    let within : c.loop-place.place ≤ length p.batches = omega (arith, c.loop-place-test.false, c.loop-place.auto.place-end, c.commands-place-end.ensures.count) in
    lines_appended _ (g.W.Write.contents c.loop-place.writer) p c.loop-place.place within c.loop-place.invariant
