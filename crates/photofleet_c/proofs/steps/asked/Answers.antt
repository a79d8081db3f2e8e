use Rattle.std.proofs.Common.{subst}
use Rattle.photofleet_c.specs.Placed.{HasNoRoom, Holds}
use Rattle.photofleet_c.proofs.LineLemmas.{next_of, no_room, step_to}
use Rattle.photofleet_c.proofs.steps.asked.Goals as goal

pub returns-then-place-clause-done : goal.returns-then-place-clause-done
returns-then-place-clause-done c = λ _. (
  next_of c.args.session.now c.args.line.now,
  c.in-Ok.text.items,
  step_to c.args.session.now c.args.line.now c.in-Ok.text.items c.in-Ok.ensures.told,
  subst (λ text. Holds c.args.out.now c.place.new.out c.place.new.written text) c.as_slice.ensures.value c.if-place.ensures.holds,
)

pub returns-in-Ok-clause-other : goal.returns-in-Ok-clause-other
returns-in-Ok-clause-other c = λ _.
    no_room c.args.session.now c.args.line.now c.in-Ok.text.items c.args.out.now c.place.new.out c.place.new.written c.in-Ok.ensures.told
    (subst (λ text. HasNoRoom c.args.out.now c.place.new.out c.place.new.written text) c.as_slice.ensures.value c.if-place.ensures.small)
