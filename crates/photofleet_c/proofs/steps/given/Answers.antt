use Rattle.std.proofs.Common.{refl, ap, length}
use Rattle.std.proofs.lemmas.Bool.{OnFalse_at}
use Rattle.photofleet_c.proofs.LineLemmas.{no_room}
use Rattle.photofleet_c.proofs.steps.given.Goals as goal

pub returns-then-not-told-clause-other : goal.returns-then-not-told-clause-other
returns-then-not-told-clause-other c = λ _.
    no_room c.args.session.now c.args.line.now c.in-Ok.told.text.items c.args.out.now c.args.out.now _ c.in-Ok.ensures.told
    (record { same = refl; count = ap length c.as_slice-text.ensures.value; small = OnFalse_at c.if-not-told.true c.in-Ok.ensures.long })
