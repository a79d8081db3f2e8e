use Rattle.std.proofs.Common.{◌∙◌, ap}
use Rattle.std.specs.Prelude.{filter}
use Rattle.photo_device.specs.Held.{entries_of}
use Rattle.live_fleet.specs.Moving.{is_new_to}
use Rattle.live_fleet.proofs.Shown.{taken_shown, handed_shown}
use Rattle.live_fleet.proofs.questions.moving.pull_moves.Goals as goal

pub returns-clause-taken_shown : goal.returns-clause-taken_shown
returns-clause-taken_shown c = λ t s shows_t shows_s.
    ap entries_of c.in_ok-taken.ensures ∙ taken_shown c.args.target.now c.args.source.now t s shows_t shows_s c.knowledge-knowledge.ensures.device.store_known

pub returns-clause-handed_shown : goal.returns-clause-handed_shown
returns-clause-handed_shown c = λ t s shows_t shows_s.
    ap entries_of (c.in_ok-handed.ensures.items ∙ ap (filter (is_new_to c.args.target.now)) c.out.ensures.value) ∙ handed_shown c.args.target.now c.args.source.now t s shows_t shows_s c.knowledge-knowledge.ensures.device.out_known
