use Rattle.std.proofs.Common.{sym, subst}
use Rattle.photo_device.specs.Device.{Shows}
use Rattle.photo_model.specs.Pull.{handed_over}
use Rattle.photo_device.proofs.Staged.{shows_unstaged}
use Rattle.photo_pull.proofs.Halves.{given_up, given_up_nothing}
use Rattle.photo_pull.proofs.pulling.pull.Goals.{in-Some, in_default}
use Rattle.photo_pull.proofs.pulling.pull.Goals as goal

pub returns-clause-source : goal.returns-clause-source
returns-clause-source c = λ t s shows_t shows_s.
    let now = shows_unstaged c.args.source.now c.unstage.new.self s c.unstage.ensures shows_s in
    let staged = c.in_ok-found.ensures.staged in
    elim c.match-found.branch [
      | in-Some w ↦ subst (λ d. Shows d (handed_over t s)) (sym w.source-is) (given_up c.args.target.now c.unstage.new.self c.in_ok-found.found w.in-Some.handed _ c.stage_pull.new.target w.hand_over.new.self w.in-Some.is w.deref.ensures.value staged w.hand_over.ensures.shows t s shows_t now)
      | in_default w ↦ subst (λ d. Shows d (handed_over t s)) (sym w.source-is) (given_up_nothing c.args.target.now c.unstage.new.self c.in_ok-found.found c.stage_pull.new.target w.in_default.is staged t s shows_t now)
    ]
