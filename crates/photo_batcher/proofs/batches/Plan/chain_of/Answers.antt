use Rattle.std.proofs.Common.{rules, ◌≡◌, sym}
use Rattle.std.specs.Prelude.{None}
use Rattle.photo_batcher.specs.Plans.{after_in}
use Rattle.photo_batcher.proofs.Drafts.{gone_more, gone_all}
use Rattle.photo_batcher.proofs.OnePlan.{chain_is_longest}
use Rattle.photo_batcher.proofs.batches.Plan.chain_of.Goals as goal

pub loop-before-preserved : goal.loop-before-preserved
loop-before-preserved c =
    let l = c.loop-before in
    let found = c.in-Some in
    rw c.in_ok-push-2.ensures.items (gone_more c.args.self.now c.args.number l.last found.before l.chain.items l.invariant (sym found.ensures.after) found.ensures.some found.ensures.earlier)

pub returns-clause-longest : goal.returns-clause-longest
returns-clause-longest c = λ script plan.
    let l = c.loop-before in
    let none : after_in c.args.self.now l.last ≡ None = search rules in
    chain_is_longest script c.args.self.now c.args.number c.reverse.new.self.items c.requires.first c.requires.within (gone_all c.args.self.now c.args.number l.last l.chain.items c.reverse.new.self.items l.invariant none c.reverse.ensures.items) plan
