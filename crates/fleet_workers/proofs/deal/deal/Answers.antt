use Rattle.std.proofs.Common.{◌<◌, ◌∙◌, sym, subst, length, take, get_or, rules, arith, List, ℕ}
use Rattle.std.proofs.lemmas.List.{length-take-le}
use Rattle.std.proofs.Math.Nat.{mod-lt}
use Rattle.photo_batcher.proofs.Lasts.{there}
use Rattle.photo_batcher.proofs.Checked.{taken_more, taken_all}
use Rattle.fleet_workers.specs.Dealing.{IsDealt}
use Rattle.fleet_workers.proofs.Dealt.{slot_here, slot_is, dealt_none, dealt_more, numbered_at, many_groups}
use Rattle.fleet_workers.proofs.deal.deal.Goals as goal

pub loop-i-init : goal.loop-i-init
loop-i-init c = record {
  long = c.requires.long;
  many = many_groups c.in_ok-groups.groups.items c.args.count c.in_ok-groups.ensures;
  dealt = λ devices is. dealt_none c.args.script.now devices c.args.count c.in_ok-groups.groups.items c.args.slots.now.items c.in_ok-groups.ensures is;
}

pub take_job-job-requires-clause-number : goal.take_job-job-requires-clause-number
take_job-job-requires-clause-number c = numbered_at c.args.script.now c.args.members.now c.loop-i.i c.requires.numbers (search rules)

pub take_job-job-requires-clause-here : goal.take_job-job-requires-clause-here
take_job-job-requires-clause-here c = λ k low used x.
    let devices = c.requires.here.0 in
    let dealt = c.loop-i.invariant.dealt devices c.requires.here.1 in
    slot_here c.args.script.now c.args.members.now c.loop-i.i k devices c.loop-i.slots.items c.requires.apart (search rules) dealt.out low used x

pub loop-i-preserved : goal.loop-i-preserved
loop-i-preserved c =
    let script = c.args.script.now in
    let members = c.args.members.now in
    let i = c.loop-i.i in
    let n = get_or members i 0 in
    let below : i < length members = search rules in
    let number = numbered_at script members i c.requires.numbers below in
    let t = there script n number in
    record {
      long = c.take_job-job.ensures.long;
      many = c.add_job.ensures.len ∙ c.loop-i.invariant.many;
      dealt = λ devices is.
          let old = c.loop-i.invariant.dealt devices is in
          let job_at = c.take_job-job.ensures.job devices (sym old.out.long) (λ k low used x d. slot_is script members i k devices c.loop-i.slots.items c.requires.apart below old.out low used x d) in
          subst (λ (ms : List ℕ). IsDealt script ms devices c.args.count c.add_job.new.groups.items c.take_job-job.new.slots.items) (sym (taken_more members i below))
          (dealt_more script (take i members) n i t.command devices c.args.count c.loop-i.groups.items c.add_job.new.groups.items c.loop-i.slots.items c.take_job-job.new.slots.items c.take_job-job.result old (length-take-le i members (omega (arith, below))) (c.requires.count (omega (arith, below))) t.is c.take_job-job.ensures.number job_at (mod-lt i (c.requires.count (omega (arith, below)))) c.in_ok-add_job.ensures.jobs c.take_job-job.ensures.slots);
    }

pub returns : goal.returns
returns c = λ devices is.
    let members = c.args.members.now in
    subst (λ (ms : List ℕ). IsDealt c.args.script.now ms devices c.args.count c.loop-i.groups.items c.loop-i.slots.items) (taken_all members c.loop-i.i (omega arith)) (c.loop-i.invariant.dealt devices is)
