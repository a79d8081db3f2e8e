use Rattle.std.proofs.Common.{◌≡◌, ◌≤◌, ◌+◌, ◌++◌, List, ℕ, length, map, take, drop, sym, ap, ◌∙◌, add-one, arith}
use Rattle.std.proofs.lemmas.List.{length-map}
use Rattle.photo_batcher.specs.Steps.{with_member}
use Rattle.photo_batcher.proofs.Drafts.{draft_low, draft_more, draft_all, draft_shaped}
use Rattle.photo_batcher.proofs.Checked.{written_back}
use Rattle.photo_batcher.proofs.planning.plan.Goals as goal

pub add_member-requires : goal.add_member-requires
add_member-requires c =
    let l = c.loop-place in
    let rows : List (List ℕ) = map (λ v. v.items) l.members.items in
    let long : length rows ≡ length l.members.items = length-map l.members.items (λ v. v.items) in
    let low : c.in_ok-batch.batch ≤ length rows = draft_low c.args.script.now l.place (l.place + 1) c.in_ok-batch.batch l.last.items l.batches.items l.afters.items c.plan_next.new.last c.plan_next.new.batches.items c.plan_next.new.afters.items rows (add-one l.place) l.invariant (omega (arith, c.loop-place-test.true, c.commands-place-end.ensures.count)) c.in_ok-batch.ensures.planned c.in_ok-batch.ensures.batch in
    omega arith

pub loop-place-preserved : goal.loop-place-preserved
loop-place-preserved c =
    let l = c.loop-place in
    let items = l.last.items in
    let new = c.plan_next.new.last in
    let given = c.as_mut_slice.ensures in
    let rows : List (List ℕ) = map (λ v. v.items) l.members.items in
    let same : length new ≡ length items = c.plan_next.auto.last ∙ ap length given.value in
    let whole : take l.last.len (new ++ drop (length new) items) ≡ new = written_back new items l.last.len same (sym given.len ∙ ap length given.value) in
    let put : map (λ v. v.items) c.add_member.new.members.items ≡ with_member c.in_ok-batch.batch (l.place + 1) rows = c.in_ok-add_member.ensures in
    rw (whole, put) (draft_more c.args.script.now l.place (l.place + 1) c.in_ok-batch.batch l.last.items l.batches.items l.afters.items new c.plan_next.new.batches.items c.plan_next.new.afters.items rows (add-one l.place) l.invariant (omega (arith, c.loop-place-test.true, c.commands-place-end.ensures.count)) c.in_ok-batch.ensures.planned c.in_ok-batch.ensures.batch)

pub invariant_of-result : goal.invariant_of-result
invariant_of-result c =
    let l = c.loop-place in
    draft_shaped c.args.script.now l.place l.last.items l.batches.items l.afters.items (map (λ v. v.items) l.members.items) (omega (arith, c.commands-place-end.ensures.count)) (omega (arith, c.commands-place-end.ensures.at_most)) l.invariant

pub returns : goal.returns
returns c =
    let l = c.loop-place in
    draft_all c.args.script.now l.place l.last.items l.batches.items l.afters.items (map (λ v. v.items) l.members.items) (omega (arith, c.loop-place-test.false, c.commands-place-end.ensures.count)) l.invariant
