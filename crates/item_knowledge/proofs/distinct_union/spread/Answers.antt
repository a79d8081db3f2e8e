use Rattle.std.proofs.Common.{rules, ◌≡◌, ℕ, ◌+◌, false, [], ◌∷◌, ◌++◌, length, sym, ap, ◌∙◌, arith}
use Rattle.item_knowledge.specs.Entries.{same_entries}
use Rattle.item_knowledge.specs.Excess.{exceeding, union_vector}
use Rattle.item_knowledge.specs.Rows.{pairs}
use Rattle.item_knowledge.specs.Operand.{fragments}
use Rattle.item_knowledge.proofs.JoinLemmas.{joined_left, vector_order}
use Rattle.item_knowledge.proofs.RowLemmas.{rows_read}
use Rattle.item_knowledge.proofs.ProgressLemmas.{on_stays, on_joined}
use Rattle.item_knowledge.proofs.distinct_union.spread.Goals as goal

pub join-requires-clause-star : goal.join-requires-clause-star
join-requires-clause-star c = vector_order (pairs c.args.left.star.now) c.args.left.excess.vector

pub stays-requires-clause-risen : goal.stays-requires-clause-risen
stays-requires-clause-risen c = ap pairs c.deref.ensures.value ∙ c.in_ok-join.ensures.entries ∙ ap (exceeding (pairs c.args.left.star.now)) (joined_left (pairs c.args.star.now) c.requires.star)

pub overflow_add-to : goal.overflow_add-to
overflow_add-to c = omega (arith, rows_read c.args.left.rows.now c.args.left.whole, c.in-Some.ensures.left, c.rows-count.ensures, c.rows-count.type_inv)

pub loop-picture-preserved-then-stays : goal.loop-picture-preserved-then-stays
loop-picture-preserved-then-stays c =
    let r : ℕ × (ℕ × ℕ) = (c.in-Some.picture, c.in-Some.numbers) in
    on_stays c.args.left.rows.now c.args.right.rows.now c.args.left.index.now c.args.right.index.now (pairs c.args.star.now) c.loop-picture.out c.loop-picture.lists.index.items c.loop-picture.lists.joined.items c.loop-picture.cursor c.loop-picture.from c.loop-picture.to c.loop-picture.invariant c.next_picture.new.self r c.run_to.new.out c.push.new.self.items c.in_ok-from.from c.args.left.star.now c.args.left.excess c.requires.differ c.in-Some.ensures.next (c.stays.ensures c.if-stays.true) c.in-Some.ensures.left c.in_ok-from.ensures.order c.in_ok-from.ensures.run
    (c.in_ok-push.ensures.items ∙ ap (λ n. c.loop-picture.lists.index.items ++ (r.0, n) ∷ []) (c.in_ok-number.ensures.value ∙ search rules))

pub loop-picture-preserved : goal.loop-picture-preserved
loop-picture-preserved c =
    let r : ℕ × (ℕ × ℕ) = (c.in-Some.picture, c.in-Some.numbers) in
    let f = union_vector (pairs c.args.star.now) (fragments c.args.left) (fragments c.args.right) in
    let some : same_entries [] (f r.1) ≡ false = ap (λ v. same_entries [] v) (sym c.in_ok-row.ensures.entries) ∙ (sym c.is_nothing.ensures ∙ search rules) in
    let number : c.in_ok-number-2.number ≡ length c.loop-picture.lists.index.items + 1 = c.in_ok-number-2.ensures.value ∙ search rules in
    on_joined c.args.left.rows.now c.args.right.rows.now c.args.left.index.now c.args.right.index.now (pairs c.args.star.now) c.loop-picture.out c.loop-picture.lists.index.items c.loop-picture.lists.joined.items c.loop-picture.cursor c.loop-picture.from c.loop-picture.to c.loop-picture.invariant c.next_picture.new.self r c.place_fragment.new.self c.push-in-Some.new.self.items c.push-in-Some-2.new.self.items c.in_ok-row.row.now c.in-Some.ensures.next c.in_ok-row.ensures.row c.in_ok-row.ensures.entries some (search rules)
    (c.in_ok-push-2.ensures.items ∙ ap (λ n. c.loop-picture.lists.index.items ++ (r.0, n) ∷ []) number) (c.in_ok-push-3.ensures.items ∙ ap (λ n. c.loop-picture.lists.joined.items ++ (r.0, n) ∷ []) number)
