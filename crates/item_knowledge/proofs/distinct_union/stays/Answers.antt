use Rattle.std.proofs.Common.{rules, ◌≡◌, true, sym, subst, ◌∙◌, arith}
use Rattle.std.proofs.lemmas.Grind.{common_steps}
use Rattle.item_knowledge.specs.Excess.{exceeding, is_covered}
use Rattle.item_knowledge.specs.Fragments.{entries_at}
use Rattle.item_knowledge.specs.Rows.{pairs}
use Rattle.item_knowledge.specs.Operand.{fragments}
use Rattle.item_knowledge.specs.Tables.{in_order}
use Rattle.item_knowledge.proofs.ExcessLemmas.{Exceeds, exceeding_order, all_exceed}
use Rattle.item_knowledge.proofs.ProgressLemmas.{no_pairs, covered_stays}
use Rattle.item_knowledge.proofs.UnionLemmas.{entries_order}
use Rattle.item_knowledge.proofs.distinct_union.stays.Goals as goal

pub adds_nothing-requires-clause-other : goal.adds_nothing-requires-clause-other
adds_nothing-requires-clause-other c =
    subst (λ es. in_order es ≡ true) (sym c.entries-row.ensures.entries) (entries_order (fragments c.args.left) c.args.left.index.now c.args.numbers.0 c.args.left.operand c.requires.a)

pub adds_nothing-requires-clause-order : goal.adds_nothing-requires-clause-order
adds_nothing-requires-clause-order c =
    subst (λ es. in_order es ≡ true) (sym c.entries.ensures.entries) (entries_order (fragments c.args.right) c.args.right.index.now c.args.numbers.1 c.args.right.operand c.requires.b)

pub exceeds-requires-clause-order : goal.exceeds-requires-clause-order
exceeds-requires-clause-order c =
    subst (λ es. in_order es ≡ true) (sym c.entries-row.ensures.entries) (entries_order (fragments c.args.left) c.args.left.index.now c.args.numbers.0 c.args.left.operand c.requires.a)

pub exceeds-requires-clause-star : goal.exceeds-requires-clause-star
exceeds-requires-clause-star c = subst (λ es. in_order es ≡ true) (sym c.requires.risen) (exceeding_order (pairs c.args.left.star.now) (pairs c.args.star.now) c.requires.star)

pub returns-then-b-eq0 : goal.returns-then-b-eq0
returns-then-b-eq0 c = λ _.
    let star = pairs c.args.star.now in
    let xs = entries_at (fragments c.args.left) c.args.numbers.0 in
    let old = pairs c.args.left.star.now in
    let risen : Exceeds (exceeding old star) xs = grind (arith, common_steps, c.if-not-is_empty.branch, c.requires.risen, c.entries-row.ensures.entries, c.is_empty.ensures, all_exceed (exceeding old star) xs, no_pairs c.args.risen.now) in
    let is : is_covered star xs (entries_at (fragments c.args.right) c.args.numbers.1) ≡ true = grind (arith, common_steps, c.args.right.excess.first) in
    covered_stays star c.args.left.star.now c.args.right.star.now c.args.left.rows.now c.args.right.rows.now c.args.picture c.args.numbers c.args.left.excess c.args.right.excess c.requires.star risen (omega arith) (c.is_alone.ensures (search rules)) is

pub returns-else-b-eq0 : goal.returns-else-b-eq0
returns-else-b-eq0 c = λ covered.
    let star = pairs c.args.star.now in
    let xs = entries_at (fragments c.args.left) c.args.numbers.0 in
    let old = pairs c.args.left.star.now in
    let risen : Exceeds (exceeding old star) xs = grind (arith, common_steps, c.if-not-is_empty.branch, c.requires.risen, c.entries-row.ensures.entries, c.is_empty.ensures, all_exceed (exceeding old star) xs, no_pairs c.args.risen.now) in
    let is : is_covered star xs (entries_at (fragments c.args.right) c.args.numbers.1) ≡ true = (λ j. is_covered star (sym c.entries-row.ensures.entries j) (sym c.entries.ensures.entries j)) ∙ (sym c.adds_nothing.ensures ∙ covered) in
    covered_stays star c.args.left.star.now c.args.right.star.now c.args.left.rows.now c.args.right.rows.now c.args.picture c.args.numbers c.args.left.excess c.args.right.excess c.requires.star risen (omega arith) (c.is_alone.ensures (search rules)) is
