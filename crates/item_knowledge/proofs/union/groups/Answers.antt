use Rattle.std.proofs.Common.{rules, ◌≡◌, true, false, [], ◌∷◌, ◌++◌, drop, sym, subst, ap, ◌∙◌}
use Rattle.item_knowledge.specs.Entries.{same_entries}
use Rattle.item_knowledge.specs.Excess.{union_vector}
use Rattle.item_knowledge.specs.Gathering.{paired, table_of, IsAdded}
use Rattle.item_knowledge.specs.VectorIndex.{vectors_at}
use Rattle.item_knowledge.specs.Rows.{pairs, grouped}
use Rattle.item_knowledge.specs.Operand.{fragments}
use Rattle.item_knowledge.proofs.GatherLemmas.{none_gathered, one_gathered, left_is, table_same, table_other}
use Rattle.item_knowledge.proofs.VectorIndexLemmas.{none_placed}
use Rattle.item_knowledge.proofs.UnionLemmas.{union_order}
use Rattle.item_knowledge.proofs.union.groups.Goals as goal

pub loop-picture-init : goal.loop-picture-init
loop-picture-init c =
    let f = union_vector (pairs c.args.star.now) (fragments c.args.left) (fragments c.args.right) in
    record {
      gathered = none_gathered _ _ (grouped c.new-groups.result.items (vectors_at c.args.vectors.now c.args.by_vector.now.numbers.items)) c.in_ok-index.index.items
          (λ i. table_of [] f (paired (drop (c.new-cursor.ensures.left i) c.args.left.index.now) (drop (c.new-cursor.ensures.right i) c.args.right.index.now)))
          (ap (λ gs. grouped gs (vectors_at c.args.vectors.now c.args.by_vector.now.numbers.items)) c.new-groups.ensures.items) c.in_ok-index.ensures.items;
      placed = none_placed c.args.by_vector.now c.args.vectors.now c.new-groups.result.items c.requires.found c.requires.none c.requires.empty c.new-groups.ensures.items;
    }

pub loop-picture-preserved-then-is_nothing : goal.loop-picture-preserved-then-is_nothing
loop-picture-preserved-then-is_nothing c =
    let f = union_vector (pairs c.args.star.now) (fragments c.args.left) (fragments c.args.right) in
    let same : same_entries [] (f c.in-Some.numbers) ≡ true = ap (λ v. same_entries [] v) (sym c.in_ok-row.ensures.entries) ∙ (sym c.is_nothing.ensures ∙ search rules) in
    record {
      gathered = left_is (table_same f c.in-Some.ensures.next same) c.loop-picture.invariant.gathered;
      placed = c.loop-picture.invariant.placed;
    }

pub loop-picture-preserved : goal.loop-picture-preserved
loop-picture-preserved c =
    let f = union_vector (pairs c.args.star.now) (fragments c.args.left) (fragments c.args.right) in
    let other : same_entries [] (f c.in-Some.numbers) ≡ false = ap (λ v. same_entries [] v) (sym c.in_ok-row.ensures.entries) ∙ (sym c.is_nothing.ensures ∙ search rules) in
    record {
      gathered = one_gathered c.loop-picture.invariant.gathered (table_other f c.in-Some.ensures.next other) (union_order (pairs c.args.star.now) (fragments c.args.left) (fragments c.args.right) c.args.left.index.now c.args.right.index.now c.args.right.operand) _ c.in_ok-k.k c.push.new.self.items
          (subst (λ v. IsAdded c.in-Some.picture v (grouped c.loop-picture.groups.items (vectors_at c.loop-picture.vectors c.loop-picture.by_vector.numbers.items)) (grouped c.add.new.groups.items (vectors_at c.add.new.vectors c.add.new.by_vector.numbers.items)) c.in_ok-k.k) c.in_ok-row.ensures.entries c.in_ok-k.ensures.added)
          other (c.in_ok-push.ensures.items ∙ ap (λ n. c.loop-picture.index.items ++ (c.in-Some.picture, n) ∷ []) c.in_ok-number.ensures.value);
      placed = c.in_ok-k.ensures.placed;
    }

pub returns-clause-gathered : goal.returns-clause-gathered
returns-clause-gathered c =
    left_is (ap (table_of [] (union_vector (pairs c.args.star.now) (fragments c.args.left) (fragments c.args.right))) (c.next_picture.ensures.none (search rules))) c.loop-picture.invariant.gathered
