use Rattle.std.proofs.Common.{◌≡◌, true, sym, subst, ap, ◌∙◌}
use Rattle.item_knowledge.specs.Entries.{is_vector}
use Rattle.item_knowledge.specs.Excess.{IsExcess}
use Rattle.item_knowledge.specs.Fragments.{is_normal}
use Rattle.item_knowledge.specs.Rows.{pairs, fragments_of}
use Rattle.item_knowledge.specs.Tables.{in_order}
use Rattle.item_knowledge.proofs.ExcessLemmas.{wholes_differ}
use Rattle.item_knowledge.proofs.JoinLemmas.{joined_vector, vector_order}
use Rattle.item_knowledge.proofs.KnowledgeRowLemmas.{shown_are, shown_operand, star_joined, union_made}
use Rattle.item_knowledge.specs.Written.{IsWritten}
use Rattle.item_knowledge.proofs.knowledge_rows.KnowledgeRows.union.Goals as goal

pub invariant_of-left : goal.invariant_of-left
invariant_of-left c = record {
  whole = c.self.invariant.are_rows;
  excess = subst (λ ws. IsExcess ws c.self.inside.rows) (sym c.deref-3.ensures.value) c.self.invariant;
  operand = shown_operand c.self.inside.star.items c.self.inside.rows c.args.self.now c.self.invariant c.self.view_is c.args.index.now c.requires.left;
}

pub invariant_of-right : goal.invariant_of-right
invariant_of-right c = record {
  whole = c.others.invariant.are_rows;
  excess = subst (λ ws. IsExcess ws c.others.inside.rows) (sym c.deref-4.ensures.value) c.others.invariant;
  operand = shown_operand c.others.inside.star.items c.others.inside.rows c.args.others.now c.others.invariant c.others.view_is c.args.others_index.now c.requires.right;
}

pub union-requires-clause-differ : goal.union-requires-clause-differ
union-requires-clause-differ c = wholes_differ (pairs c.self.inside.star.items) (fragments_of c.self.inside.rows) (subst (λ fs. is_normal fs ≡ true) (shown_are c.self.inside.star.items c.self.inside.rows c.args.self.now c.self.invariant c.self.view_is) c.requires.normal)

pub union-requires-clause-star : goal.union-requires-clause-star
union-requires-clause-star c =
    let both = star_joined c.self.inside.star.items c.others.inside.star.items c.deref.result.now c.deref-2.result.now c.join.new.out.items c.self.inside.rows c.others.inside.rows c.self.invariant c.others.invariant c.deref.ensures.value c.deref-2.ensures.value c.in_ok-join.ensures.entries in
    subst (λ ws. in_order (pairs ws) ≡ true) (sym c.deref-5.ensures.value)
    (vector_order (pairs c.join.new.out.items) (ap is_vector both ∙ joined_vector (pairs c.self.inside.star.items) (pairs c.others.inside.star.items) c.self.invariant.vector c.others.invariant.vector))

pub invariant_of-out : goal.invariant_of-out
invariant_of-out c = (union_made c.self.inside.star.items c.others.inside.star.items c.join.new.out.items c.self.inside.rows c.others.inside.rows c.args.self.now c.args.others.now c.union.new.out c.args.index.now c.args.others_index.now c.in-Ok.written.items c.self.invariant c.self.view_is c.others.invariant c.others.view_is c.in_ok-join.ensures.row (star_joined c.self.inside.star.items c.others.inside.star.items c.deref.result.now c.deref-2.result.now c.join.new.out.items c.self.inside.rows c.others.inside.rows c.self.invariant c.others.invariant c.deref.ensures.value c.deref-2.ensures.value c.in_ok-join.ensures.entries) c.requires.left c.requires.right (subst (λ ws. IsWritten (pairs ws) (fragments_of c.self.inside.rows) c.args.index.now (fragments_of c.others.inside.rows) c.args.others_index.now c.union.new.out c.in-Ok.written.items) c.deref-5.ensures.value c.in-Ok.ensures)).excess

pub returns-in-Ok : goal.returns-in-Ok
returns-in-Ok c = let made = union_made c.self.inside.star.items c.others.inside.star.items c.join.new.out.items c.self.inside.rows c.others.inside.rows c.args.self.now c.args.others.now c.union.new.out c.args.index.now c.args.others_index.now c.in-Ok.written.items c.self.invariant c.self.view_is c.others.invariant c.others.view_is c.in_ok-join.ensures.row (star_joined c.self.inside.star.items c.others.inside.star.items c.deref.result.now c.deref-2.result.now c.join.new.out.items c.self.inside.rows c.others.inside.rows c.self.invariant c.others.invariant c.deref.ensures.value c.deref-2.ensures.value c.in_ok-join.ensures.entries) c.requires.left c.requires.right (subst (λ ws. IsWritten (pairs ws) (fragments_of c.self.inside.rows) c.args.index.now (fragments_of c.others.inside.rows) c.args.others_index.now c.union.new.out c.in-Ok.written.items) c.deref-5.ensures.value c.in-Ok.ensures) in record { rows = made.rows; union = made.union }
