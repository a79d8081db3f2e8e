use Rattle.std.proofs.Common.{sym, subst}
use Rattle.item_knowledge.specs.Fragments.{IsWithin}
use Rattle.item_knowledge.specs.Rows.{fragments_of}
use Rattle.item_knowledge.specs.Kept.{IsOperandKnown}
use Rattle.item_knowledge.specs.Staged.{IsStagedUnion}
use Rattle.item_knowledge.proofs.KeptLemmas.{kept_knows, known_operand}
use Rattle.item_knowledge.proofs.StagedLemmas.{on_err, known_of, operand_union}
use Rattle.item_knowledge.proofs.knowledge.Knowledge.stage.Goals as goal

pub returns-clause-staged : goal.returns-clause-staged
returns-clause-staged c =
    let said = c.in_ok-stage_union.ensures in
    subst (IsStagedUnion c.stage_union.new.self.staged c.args.self.now.known) (known_of c.other.view_is)
    (operand_union c.stage_union.new.self.staged c.args.self.now.known (fragments_of c.other.inside.live) c.other.inside.index.items c.deref.result.now
    (λ p v z. kept_knows c.other.inside.live c.other.inside.index.items p v c.other.invariant.kept) c.deref.ensures.value said.there said.joined)

pub returns-in_err-stage_union-clause-wanted : goal.returns-in_err-stage_union-clause-wanted
returns-in_err-stage_union-clause-wanted c =
    let gs = fragments_of c.other.inside.live in
    let wanted : IsWithin c.args.other.now.known c.args.self.now.known → ⊥ =
    λ all. c.in_err-stage_union.ensures.wanted (subst (IsOperandKnown c.args.self.now.known gs) (sym c.deref.ensures.value)
    (known_operand c.args.self.now.known c.other.inside.live c.other.inside.index.items c.other.invariant.kept (subst (λ fs. IsWithin fs c.args.self.now.known) (sym (known_of c.other.view_is)) all))) in
    on_err _ wanted
