use Rattle.std.proofs.Common.{refl, subst}
use Rattle.item_knowledge.specs.Rows.{fragments_of}
use Rattle.item_knowledge.specs.Staged.{IsStagedUnion}
use Rattle.item_knowledge.proofs.StagedLemmas.{operand_union}
use Rattle.item_knowledge.proofs.knowledge.Knowledge.stage_told.Goals as goal

pub returns-clause-staged : goal.returns-clause-staged
returns-clause-staged c =
    let said = c.in_ok-stage_union.ensures in
    let parts = c.parts.result in
    subst (IsStagedUnion c.stage_union.new.self.staged c.args.self.now.known) c.parts.ensures.value
    (operand_union c.stage_union.new.self.staged c.args.self.now.known (fragments_of parts.0.now) parts.1.now parts.1.now c.parts.ensures.telling.pairs refl said.there said.joined)
