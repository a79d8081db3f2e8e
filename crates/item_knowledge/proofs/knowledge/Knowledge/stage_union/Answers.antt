use Rattle.std.proofs.Common.{rules, sym, ap, ◌∙◌, subst}
use Rattle.item_knowledge.specs.Rows.{fragments_of}
use Rattle.item_knowledge.specs.Gathering.{IsUnion}
use Rattle.item_knowledge.specs.Kept.{is_operand_within}
use Rattle.item_knowledge.proofs.KeptLemmas.{joins, joins_none, not_known}
use Rattle.item_knowledge.proofs.StagedLemmas.{on_err, known_of}
use Rattle.item_knowledge.proofs.knowledge.Knowledge.stage_union.Goals as goal

pub returns-clause-joined : goal.returns-clause-joined
returns-clause-joined c =
    joins c.self.inside.live c.self.inside.index.items c.args.self.now.known (fragments_of c.args.rows.now) (fragments_of c.union.new.out) c.args.index.now c.in_ok-written.written.items c.self.invariant.kept (known_of c.self.view_is)
    (subst (λ xs. IsUnion (fragments_of c.self.inside.live) xs (fragments_of c.args.rows.now) c.args.index.now (fragments_of c.union.new.out) c.in_ok-written.written.items) c.deref.ensures.value (search rules))

pub returns-then-is_within-clause-joined : goal.returns-then-is_within-clause-joined
returns-then-is_within-clause-joined c =
    let is = ap (λ xs. is_operand_within (fragments_of c.args.rows.now) c.args.index.now (fragments_of c.self.inside.live) xs) (sym c.deref.ensures.value) in
    joins_none c.self.inside.live c.self.inside.index.items c.args.index.now c.args.self.now.known (fragments_of c.args.rows.now) c.self.invariant.kept (known_of c.self.view_is) c.requires.operand
    (is ∙ (sym c.is_within.ensures ∙ c.if-is_within.true))

pub returns-in_err-written-clause-wanted : goal.returns-in_err-written-clause-wanted
returns-in_err-written-clause-wanted c =
    let is = ap (λ xs. is_operand_within (fragments_of c.args.rows.now) c.args.index.now (fragments_of c.self.inside.live) xs) (sym c.deref.ensures.value) in
    on_err _ (not_known c.self.inside.live c.self.inside.index.items c.args.index.now c.args.self.now.known (fragments_of c.args.rows.now) c.self.invariant.kept (known_of c.self.view_is) c.requires.operand
    (is ∙ (sym c.is_within.ensures ∙ c.if-is_within.false)))
