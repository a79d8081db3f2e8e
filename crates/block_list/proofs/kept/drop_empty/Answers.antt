use Rattle.std.proofs.Common.{rules, length, not, eqb, Vec}
use Rattle.std.specs.declared.alloc.Global.{Global}
use Rattle.std.proofs.lemmas.Fn.{filter_same, All-from_retain}
use Rattle.block_list.specs.Blocks.{IsFilled}
use Rattle.block_list.proofs.Filtered.{joined-filled}
use Rattle.block_list.proofs.kept.drop_empty.Goals as goal

pub returns-clause-same : goal.returns-clause-same
returns-clause-same g c =
    let kept = filter_same _ (λ (block : Vec g.row.T.Denot Global). not (eqb (length block.items) 0)) _ (λ x b f' k. search rules) _ _ c.retain.ensures.filtered in
    rw kept (joined-filled c.args.blocks.now.items)

pub returns-clause-filled : goal.returns-clause-filled
returns-clause-filled g c = All-from_retain _ IsFilled _ (λ x b f' k. search rules) _ _ c.retain.ensures.filtered
