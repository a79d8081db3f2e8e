use Rattle.std.proofs.Common.{◌++◌, ◌∷◌, [], ◌∙◌, arith}
use Rattle.photo_batcher.proofs.Drafts.{put_in_row}
use Rattle.photo_batcher.proofs.planning.add_member.Goals as goal

pub returns-in_ok-push-3 : goal.returns-in_ok-push-3
returns-in_ok-push-3 c =
    put_in_row (λ v. v.items) c.args.members.now.items c.args.batch c.args.number c.push-else-batch-len.new.self c.index_mut.result.now
    (c.in_ok-push-3.ensures.items ∙ (λ i. (c.index_mut.ensures.value i).items ++ c.args.number ∷ []))
    (omega (arith, c.if-batch-len.false, c.len.ensures, c.requires))
