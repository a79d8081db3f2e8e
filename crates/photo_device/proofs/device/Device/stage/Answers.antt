use Rattle.std.proofs.Common.{sym, ◌∙◌, subst}
use Rattle.photo_device.specs.Device.{unstaged}
use Rattle.photo_device.specs.Staging.{MayStage, IsRoomFor, gained}
use Rattle.photo_device.proofs.Staged.{stages}
use Rattle.photo_device.proofs.device.Device.stage.Goals as goal

pub invariant_of-self-2 : goal.invariant_of-self-2
invariant_of-self-2 c =
    let drops = c.args.change.drops in
    let takes = c.args.change.takes in
    let still : MayStage drops.stored.items drops.waiting.items takes (gained c.args.change.gain) (unstaged c.args.self.now) = let m = c.requires.may in assumption in
    let may = subst (MayStage drops.stored.items drops.waiting.items takes (gained c.args.change.gain)) (sym (c.self.view_is ∙ c.unstage.ensures)) still in
    let in_store = subst (λ n. IsRoomFor c.self.inside.store n c.args.room c.in-Ok.in_store) c.len-takes.ensures c.in-Ok.ensures.store in
    let in_out = subst (λ n. IsRoomFor c.self.inside.out n c.args.room c.in-Ok.in_out) c.len-takes.ensures c.in-Ok.ensures.out in
    rw (c.rooms.ensures.store_kept, c.rooms.ensures.out_kept) (stages c.stage.new.self _ (gained c.args.change.gain) _ c.stage.ensures.known c.in_default-stage.ensures.staged (c.stage.ensures.star c.self.inside.author c.self.inside.counter may.own) may in_store in_out c.self.invariant.device)
