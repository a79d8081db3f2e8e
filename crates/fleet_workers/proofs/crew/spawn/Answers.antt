use Rattle.std.proofs.Common.{◌≡◌, ◌∙◌, sym, subst}
use Rattle.std.specs.Prelude.{IfOk}
use denote.Param.Send.{sendable}
use Rattle.std.proofs.Crossing.{crosses}
use Rattle.std.proofs.alloc.Global.TheSendSync as global
use Rattle.std.proofs.boxed.Box.TheSendSync as box
use Rattle.std.proofs.rt.Memory.TheSendSync as memory
use Rattle.std.proofs.string.String.TheSendSync as string
use Rattle.std.proofs.vec.Vec.TheSendSync as vec
use Rattle.std.specs.Arc.{arc_value}
use Rattle.work_ledger.proofs.share.Share.TheSendSync as share
use Rattle.work_ledger.proofs.ledger.Ledger.TheSendSync as ledger
use Rattle.fleet_model.specs.Contents.{Contents}
use Rattle.fleet_workers.specs.Jobs.{HasWorked, share_for}
use Rattle.fleet_workers.proofs.Sent.{job_send, done_send, script_send, script_sync}
use Rattle.fleet_workers.proofs.crew.spawn.Goals as goal

pub spawn_with-requires-send-F : goal.spawn_with-requires-send-F
spawn_with-requires-send-F g c κs within = search (memory.the_field_send, memory.the_send, memory.the_field_sync, memory.the_sync, global.the_field_send, global.the_send, global.the_field_sync, global.the_sync, vec.the_send, vec.the_sync, string.the_field_send, string.the_send, string.the_field_sync, string.the_sync, box.the_send, box.the_sync, crosses, job_send, script_send, script_sync, share.the_send, ledger.the_send, ledger.the_sync, sendable) depth 60 fits 20000

pub spawn_with-requires-send-T : goal.spawn_with-requires-send-T
spawn_with-requires-send-T g c κs within = search (memory.the_field_send, memory.the_send, memory.the_field_sync, memory.the_sync, global.the_field_send, global.the_send, global.the_field_sync, global.the_sync, vec.the_send, vec.the_sync, string.the_field_send, string.the_send, string.the_field_sync, string.the_sync, box.the_send, box.the_sync, crosses, done_send, share.the_send, sendable) depth 60 fits 20000

pub spawn_with-requires-clause-keeps : goal.spawn_with-requires-clause-keeps
spawn_with-requires-clause-keeps g c κs within = λ r post.
    let script : c.of.result.value ≡ arc_value c.args.shared.script = c.of.ensures ∙ c.deref.ensures in
    subst (λ (v : _). IfOk r (λ f. HasWorked c.of.result.value v.items f.done.items (share_for c.of.result.value v.items) f.share)) (sym c.of-2.ensures)
    (subst (λ (s : Contents). IfOk r (λ f. HasWorked s c.args.jobs.items f.done.items (share_for s c.args.jobs.items) f.share)) (sym script) post)
