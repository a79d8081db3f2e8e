-- What goes to a worker's thread, and what comes back, may be sent between threads.
use denote.Param.Send.{IsSend, IsSync, sendable}
use Rattle.std.proofs.Crossing.{crosses}
use Rattle.std.proofs.alloc.Global.TheSendSync as global
use Rattle.std.proofs.boxed.Box.TheSendSync as box
use Rattle.std.proofs.rt.Memory.TheSendSync as memory
use Rattle.std.proofs.string.String.TheSendSync as string
use Rattle.std.proofs.vec.Vec.TheSendSync as vec
use Rattle.photo_filter_text.proofs.tree.FilterTree.TheLaws.TheKnot as knot
use Rattle.photo_filter_text.proofs.tree.Cmp.TheSendSync as cmp
use Rattle.photo_record.proofs.day.Day.TheSendSync as day
use Rattle.photo_record.proofs.rating.Rating.TheSendSync as rating
use Rattle.photo_version.proofs.author.Author.TheSendSync as author
use Rattle.photo_record.proofs.word.Word.TheSendSync as word
use Rattle.photo_record.proofs.record.Record.TheSendSync as record_
use Rattle.photo_filter_rules.proofs.alternative.Alternative.TheSendSync as alternative
use Rattle.photo_filter_rules.proofs.span.Span.TheSendSync as span
use Rattle.item_knowledge.proofs.knowledge.Knowledge.TheSendSync as knowledge
use Rattle.photo_device.proofs.held.Held.TheSendSync as held
use Rattle.photo_device.proofs.held_set.HeldSet.TheSendSync as held_set
use Rattle.photo_device.proofs.prepared.Prepared.TheSendSync as prepared
use Rattle.photo_script.proofs.report.Report.TheSendSync as report
use Rattle.script_reader.proofs.names.Names.TheSendSync as names
use Rattle.photo_filter_text.specs.contracts.tree.FilterTree as tree
use Rattle.photo_filter_rules.specs.contracts.filter.Filter as filter_
use Rattle.photo_device.specs.contracts.device.Device as device
use Rattle.fleet_model.specs.contracts.command.Command as command
use Rattle.script_reader.specs.contracts.script.Script as script
use Rattle.fleet_workers.specs.contracts.parcel.Parcel as parcel
use Rattle.fleet_workers.specs.contracts.work.Job as job
use Rattle.fleet_workers.specs.contracts.work.Done as done

pub filter_send : IsSend filter_.the_row
filter_send = first_of (
  search (memory.the_field_send, memory.the_send, memory.the_field_sync, memory.the_sync, global.the_field_send, global.the_send, global.the_field_sync, global.the_sync, vec.the_send, vec.the_sync, string.the_field_send, string.the_send, string.the_field_sync, string.the_sync, box.the_send, box.the_sync, alternative.the_send, alternative.the_sync, span.the_field_send, span.the_send, span.the_field_sync, span.the_sync, cmp.the_field_send, cmp.the_send, cmp.the_field_sync, cmp.the_sync, day.the_send, day.the_sync, rating.the_send, rating.the_sync, word.the_send, word.the_sync, crosses, knot.crosses, sendable) depth 60 fits 20000,
  search (memory.the_field_send, memory.the_send, memory.the_field_sync, memory.the_sync, global.the_field_send, global.the_send, global.the_field_sync, global.the_sync, vec.the_send, vec.the_sync, string.the_field_send, string.the_send, string.the_field_sync, string.the_sync, box.the_send, box.the_sync, alternative.the_send, alternative.the_sync, span.the_field_send, span.the_send, span.the_field_sync, span.the_sync, cmp.the_field_send, cmp.the_send, cmp.the_field_sync, cmp.the_sync, day.the_send, day.the_sync, rating.the_send, rating.the_sync, word.the_send, word.the_sync, crosses, knot.crosses_both, sendable) depth 60 fits 20000,
)

pub filter_sync : IsSync filter_.the_row
filter_sync = first_of (
  search (memory.the_field_send, memory.the_send, memory.the_field_sync, memory.the_sync, global.the_field_send, global.the_send, global.the_field_sync, global.the_sync, vec.the_send, vec.the_sync, string.the_field_send, string.the_send, string.the_field_sync, string.the_sync, box.the_send, box.the_sync, alternative.the_send, alternative.the_sync, span.the_field_send, span.the_send, span.the_field_sync, span.the_sync, cmp.the_field_send, cmp.the_send, cmp.the_field_sync, cmp.the_sync, day.the_send, day.the_sync, rating.the_send, rating.the_sync, word.the_send, word.the_sync, crosses, knot.crosses, sendable) depth 60 fits 20000,
  search (memory.the_field_send, memory.the_send, memory.the_field_sync, memory.the_sync, global.the_field_send, global.the_send, global.the_field_sync, global.the_sync, vec.the_send, vec.the_sync, string.the_field_send, string.the_send, string.the_field_sync, string.the_sync, box.the_send, box.the_sync, alternative.the_send, alternative.the_sync, span.the_field_send, span.the_send, span.the_field_sync, span.the_sync, cmp.the_field_send, cmp.the_send, cmp.the_field_sync, cmp.the_sync, day.the_send, day.the_sync, rating.the_send, rating.the_sync, word.the_send, word.the_sync, crosses, knot.crosses_both, sendable) depth 60 fits 20000,
)

pub device_send : IsSend device.the_row
device_send = search (memory.the_field_send, memory.the_send, memory.the_field_sync, memory.the_sync, global.the_field_send, global.the_send, global.the_field_sync, global.the_sync, vec.the_send, vec.the_sync, string.the_field_send, string.the_send, string.the_field_sync, string.the_sync, box.the_send, box.the_sync, crosses, filter_send, held_set.the_send, knowledge.the_send, prepared.the_send, sendable) depth 60 fits 20000

pub command_send : IsSend command.the_row
command_send = search (memory.the_field_send, memory.the_send, memory.the_field_sync, memory.the_sync, global.the_field_send, global.the_send, global.the_field_sync, global.the_sync, vec.the_send, vec.the_sync, string.the_field_send, string.the_send, string.the_field_sync, string.the_sync, box.the_send, box.the_sync, crosses, record_.the_send, filter_send, sendable) depth 60 fits 20000

pub command_sync : IsSync command.the_row
command_sync = search (memory.the_field_send, memory.the_send, memory.the_field_sync, memory.the_sync, global.the_field_send, global.the_send, global.the_field_sync, global.the_sync, vec.the_send, vec.the_sync, string.the_field_send, string.the_send, string.the_field_sync, string.the_sync, box.the_send, box.the_sync, crosses, record_.the_sync, filter_sync, sendable) depth 60 fits 20000

pub script_send : IsSend script.the_row
script_send = search (memory.the_field_send, memory.the_send, memory.the_field_sync, memory.the_sync, global.the_field_send, global.the_send, global.the_field_sync, global.the_sync, vec.the_send, vec.the_sync, string.the_field_send, string.the_send, string.the_field_sync, string.the_sync, box.the_send, box.the_sync, crosses, names.the_send, filter_send, command_send, sendable) depth 60 fits 20000

pub script_sync : IsSync script.the_row
script_sync = search (memory.the_field_send, memory.the_send, memory.the_field_sync, memory.the_sync, global.the_field_send, global.the_send, global.the_field_sync, global.the_sync, vec.the_send, vec.the_sync, string.the_field_send, string.the_send, string.the_field_sync, string.the_sync, box.the_send, box.the_sync, crosses, names.the_sync, filter_sync, command_sync, sendable) depth 60 fits 20000

pub parcel_send : IsSend parcel.the_row
parcel_send = search (memory.the_field_send, memory.the_send, memory.the_field_sync, memory.the_sync, global.the_field_send, global.the_send, global.the_field_sync, global.the_sync, vec.the_send, vec.the_sync, string.the_field_send, string.the_send, string.the_field_sync, string.the_sync, box.the_send, box.the_sync, crosses, device_send, sendable) depth 60 fits 20000

pub job_send : IsSend job.the_row
job_send = search (memory.the_field_send, memory.the_send, memory.the_field_sync, memory.the_sync, global.the_field_send, global.the_send, global.the_field_sync, global.the_sync, vec.the_send, vec.the_sync, string.the_field_send, string.the_send, string.the_field_sync, string.the_sync, box.the_send, box.the_sync, crosses, parcel_send, sendable) depth 60 fits 20000

pub done_send : IsSend done.the_row
done_send = search (memory.the_field_send, memory.the_send, memory.the_field_sync, memory.the_sync, global.the_field_send, global.the_send, global.the_field_sync, global.the_sync, vec.the_send, vec.the_sync, string.the_field_send, string.the_send, string.the_field_sync, string.the_sync, box.the_send, box.the_sync, crosses, parcel_send, held.the_send, held.the_field_send, held.the_sync, held.the_field_sync, report.the_send, report.the_field_send, report.the_sync, report.the_field_sync, sendable) depth 60 fits 20000
