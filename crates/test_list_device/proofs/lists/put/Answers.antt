use Rattle.std.proofs.Common.{◌∙◌, ap}
use Rattle.std.specs.List.{prefix_len}
use Rattle.photo_model.specs.Entry.{entry_before}
use Rattle.test_list_device.specs.declared.list_entry.ListEntry.{ListEntry}
use Rattle.test_list_device.specs.Entries.{entry_of}
use Rattle.test_list_device.proofs.Mapped.{put_at}
use Rattle.test_list_device.proofs.lists.put.Goals as goal

pub returns : goal.returns
returns c =
    put_at entry_of entry_before c.args.entry c.args.list.now.items c.insert.new.self.items c.place_of-place.result
    (c.place_of-place.ensures.place ∙ ap (prefix_len (λ (e : ListEntry). entry_before (entry_of e) (entry_of c.args.entry))) c.deref.ensures.value)
    c.in_ok-insert.ensures.items
