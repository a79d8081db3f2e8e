use Rattle.std.proofs.Common.{rules}
use Rattle.std.proofs.lemmas.Fn.{filter_same}
use Rattle.photo_model.specs.Entry.{is_of_other}
use Rattle.test_list_device.specs.declared.list_entry.ListEntry.{ListEntry}
use Rattle.test_list_device.specs.Entries.{entry_of}
use Rattle.test_list_device.proofs.Calls.{kept_by}
use Rattle.test_list_device.proofs.lists.others.Goals as goal

pub returns : goal.returns
returns c =
    let picture = c.args.picture in
    kept_by (is_of_other picture) _ _ _
    (filter_same _ (λ (e : ListEntry). is_of_other picture (entry_of e)) _ (λ x b f k. search rules) _ _ c.retain.ensures.filtered)
    c.in_ok-kept.ensures
