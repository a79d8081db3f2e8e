use Rattle.std.proofs.Common.{◌∙◌, ap, Bool, not, ◌&&◌, rules}
use Rattle.std.proofs.lemmas.Fn.{filter_same}
use Rattle.photo_model.specs.Entry.{Entry}
use Rattle.photo_model.specs.Device.{ModelDevice, knows_entry, selects}
use Rattle.test_list_device.specs.declared.list_entry.ListEntry.{ListEntry}
use Rattle.test_list_device.specs.Entries.{entry_of, entries_of}
use Rattle.test_list_device.specs.Shown.{shown}
use Rattle.test_list_device.proofs.Calls.{kept_by}
use Rattle.test_list_device.proofs.pulling.taken.Goals as goal

abbrev test : ModelDevice → ModelDevice → Entry → Bool
test t s e = not (knows_entry t e) && selects t e

pub returns : goal.returns
returns c =
    let t = shown c.args.target.now in
    let s = shown c.args.source.now in
    kept_by (test t s) _ _ _
    (filter_same _ (λ (e : ListEntry). test t s (entry_of e)) _ (λ x b f k. search rules) _ _ c.retain.ensures.filtered)
    (c.in_ok-list.ensures ∙ ap entries_of c.deref.ensures.value)
