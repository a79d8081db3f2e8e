use Rattle.std.proofs.Common.{◌∙◌, sym, eqb, ◌&&◌, Bool, rules, tests}
use Rattle.std.proofs.lemmas.Iterator.{YieldsList-from_slice}
use Rattle.std.proofs.lemmas.Iterator.Search.{any_from_yields_List}
use Rattle.photo_version.specs.Version.{same_version}
use Rattle.photo_model.specs.Entry.{Entry}
use Rattle.test_list_device.specs.declared.list_entry.ListEntry.{ListEntry}
use Rattle.test_list_device.specs.declared.list_replica.ListReceipt.{ListReceipt}
use Rattle.test_list_device.specs.Entries.{entry_of}
use Rattle.test_list_device.proofs.Mapped.{list_any-map}
use Rattle.test_list_device.proofs.list_replica.has_entry.Goals as goal

abbrev is_entry : ListReceipt → Entry → Bool
is_entry r e = eqb e.picture r.picture && same_version e.version r.version

pub returns : goal.returns
returns c =
    any_from_yields_List (λ (e : ListEntry). is_entry c.args.receipt.now (entry_of e)) _ _ c.any.result c.any.ensures.ran (YieldsList-from_slice c.args.list.now cc) (λ x b q k. search (rules, tests))
    ∙ sym (list_any-map entry_of (is_entry c.args.receipt.now) c.args.list.now)
