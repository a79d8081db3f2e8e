use Rattle.std.proofs.Common.{◌∙◌, sym, rules, tests}
use Rattle.std.proofs.lemmas.Iterator.{YieldsList-from_slice}
use Rattle.std.proofs.lemmas.Iterator.Search.{any_from_yields_List}
use Rattle.photo_model.specs.Entry.{Entry, supersedes}
use Rattle.test_list_device.specs.declared.list_entry.ListEntry.{ListEntry}
use Rattle.test_list_device.specs.Entries.{entry_of}
use Rattle.test_list_device.proofs.Mapped.{list_any-map}
use Rattle.test_list_device.proofs.lists.is_superseded.Goals as goal

pub returns : goal.returns
returns c =
    any_from_yields_List (λ (e : ListEntry). supersedes (entry_of e) (entry_of c.args.entry.now)) _ _ c.any.result c.any.ensures.ran (YieldsList-from_slice c.args.list.now cc) (λ x b q k. search (rules, tests))
    ∙ sym (list_any-map entry_of (λ (e : Entry). supersedes e (entry_of c.args.entry.now)) c.args.list.now)
