use Rattle.std.proofs.Common.{◌∙◌, ap, length, not, rules, tests}
use Rattle.std.specs.Prelude.{unwrap_or}
use Rattle.std.proofs.lemmas.Iterator.{YieldsList-from_slice}
use Rattle.std.proofs.lemmas.Iterator.Search.{position_from_yields_List}
use Rattle.photo_model.specs.Entry.{entry_before}
use Rattle.test_list_device.specs.declared.list_entry.ListEntry.{ListEntry}
use Rattle.test_list_device.specs.Entries.{entry_of}
use Rattle.test_list_device.proofs.Mapped.{placed}
use Rattle.test_list_device.proofs.lists.place_of.Goals as goal

pub returns-clause-place : goal.returns-clause-place
returns-clause-place c =
    let stands_before = λ (e : ListEntry). entry_before (entry_of e) (entry_of c.args.entry.now) in
    let found = position_from_yields_List (λ (e : ListEntry). not (stands_before e)) _ _ c.position.result c.position.ensures.ran (YieldsList-from_slice c.args.list.now cc) (λ x b q k. search (rules, tests)) in
    placed stands_before c.args.list.now c.unwrap_or.result (c.unwrap_or.ensures ∙ ap (λ o. unwrap_or o (length c.args.list.now)) found)
