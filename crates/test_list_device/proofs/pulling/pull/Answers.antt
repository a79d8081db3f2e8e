use Rattle.std.proofs.Common.{refl, rules}
use Rattle.std.proofs.lemmas.Fn.{filter_same}
use Rattle.photo_model.specs.Device.{knows_entry}
use Rattle.test_list_device.specs.declared.list_entry.ListEntry.{ListEntry}
use Rattle.test_list_device.specs.Entries.{entry_of}
use Rattle.test_list_device.specs.Shown.{shown}
use Rattle.test_list_device.proofs.Calls.{kept_by}
use Rattle.test_list_device.proofs.pulling.pull.Goals as goal

pub returns-clause-source : goal.returns-clause-source
returns-clause-source c =
    let t = shown c.args.target.now in
    let s = shown c.args.source.now in
    let waits = kept_by (knows_entry t) c.args.source.now.out.items c.retain.new.self.items s.out
    (filter_same _ (λ (e : ListEntry). knows_entry t (entry_of e)) _ (λ x b f k. search rules) _ _ c.retain.ensures.filtered) refl in
    λ i. record s { out = waits i }
