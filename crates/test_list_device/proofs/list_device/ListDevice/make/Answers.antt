use Rattle.std.proofs.Common.{◌≡◌, ◌++◌, [], ◌∷◌, ◌∙◌, not, ap, rules}
use Rattle.photo_filter_rules.specs.Matching.{matches}
use Rattle.photo_model.specs.Entry.{others, put_entry_if}
use Rattle.photo_model.specs.Device.{next_version}
use Rattle.test_list_device.specs.declared.list_entry.ListEntry.{ListEntry}
use Rattle.test_list_device.specs.Sets.{listed}
use Rattle.test_list_device.specs.Entries.{entry_of, entries_of}
use Rattle.test_list_device.specs.Shown.{shown}
use Rattle.test_list_device.proofs.Calls.{makes, listed_one_more}
use Rattle.test_list_device.proofs.list_device.ListDevice.make.Goals as goal

pub returns-clause-shows : goal.returns-clause-shows
returns-clause-shows c =
    let d = c.args.self.now in
    let picture = c.args.picture in
    let version = c.unwrap-version.result in
    let entry : ListEntry = record { picture = picture; version = version; history = c.in_ok-known_of.field-0; content = c.in_ok-try_clone.field-0 } in
    let version_is : version ≡ next_version (shown d) = search rules in
    makes (shown d) picture c.args.content.now (entry_of entry) (entries_of c.put_in.new.store.items) (entries_of c.put_in.new.out.items) (listed c.push.new.self.items)
    (λ i. record { picture = picture; version = version_is i; history = c.in_ok-known_of.ensures i; content = c.in_ok-try_clone.ensures i })
    (c.in_ok-place.ensures.store ∙ ap (put_entry_if (matches d.filter entry.content) (entry_of entry)) (c.in_ok-store.ensures ∙ ap (λ es. others picture (entries_of es)) c.deref.ensures.value))
    (c.in_ok-place.ensures.out ∙ ap (put_entry_if (not (matches d.filter entry.content)) (entry_of entry)) (c.in_ok-out.ensures ∙ ap (λ es. others picture (entries_of es)) c.deref-2.ensures.value))
    (listed_one_more d.every.items c.push.new.self.items version (c.in_ok-push.ensures.items ∙ ap (λ vs. vs ++ version ∷ []) (c.in_ok-every.ensures.items ∙ c.deref-3.ensures.value)))
