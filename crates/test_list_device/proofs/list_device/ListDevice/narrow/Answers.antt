use Rattle.std.proofs.Common.{◌∙◌, Bool, not, ap, rules}
use Rattle.std.specs.Prelude.{filter}
use Rattle.std.proofs.lemmas.Fn.{filter_same}
use Rattle.photo_filter_text.specs.Tree.{Tree}
use Rattle.photo_filter_rules.specs.Matching.{matches}
use Rattle.photo_model.specs.Entry.{Entry, put_entries}
use Rattle.test_list_device.specs.declared.list_entry.ListEntry.{ListEntry}
use Rattle.test_list_device.specs.Entries.{entry_of, entries_of}
use Rattle.test_list_device.specs.Shown.{shown}
use Rattle.test_list_device.proofs.Calls.{kept_by}
use Rattle.test_list_device.proofs.list_device.ListDevice.narrow.Goals as goal

abbrev stays : Tree → Entry → Bool
stays tree e = matches tree e.content

pub returns-clause-shows : goal.returns-clause-shows
returns-clause-shows c =
    let d = shown c.args.self.now in
    let stored = kept_by (stays c.args.wanted) _ _ _
    (filter_same _ (λ (e : ListEntry). stays c.args.wanted (entry_of e)) _ (λ x b f k. search rules) _ _ c.retain.ensures.filtered)
    (c.in_ok-store.ensures ∙ ap entries_of c.deref.ensures.value) in
    let leaving = c.in_ok-leaving.ensures ∙ ap entries_of c.deref-2.ensures.value in
    let old = c.in_ok-out.ensures ∙ ap entries_of c.deref-3.ensures.value in
    let waiting = c.in_ok-sort_in.ensures.out ∙ (λ i. put_entries (filter (λ (e : Entry). not (stays c.args.wanted e)) (leaving i)) (old i)) in
    λ i. record d { tree = c.args.wanted; store = stored i; out = waiting i }
