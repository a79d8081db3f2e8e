use Rattle.std.proofs.Common.{◌∙◌, ap, Bool, not, rules}
use Rattle.std.specs.Prelude.{List, filter}
use Rattle.std.proofs.lemmas.Fn.{filter_same}
use Rattle.photo_model.specs.Entry.{Entry, superseded_by}
use Rattle.photo_model.specs.Device.{ModelDevice}
use Rattle.test_list_device.specs.declared.list_entry.ListEntry.{ListEntry}
use Rattle.test_list_device.specs.Entries.{entry_of, entries_of}
use Rattle.test_list_device.specs.Shown.{shown}
use Rattle.test_list_device.proofs.Calls.{kept_by}
use Rattle.test_list_device.proofs.pulling.kept_waiting.Goals as goal

-- the test that decides by what was told
abbrev test : List Entry → ModelDevice → ModelDevice → Entry → Bool
test news t s e = not (superseded_by news e)

pub returns : goal.returns
returns c =
    let t = shown c.args.target.now in
    let s = shown c.args.source.now in
    let news = entries_of c.args.news.now in
    kept_by (test news t s) _ _ _
    (filter_same _ (λ (e : ListEntry). test news t s (entry_of e)) _ (λ x b f k. search rules) _ _ c.retain.ensures.filtered)
    (c.in_ok-list.ensures ∙ ap entries_of c.deref.ensures.value)
    ∙ ap (λ es. filter (test es t s) t.out) c.requires
