use Rattle.std.proofs.Common.{◌≡◌, ◌∙◌, ◌||◌, not, ap, rules}
use Rattle.std.specs.Prelude.{filter}
use Rattle.photo_version.specs.Author.{next_author}
use Rattle.photo_filter_rules.specs.Matching.{matches}
use Rattle.photo_model.specs.Entry.{Entry, put_entries}
use Rattle.photo_model.specs.Telling.{tell}
use Rattle.test_list_device.specs.Sets.{listed, listed_of}
use Rattle.test_list_device.specs.Entries.{entries_of}
use Rattle.test_list_device.specs.Shown.{shown}
use Rattle.test_list_device.proofs.Calls.{refilters, two_held}
use Rattle.test_list_device.proofs.list_device.ListDevice.refilter.Goals as goal

pub returns-clause-shows : goal.returns-clause-shows
returns-clause-shows c =
    let d = shown c.args.self.now in
    let held = c.append.new.self.items in
    let wanted = λ (e : Entry). matches c.args.wanted e.content in
    let author_is : c.unwrap.result ≡ next_author d.author = search rules in
    refilters c.args.wanted d c.unwrap.result (entries_of held) (entries_of c.sort_in.new.store.items) (entries_of c.sort_in.new.out.items) (listed c.new.result.items) (listed_of c.tell_all.new.pairs.items)
    author_is
    (two_held c.in_ok-held.held.items c.in_ok-waiting.waiting.items held d.store d.out (c.in_ok-held.ensures ∙ ap entries_of c.deref.ensures.value) (c.in_ok-waiting.ensures ∙ ap entries_of c.deref-2.ensures.value) c.in_ok-append.ensures.items)
    (c.in_ok-sort_in.ensures.store ∙ ap (λ es. put_entries (filter wanted (entries_of held)) (entries_of es)) c.new-store.ensures.items)
    (c.in_ok-sort_in.ensures.out ∙ ap (λ es. put_entries (filter (λ (e : Entry). not (wanted e)) (entries_of held)) (entries_of es)) c.new-out.ensures.items)
    (ap listed c.new.ensures.items)
    (λ p v. c.in_ok-tell_all.ensures p v ∙ (λ i. listed_of (c.new-of.ensures.items i) p v || tell (entries_of (c.deref-3.ensures.value i)) p v))
