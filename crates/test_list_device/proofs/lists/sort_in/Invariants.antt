use Rattle.std.proofs.Common.{◌≡◌, not, vec_len}
use Rattle.std.specs.Prelude.{filter}
use Rattle.photo_filter_rules.specs.Matching.{matches}
use Rattle.photo_model.specs.Entry.{Entry, put_entries}
use Rattle.test_list_device.specs.Entries.{entries_of}
use Rattle.test_list_device.proofs.lists.sort_in.Given as goal

-- putting the rest into the two lists now gives what putting everything into the first lists gives
abbrev pub invariant-loop-entry : goal.invariant-loop-entry
invariant-loop-entry l = record {
  store : put_entries (filter (λ (e : Entry). matches l.wanted e.content) (entries_of l.coming.items)) (entries_of l.store.items)
      ≡ put_entries (filter (λ (e : Entry). matches l.wanted e.content) (entries_of l.fn.coming.items)) (entries_of l.initial.store.items);
  out : put_entries (filter (λ (e : Entry). not (matches l.wanted e.content)) (entries_of l.coming.items)) (entries_of l.out.items)
      ≡ put_entries (filter (λ (e : Entry). not (matches l.wanted e.content)) (entries_of l.fn.coming.items)) (entries_of l.initial.out.items);
}

abbrev pub decreases-loop-entry : goal.decreases-loop-entry
decreases-loop-entry l = vec_len l.coming
