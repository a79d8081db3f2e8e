use Rattle.std.proofs.Common.{◌∙◌, not}
use Rattle.photo_filter_rules.specs.Matching.{matches}
use Rattle.photo_model.specs.Entry.{Entry}
use Rattle.test_list_device.specs.Entries.{entries_of}
use Rattle.test_list_device.proofs.Sorting.{sorted_step}
use Rattle.test_list_device.proofs.lists.sort_in.Goals as goal

pub loop-entry-preserved : goal.loop-entry-preserved
loop-entry-preserved c = record {
  store = sorted_step (λ (e : Entry). matches c.args.wanted.now e.content) c.loop-entry.coming.items c.pop.new.self.items c.in-Some.entry (entries_of c.loop-entry.store.items) (entries_of c.put_in.new.store.items)
      c.in-Some.ensures.items c.in_ok-put_in.ensures.store ∙ c.loop-entry.invariant.store;
  out = sorted_step (λ (e : Entry). not (matches c.args.wanted.now e.content)) c.loop-entry.coming.items c.pop.new.self.items c.in-Some.entry (entries_of c.loop-entry.out.items) (entries_of c.put_in.new.out.items)
      c.in-Some.ensures.items c.in_ok-put_in.ensures.out ∙ c.loop-entry.invariant.out;
}
