use Rattle.std.proofs.Common.{◌≡◌, ◌+◌, ◌-◌, ◌++◌, length, not, sym, ap, ◌∙◌, length-append, arith}
use Rattle.std.specs.Prelude.{filter}
use Rattle.photo_model.specs.Entry.{Entry, put_entries}
use Rattle.photo_model.specs.Device.{selects}
use Rattle.photo_model.specs.Pull.{taken, handed, noticed, leaves_store, leaves_out}
use Rattle.test_list_device.specs.Sets.{listed, listed_of}
use Rattle.test_list_device.specs.Entries.{entries_of}
use Rattle.test_list_device.specs.Shown.{shown}
use Rattle.test_list_device.proofs.Calls.{pulls, in_all, in_front, given_up}
use Rattle.test_list_device.proofs.pulling.target_then.Goals as goal

pub overflow_sub-dropped : goal.overflow_sub-dropped
overflow_sub-dropped c =
    let t = shown c.args.target.now in
    let s = shown c.args.source.now in
    let stored = given_up (leaves_store t s) c.args.target.now.store.items c.in_ok-store.store.items c.in_ok-store.ensures in
    omega arith

pub overflow_sub-dropped-2 : goal.overflow_sub-dropped-2
overflow_sub-dropped-2 c =
    let t = shown c.args.target.now in
    let s = shown c.args.source.now in
    let waiting = given_up (leaves_out t s) c.args.target.now.out.items c.in_ok-out.out.items c.in_ok-out.ensures in
    omega arith

pub overflow_add-news : goal.overflow_add-news
overflow_add-news c =
    let t = shown c.args.target.now in
    let s = shown c.args.source.now in
    let within = in_all (taken t s) (handed t s) (noticed t s) c.args.news.entries.items c.args.news.taken c.args.news.handed c.requires.entries c.requires.taken c.requires.handed in
    omega arith

pub returns-clause-device : goal.returns-clause-device
returns-clause-device c =
    let t = shown c.args.target.now in
    let s = shown c.args.source.now in
    let new = entries_of c.truncate.new.self.items in
    let count_is : c.args.news.taken + c.args.news.handed ≡ length (taken t s ++ handed t s) = (λ i. c.requires.taken i + c.requires.handed i) ∙ sym (length-append (taken t s) (handed t s)) in
    pulls t s c.in_ok-try_clone.field-0 new (entries_of c.sort_in.new.store.items) (entries_of c.sort_in.new.out.items) (listed c.in_ok-every.every.items) (listed_of c.in_ok-every.of.items)
    c.in_ok-try_clone.ensures
    (ap entries_of c.truncate.ensures.items ∙ in_front c.args.news.entries.items (taken t s ++ handed t s) (noticed t s) (c.args.news.taken + c.args.news.handed) c.requires.entries count_is)
    (c.in_ok-sort_in.ensures.store ∙ ap (put_entries (filter (selects t) new)) c.in_ok-store.ensures)
    (c.in_ok-sort_in.ensures.out ∙ ap (put_entries (filter (λ (e : Entry). not (selects t e)) new)) c.in_ok-out.ensures)
    c.in_ok-every.ensures.every
    c.in_ok-every.ensures.of

pub returns-clause-counts : goal.returns-clause-counts
returns-clause-counts c =
    let t = shown c.args.target.now in
    let s = shown c.args.source.now in
    let stored = given_up (leaves_store t s) c.args.target.now.store.items c.in_ok-store.store.items c.in_ok-store.ensures in
    let waiting = given_up (leaves_out t s) c.args.target.now.out.items c.in_ok-out.out.items c.in_ok-out.ensures in
    let dropped : (c.len.result - c.len-2.result) + (c.len-3.result - c.len-4.result) ≡ length (filter (leaves_store t s) t.store) + length (filter (leaves_out t s) t.out) = omega arith in
    λ i. record {
      taken = c.requires.taken i;
      handed = c.requires.handed i;
      notices = c.requires.notices i;
      dropped = dropped i;
      learned = c.covers.ensures i;
    }
