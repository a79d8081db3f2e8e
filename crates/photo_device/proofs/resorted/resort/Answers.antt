use Rattle.photo_device.proofs.ResortLemmas.{new_to_none}
use Rattle.photo_device.proofs.resorted.resort.Goals as goal

pub sort_in-requires : goal.sort_in-requires
sort_in-requires c =
    rw (c.into_vec.ensures, c.in_ok-stored.ensures.value, c.into_vec-2.ensures, c.in_ok-waiting.ensures.value) (record {
      store_new = new_to_none c.args.store.now c.args.out.now _ c.new.ensures c.requires.once;
      out_new = new_to_none c.args.store.now c.args.out.now _ c.new-2.ensures c.requires.once;
    })

pub returns : goal.returns
returns c =
    let told = rw (c.as_slice.ensures, c.in_ok-stored.ensures.value, c.as_slice-2.ensures, c.in_ok-waiting.ensures.value) at c.in_ok-told.ensures in
    let sorted = rw (c.into_vec.ensures, c.in_ok-stored.ensures.value, c.into_vec-2.ensures, c.in_ok-waiting.ensures.value, c.new.ensures, c.new-2.ensures) at c.in_ok-sort_in.ensures in
    record { store = sorted.store; out = sorted.out; pairs = told.pairs; star = told.star; staged = told.staged }
