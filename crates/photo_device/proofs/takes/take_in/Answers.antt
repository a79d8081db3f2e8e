use Rattle.photo_device.proofs.Taken.{first_fits, then_fits}
use Rattle.photo_device.proofs.takes.take_in.Goals as goal

pub put_all-requires : goal.put_all-requires
put_all-requires c = record {
  store = first_fits _ _ _ _ _ c.requires.store c.open-stored.ensures.ordered c.open-stored.ensures.items c.open-stored.ensures.more;
  out = first_fits _ _ _ _ _ c.requires.out c.open-waiting.ensures.ordered c.open-waiting.ensures.items c.open-waiting.ensures.more;
}

pub put_all-requires-2 : goal.put_all-requires-2
put_all-requires-2 c = record {
  store = then_fits _ _ _ _ _ _ _ c.requires.store c.open-stored.ensures.items c.open-stored.ensures.more c.put_all.ensures.store;
  out = then_fits _ _ _ _ _ _ _ c.requires.out c.open-waiting.ensures.items c.open-waiting.ensures.more c.put_all.ensures.out;
}
