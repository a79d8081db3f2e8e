use Rattle.std.proofs.Common.{◌++◌, ◌∙◌, List, eqb, ap}
use Rattle.std.specs.Prelude.{map, filter}
use Rattle.test_list_device.specs.declared.known.Known.{Known}
use Rattle.test_list_device.proofs.Calls.{known_in}
use Rattle.test_list_device.proofs.list_device.ListDevice.known_of.Goals as goal

pub returns : goal.returns
returns c =
    let device = c.args.self.now in
    known_in device.every.items c.in_ok-single.single.items c.extend_from_slice.new.self.items device.of.items c.args.picture
    (c.in_ok-single.ensures ∙ ap (λ (pairs : List Known). map (λ (k : Known). k.version) (filter (λ (k : Known). eqb k.picture c.args.picture) pairs)) c.deref-2.ensures.value)
    (c.in_ok-extend_from_slice.ensures.items ∙ (λ i. (c.in_ok-all.ensures.items ∙ c.deref.ensures.value) i ++ c.deref-3.ensures.value i))
