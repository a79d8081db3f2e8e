use Rattle.std.proofs.Common.{◌++◌, arith}
use Rattle.photo_model.specs.Pull as model
use Rattle.test_list_device.specs.Shown.{shown}
use Rattle.test_list_device.proofs.Calls.{two_held, counted}
use Rattle.test_list_device.proofs.pulling.told.Goals as goal

pub returns : goal.returns
returns c =
    let t = shown c.args.target.now in
    let s = shown c.args.source.now in
    let taken = c.in_ok-entries.entries.items in
    let handed = c.in_ok-waiting.waiting.items in
    let noticed = c.in_ok-noticed.noticed.items in
    record {
      entries = two_held c.append.new.self.items noticed c.append-2.new.self.items (model.taken t s ++ model.handed t s) (model.noticed t s)
          (two_held taken handed c.append.new.self.items (model.taken t s) (model.handed t s) c.in_ok-entries.ensures c.in_ok-waiting.ensures c.in_ok-append.ensures.items)
          c.in_ok-noticed.ensures c.in_ok-append-2.ensures.items;
      taken = counted taken (model.taken t s) c.len-taken.result (omega arith) c.in_ok-entries.ensures;
      handed = counted handed (model.handed t s) c.len-handed.result (omega arith) c.in_ok-waiting.ensures;
      notices = counted noticed (model.noticed t s) c.len-notices.result (omega arith) c.in_ok-noticed.ensures;
    }
