use Rattle.std.proofs.Common.{◌≡◌, ◌-◌, Bool, not, refl, rules, length, arith}
use Rattle.std.specs.Prelude.{filter}
use Rattle.std.proofs.lemmas.Fn.{filter_same}
use Rattle.photo_model.specs.Entry.{Entry}
use Rattle.household_model.specs.Replica.{Replica, is_receipted}
use Rattle.test_list_device.specs.declared.list_entry.ListEntry.{ListEntry}
use Rattle.test_list_device.specs.Entries.{entry_of}
use Rattle.test_list_device.specs.Replicas.{replica_shown}
use Rattle.test_list_device.proofs.Calls.{kept_by, given_up}
use Rattle.test_list_device.proofs.list_replica.ListReplica.settle.Goals as goal

abbrev stays : Replica → Replica → Entry → Bool
stays r copy e = not (is_receipted r.device copy e)

pub returns-clause-shows : goal.returns-clause-shows
returns-clause-shows c =
    let r = replica_shown c.args.self.now in
    let copy = replica_shown c.args.copy.now in
    let waits = kept_by (stays r copy) c.args.self.now.device.out.items c.retain.new.self.items r.device.out
    (filter_same _ (λ (e : ListEntry). stays r copy (entry_of e)) _ (λ x b f k. search rules) _ _ c.retain.ensures.filtered) refl in
    λ i. record r { device = record r.device { out = waits i } }

pub returns-clause-count : goal.returns-clause-count
returns-clause-count c =
    let r = replica_shown c.args.self.now in
    let copy = replica_shown c.args.copy.now in
    let waits = kept_by (stays r copy) c.args.self.now.device.out.items c.retain.new.self.items r.device.out
    (filter_same _ (λ (e : ListEntry). stays r copy (entry_of e)) _ (λ x b f k. search rules) _ _ c.retain.ensures.filtered) refl in
    let settled = given_up (is_receipted r.device copy) c.args.self.now.device.out.items c.retain.new.self.items waits in
    let count : c.len-before.result - c.len.result ≡ length (filter (is_receipted r.device copy) r.device.out) = omega arith in
    count
