use Rattle.std.proofs.Common.{◌≡◌, refl, sym, ap, ◌∙◌, arith}
use Rattle.std.specs.Prelude.{Some}
use Rattle.photo_device.specs.Held.{helds_without, versions_of}
use Rattle.photo_device.proofs.Counts.{count_of-append}
use Rattle.photo_device.proofs.Staged.{committing, both_fit, gone_of_store, gone_of_out, commits, known_after, shows_after}
use Rattle.photo_device.proofs.device.Device.commit.Goals as goal

pub give_up-requires : goal.give_up-requires
give_up-requires c = λ v. omega (arith, c.self.invariant.device.once v, count_of-append)

pub give_up-requires-2 : goal.give_up-requires-2
give_up-requires-2 c = λ v. omega (arith, c.self.invariant.device.once v, count_of-append)

pub cache_all-requires : goal.cache_all-requires
cache_all-requires c =
    let are = committing _ _ _ c.args.handed.items _ _ (sym c.take.ensures.value ∙ c.in-Some.is) c.self.view_is c.self.invariant c.requires.handed in
    let known = known_after _ _ _ _ are c.commit.new.self c.commit.ensures in
    rw (known, c.deref-3.ensures.value, c.into_vec-takes.ensures) are.prepared.ahead.known

pub cache_all-requires-2 : goal.cache_all-requires-2
cache_all-requires-2 c =
    let are = committing _ _ _ c.args.handed.items _ _ (sym c.take.ensures.value ∙ c.in-Some.is) c.self.view_is c.self.invariant c.requires.handed in
    let known = known_after _ _ _ _ are c.commit.new.self c.commit.ensures in
    rw (c.cache_all.ensures, known, c.deref-4.ensures.value) are.may.known

pub take_in-requires : goal.take_in-requires
take_in-requires c =
    let are = committing _ _ _ c.args.handed.items _ _ (sym c.take.ensures.value ∙ c.in-Some.is) c.self.view_is c.self.invariant c.requires.handed in
    let store = c.give_up.ensures ∙ ap (λ hs. helds_without (versions_of hs) c.self.inside.store) c.deref.ensures.value ∙ gone_of_store _ _ _ _ are in
    let out = c.give_up-2.ensures ∙ ap (λ hs. helds_without (versions_of hs) c.self.inside.out) c.deref-2.ensures.value ∙ gone_of_out _ _ _ _ are in
    let fit = both_fit _ _ _ _ are in
    rw (store, out, c.into_vec-takes.ensures) (record { store = fit.0; out = fit.1 })

pub invariant_of-self : goal.invariant_of-self
invariant_of-self c =
    let are = committing _ _ _ c.args.handed.items _ _ (sym c.take.ensures.value ∙ c.in-Some.is) c.self.view_is c.self.invariant c.requires.handed in
    let store = c.give_up.ensures ∙ ap (λ hs. helds_without (versions_of hs) c.self.inside.store) c.deref.ensures.value ∙ gone_of_store _ _ _ _ are in
    let out = c.give_up-2.ensures ∙ ap (λ hs. helds_without (versions_of hs) c.self.inside.out) c.deref-2.ensures.value ∙ gone_of_out _ _ _ _ are in
    rw (c.cache_all-2.ensures, c.cache_all.ensures, c.take.ensures.after, c.take_in.ensures.store, c.take_in.ensures.out, store, out, c.into_vec-takes.ensures) (commits _ _ _ _ are c.commit.new.self c.commit.ensures)

pub returns-clause-shows : goal.returns-clause-shows
returns-clause-shows c =
    let handed = c.args.handed.items in
    let p = c.in-Some.prepared in
    let is : c.self.inside.prepared ≡ Some p = sym c.take.ensures.value ∙ c.in-Some.is in
    let are = committing c.self.inside.prepared c.self.inside.knowledge.staged p handed _ c.args.self.now is c.self.view_is c.self.invariant c.requires.handed in
    let store = c.give_up.ensures ∙ ap (λ hs. helds_without (versions_of hs) c.self.inside.store) c.deref.ensures.value ∙ gone_of_store _ _ _ _ are in
    let out = c.give_up-2.ensures ∙ ap (λ hs. helds_without (versions_of hs) c.self.inside.out) c.deref-2.ensures.value ∙ gone_of_out _ _ _ _ are in
    let known = known_after _ _ _ _ are c.commit.new.self c.commit.ensures in
    shows_after _ _ _ _ are _ c.args.self.now _ is c.self.view_is refl
    (rw (c.take.ensures.after, c.cache_all-2.ensures, c.cache_all.ensures, known, c.take_in.ensures.store, c.take_in.ensures.out, store, out, c.into_vec-takes.ensures) refl)
