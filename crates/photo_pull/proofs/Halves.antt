-- A pull that is staged on its target: what was staged before is no part of it, and a commit makes it.
use Rattle.std.proofs.Common.{◌≡◌, List, [], ◌++◌, Option, Some, None, Vec, subst, refl, sym, ap, ◌∙◌}
use Rattle.std.specs.Prelude.{IfSome}
use Rattle.std.specs.Option.{is_some}
use Rattle.std.specs.declared.alloc.Global.{Global}
use Rattle.item_knowledge.specs.Fragments.{knows}
use Rattle.photo_device.specs.declared.held.Held.{Held}
use Rattle.photo_device.specs.Held.{entries_of, versions_of}
use Rattle.photo_model.specs.Device.{ModelDevice, changed, without_waiting}
use Rattle.photo_model.specs.Pull.{handed, pulled, handed_over}
use Rattle.photo_device.specs.Device.{Kept, Shows, unstaged}
use Rattle.photo_device.proofs.Staged.{shows_unstaged, shows_alike}
use Rattle.photo_pull.specs.OnHeld.{new_waiting}
use Rattle.photo_pull.specs.Findings.{AreReady, HasStagedPull}
use Rattle.photo_pull.specs.StagedPulls.{handed_in, HasChange, IsStagedPull}
use Rattle.photo_pull.specs.declared.staging.StagedPull.{StagedPull}
use Rattle.photo_pull.proofs.Shown.{handed_shown, shows_handed, nothing_handed}
use Rattle.photo_pull.proofs.Asked.{may_hand, shows_found}

-- What holds of a target with nothing staged holds of the target.

ready_staged : (t s : Kept) → AreReady (unstaged t) s → AreReady t s
ready_staged t s ready = record {
  target = ready.target;
  source = ready.source;
  may = record { differ = ready.may.differ; one = ready.may.one; own = ready.may.own };
}

change_staged : (t s : Kept) (handed : Option (Vec Held Global)) (new : Kept) → HasChange (unstaged t) s handed new → HasChange t s handed new
change_staged t s None new change = λ tm sm shows_t shows_s. shows_alike (unstaged t) t (pulled tm sm) refl (change tm sm (shows_unstaged t (unstaged t) tm refl shows_t) shows_s)
change_staged t s (Some handed) new change = record {
  gain = change.gain;
  gained = change.gained;
  staged = record { rest = change.staged.rest; knowledge = change.staged.knowledge; staged = change.staged.staged; learned = change.staged.learned };
}

pub pull_staged : (t now s : Kept) (found : StagedPull) (new : Kept) → now ≡ unstaged t → IsStagedPull now s found new → IsStagedPull t s found new
pull_staged t now s found new is staged =
    let has : IsStagedPull (unstaged t) s found new = subst (λ d. IsStagedPull d s found new) is staged in
    record {
      ready = ready_staged t s has.ready;
      rest = has.rest;
      may = has.may;
      handed = has.handed;
      change = change_staged t s found.handed new has.change;
    }

-- what the source hands over, as the models of the devices have it
pub handed_entries : (t now s : Kept) (hs : List Held) → now ≡ unstaged t → AreReady now s → hs ≡ new_waiting now s → (tm sm : ModelDevice) → Shows t tm → Shows s sm → entries_of hs ≡ handed tm sm
handed_entries t now s hs is ready handed_is tm sm shows_t shows_s =
    ap entries_of handed_is ∙ sym (handed_shown now s ready tm sm (shows_unstaged t now tm is shows_t) shows_s)

-- what is staged where the pull changes nothing, and where it changes something

pub nothing_staged : (t s : Kept) (found : StagedPull) → AreReady t s → found.handed ≡ None → new_waiting t s ≡ [] → ((tm sm : ModelDevice) → Shows t tm → Shows s sm → Shows t (pulled tm sm)) → IsStagedPull t s found t
nothing_staged t s found ready none no_handed pulled_already = record {
  ready = ready;
  rest = refl;
  may = rw none tt;
  handed = ap handed_in none ∙ sym no_handed;
  change = rw none pulled_already;
}

pub change_is_staged : (t s : Kept) (found : StagedPull) (handed : Vec Held Global) (new : Kept) → AreReady t s → found.handed ≡ Some handed → handed.items ≡ new_waiting t s → HasStagedPull t s new → IsStagedPull t s found new
change_is_staged t s found handed new ready is handed_is has = record {
  ready = ready;
  rest = has.staged.rest;
  may = rw is (ap is_some has.staged.staged, may_hand t s ready new has handed.items handed_is);
  handed = ap handed_in is ∙ handed_is;
  change = rw is has;
}

-- a commit makes the pull, and the source gives up what it hands over

pub committed : (t s : Kept) (found : StagedPull) (handed : Vec Held Global) (hs : List Held) (new after : Kept) → found.handed ≡ Some handed → hs ≡ handed.items → IsStagedPull t s found new
    → IfSome new.staged (λ st. (m : ModelDevice) → Shows new m → Shows after (changed st.drops (entries_of (st.takes ++ hs)) (knows st.knowledge) m))
    → (tm sm : ModelDevice) → Shows t tm → Shows s sm → Shows after (pulled tm sm)
committed t s found handed hs new after is all staged shows =
    shows_found t s staged.ready new (rw is at staged.change) hs (all ∙ ap handed_in (sym is) ∙ staged.handed) after shows

pub given_up : (t s : Kept) (found : StagedPull) (handed : Vec Held Global) (hs : List Held) (new after : Kept) → found.handed ≡ Some handed → hs ≡ handed.items → IsStagedPull t s found new
    → ((m : ModelDevice) → Shows s m → Shows after (without_waiting (versions_of hs) m)) → (tm sm : ModelDevice) → Shows t tm → Shows s sm → Shows after (handed_over tm sm)
given_up t s found handed hs new after is all staged shows tm sm shows_t shows_s =
    shows_handed t s staged.ready tm sm shows_t shows_s after
    (subst (λ helds. Shows after (without_waiting (versions_of helds) sm)) (all ∙ ap handed_in (sym is) ∙ staged.handed) (shows sm shows_s))

pub given_up_nothing : (t s : Kept) (found : StagedPull) (new : Kept) → found.handed ≡ None → IsStagedPull t s found new → (tm sm : ModelDevice) → Shows t tm → Shows s sm → Shows s (handed_over tm sm)
given_up_nothing t s found new none staged tm sm shows_t shows_s = nothing_handed t s staged.ready tm sm shows_t shows_s (sym staged.handed ∙ ap handed_in none)
