-- When a pull wants memory: something is new to the target, given up by it or taught to it, as the model devices show.
use Rattle.std.proofs.Common.{◌≡◌, Bool, true, false, not, ◌||◌, List, [], ◌∷◌, ◌++◌, refl, sym, ap, ◌∙◌, inl, inr, arith}
use Rattle.std.specs.Prelude.{filter}
use Rattle.std.specs.List.{list_any}
use Rattle.std.proofs.lemmas.Bool.{cases_Bool, and_parts, or_left, or_right, not-true, false≢true}
use Rattle.std.proofs.lemmas.List.Folds.{list_any-append}
use Rattle.item_knowledge.specs.Fragments.{knows}
use Rattle.item_knowledge.specs.Staged.{Knowing}
pub use Rattle.item_knowledge.proofs.StagedLemmas.{on_err}
use Rattle.photo_device.specs.declared.held.Held.{Held}
use Rattle.photo_model.specs.Device.{ModelDevice, holds, knows_entry}
use Rattle.photo_device.specs.Device.{Kept, Shows, unstaged}
use Rattle.photo_device.proofs.Shown.{held_shown}
use Rattle.photo_device.proofs.Staged.{shows_unstaged}
use Rattle.photo_pull.specs.Findings.{AreReady, IsDelta, IsNothing, IsSomething, HasToPull}
use Rattle.photo_model.specs.Pull.{is_stale, is_up_to_date, IsTaughtNothing}
use Rattle.photo_pull.specs.OnHeld.{is_new, has_above, is_heard, new_stored, new_waiting, is_over, is_dropped, is_stale_held}
use Rattle.photo_pull.specs.declared.delta.PullDelta.{PullDelta}
use Rattle.photo_pull.proofs.Members.{any_same, none_in}
use Rattle.photo_pull.proofs.Shown.{any_shown, new_shown, stale_shown, learns_shown}

module _ (t s : Kept) (ready : AreReady t s) where
  abbrev new_any : Bool
  new_any = list_any (is_new t.knowledge) (s.store ++ s.out)

  pub new_in_store : list_any (is_new t.knowledge) s.store ≡ true → IsSomething t s
  new_in_store some = record { ready = ready; some = or_left new_any _ (list_any-append (is_new t.knowledge) s.store s.out ∙ or_left _ _ some) }

  pub new_in_out : list_any (is_new t.knowledge) s.out ≡ true → IsSomething t s
  new_in_out some = record { ready = ready; some = or_left new_any _ (list_any-append (is_new t.knowledge) s.store s.out ∙ or_right _ _ some) }

  pub drops_stored : list_any (is_dropped t s) t.store ≡ true → IsSomething t s
  drops_stored some = record { ready = ready; some = or_right new_any _ (or_left _ _ some) }

  pub drops_waiting : list_any (is_over t s) t.out ≡ true → IsSomething t s
  drops_waiting some = record { ready = ready; some = or_right new_any _ (or_right (list_any (is_dropped t s) t.store) _ some) }

-- where no element passes a test, none is kept by it
none_kept : (f : Held → Bool) (hs : List Held) → list_any f hs ≡ false → filter f hs ≡ []
none_kept f [] none = refl
none_kept f (h ∷ hs) none = let rest = none_kept f hs in grind arith

-- a target that is up to date
module _ (t s : Kept) (ready : AreReady t s) (tm sm : ModelDevice) (shows_t : Shows t tm) (shows_s : Shows s sm) (is : is_up_to_date tm sm ≡ true) where
  none_new : list_any (is_new t.knowledge) (s.store ++ s.out) ≡ false
  none_new =
      sym (any_shown (λ e. not (knows_entry tm e)) (is_new t.knowledge) (s.store ++ s.out) (holds sm) (held_shown s sm shows_s) (new_shown t s ready tm sm shows_t shows_s)) ∙ not-true _ (and_parts _ _ is).0

  none_stale : list_any (is_stale_held t s) t.store ≡ false
  none_stale = sym (any_shown (is_stale tm sm) (is_stale_held t s) t.store tm.store shows_t.store (stale_shown t s ready tm sm shows_t shows_s)) ∙ not-true _ (and_parts _ _ is).1

  none_stored : new_stored t s ≡ []
  none_stored = none_kept (is_new t.knowledge) s.store (let both = list_any-append (is_new t.knowledge) s.store s.out in let none = none_new in grind arith)

  none_waiting : new_waiting t s ≡ []
  none_waiting = none_kept (is_new t.knowledge) s.out (let both = list_any-append (is_new t.knowledge) s.store s.out in let none = none_new in grind arith)

  none_over : (h : Held) → is_over t s h ≡ false
  none_over h = λ i. has_above (none_stored i) h || has_above (none_waiting i) h

  none_dropped : list_any (is_dropped t s) t.store ≡ false
  none_dropped = any_same (is_dropped t s) (is_stale_held t s) t.store (λ h _. ap (λ b. b || is_stale_held t s h) (none_over h)) ∙ none_stale

  none_given_up : list_any (is_over t s) t.out ≡ false
  none_given_up = none_in (is_over t s) t.out (λ h _. none_over h)

  finds_none : (list_any (is_new t.knowledge) (s.store ++ s.out) || (list_any (is_dropped t s) t.store || list_any (is_over t s) t.out)) ≡ false
  finds_none = λ i. none_new i || (none_dropped i || none_given_up i)

  hears_nothing : (h : PullDelta) → IsDelta t s h → IsTaughtNothing tm sm → (known taught : Knowing) → known.known ≡ t.knowledge → taught.known ≡ s.knowledge → IsNothing h known taught
  hears_nothing h delta nothing known taught known_is taught_is = record {
    heard = delta.heard ∙ ap (filter (is_heard t s)) none_stored;
    handed = delta.handed ∙ none_waiting;
    dropped_stored = delta.dropped_stored ∙ none_kept (is_dropped t s) t.store none_dropped;
    dropped_waiting = delta.dropped_waiting ∙ none_kept (is_over t s) t.out none_given_up;
    teaches_none = λ l p v above knows_it.
        ap (λ fs. knows fs p v) known_is ∙ shows_t.known p above v
        ∙ nothing (learns_shown t s ready tm sm shows_t shows_s ∙ sym delta.learned ∙ l) p v above (sym (shows_s.known p above v) ∙ sym (ap (λ fs. knows fs p v) taught_is) ∙ knows_it);
  }

-- where something is found the target isn't up to date
pub out_of_date : (t s : Kept) → IsSomething t s → (tm sm : ModelDevice) → Shows t tm → Shows s sm → is_up_to_date tm sm ≡ false
out_of_date t s something tm sm shows_t shows_s = elim (cases_Bool (is_up_to_date tm sm)) [
  | inl is ↦ absurd (false≢true (sym (finds_none t s something.ready tm sm shows_t shows_s is) ∙ something.some))
  | inr old ↦ old
]

-- then there is something to pull; and where what was found isn't nothing. What was staged on the target before is no part of it

module _ (t now s : Kept) (is : now ≡ unstaged t) where
  pub to_pull_something : IsSomething now s → HasToPull t s
  to_pull_something something = λ tm sm shows_t shows_s up _. false≢true (sym (out_of_date now s something tm sm (shows_unstaged t now tm is shows_t) shows_s) ∙ up)

  pub to_pull : (h : PullDelta) → IsDelta now s h → (known taught : Knowing) → known.known ≡ now.knowledge → taught.known ≡ s.knowledge → (IsNothing h known taught → ⊥) → HasToPull t s
  to_pull h delta known taught known_is taught_is some = λ tm sm shows_t shows_s up nothing.
      some (hears_nothing now s delta.ready tm sm (shows_unstaged t now tm is shows_t) shows_s up h delta nothing known taught known_is taught_is)
