-- What a change of the target asks of what it gives up, takes and learns; it may be staged, and is committed with what the source handed over.
use Rattle.std.proofs.Common.{◌≡◌, ℕ, ◌+◌, ◌<◌, ◌≤◌, Bool, true, false, ◌&&◌, ◌||◌, List, [], ◌∷◌, ◌++◌, Option, Some, None, refl, sym, ap, ◌∙◌, inl, inr, length, arith, subst}
use Rattle.std.specs.Prelude.{filter, not, Option, IfSome, is_some}
use Rattle.std.specs.Option.{is_some}
use Rattle.std.specs.List.{AllByRecursion, list_any}
use Rattle.std.proofs.lemmas.Bool.{cases_Bool, or_left, or_right, not-true}
use Rattle.std.proofs.lemmas.Bool.Decides.{nat_tests}
use Rattle.std.proofs.Math.Bool.{or-true}
use Rattle.photo_version.specs.Version.{Version, same_version}
use Rattle.item_knowledge.specs.Fragments.{Fragment, knows}
use Rattle.photo_device.specs.declared.held.Held.{Held}
use Rattle.photo_device.specs.Held.{find_version, has_version_of, is_of, count_of, entries_of}
use Rattle.photo_model.specs.Device.{ModelDevice, changed}
use Rattle.photo_device.specs.Device.{Kept, unstaged, Staging, Shows}
use Rattle.photo_device.specs.Own.{HasEarlier, IsKnownBy}
use Rattle.photo_device.specs.Telling.{tells}
use Rattle.photo_device.specs.Staging.{HasStaged, MayHand, MayStage, versions_in}
use Rattle.photo_model.proofs.AllLemmas.{all_append, all_filter}
use Rattle.photo_device.proofs.Changed.{all_new}
use Rattle.photo_device.proofs.Counts.{count_of-append, count_of-filter, same_version_self, same_version_is}
use Rattle.photo_device.proofs.OwnLemmas.{no_more_of, known_later, all_of as all_weaker}
use Rattle.photo_device.proofs.TellingLemmas.{told_known, known_told}
use Rattle.photo_device.proofs.Staged.{shows_alike}
use Rattle.photo_pull.specs.OnHeld.{is_new, new_waiting, learns, is_dropped, is_over, is_selected, is_heard, new_stored, heard, taken_stored, drops}
use Rattle.photo_pull.specs.Findings.{AreReady, IsGained, IsDelta, HasStagedPull}
use Rattle.photo_pull.specs.declared.delta.PullDelta.{PullDelta}
use Rattle.photo_model.specs.Pull.{pulled}
use Rattle.photo_pull.proofs.Members.{In, in_left, in_right, in_filtered, in_any, all_of, none_in}
use Rattle.photo_pull.proofs.Told.{known_here, same_picture}
use Rattle.photo_pull.proofs.Shown.{takes, shows_pulled}

-- a version that none of a list is isn't found there
not_found : (v : Version) (xs : List Held) → list_any (λ h. same_version h.version v) xs ≡ false → find_version v xs ≡ None
not_found v [] none = refl
not_found v (x ∷ xs) none = grind (arith, nat_tests, not_found v xs)

-- what holds of all that the source holds, holds of what the target hears of
all_heard : (P : Held → Type 0) (t s : Kept) → AllByRecursion P s.store → AllByRecursion P (heard t s)
all_heard P t s all = all_filter P (is_heard t s) (new_stored t s) (all_filter P (is_new t.knowledge) s.store all)

of_filter : (q : Held → Bool) (xs : List Held) → AllByRecursion (λ h. has_version_of h.picture h.version xs ≡ true) (filter q xs)
of_filter q xs = all_of _ (filter q xs) (λ h here. in_any (λ (g : Held). is_of g h.picture h.version) h xs (in_filtered q h xs here).0 (grind (arith, nat_tests, same_version_self)))

module _ (t s : Kept) (ready : AreReady t s) where
  pub heard_earlier : AllByRecursion HasEarlier (heard t s)
  heard_earlier = all_heard HasEarlier t s ready.source.store

  pub waiting_earlier : AllByRecursion HasEarlier (new_waiting t s)
  waiting_earlier = all_filter HasEarlier (is_new t.knowledge) s.out ready.source.out

  -- what the source holds and the target doesn't know, the target doesn't hold
  all_fresh : (xs : List Held) → ((w : Held) → In w xs → In w (s.store ++ s.out)) → AllByRecursion (λ h. find_version h.version (t.store ++ t.out) ≡ None) (filter (is_new t.knowledge) xs)
  all_fresh xs held = all_of _ _ (λ w here.
      let from = in_filtered (is_new t.knowledge) w xs here in
      let unknown = not-true (knows t.knowledge w.picture w.version) from.1 in
      not_found w.version _ (none_in (λ g. same_version g.version w.version) (t.store ++ t.out) (λ g there. elim (cases_Bool (same_version g.version w.version)) [
        | inl same ↦
            let is = same_version_is g.version w.version same in
            let picture = same_picture t s ready g w there (held w from.0) (sym is) in
            let known = (known_here t ready.target g there).itself in
            absurd (cc)
        | inr other ↦ other
      ])))

  pub taken_new : AllByRecursion (λ h. find_version h.version (t.store ++ t.out) ≡ None) (taken_stored t s)
  taken_new = all_filter _ (is_selected t.tree) (heard t s) (all_filter _ (is_heard t s) (new_stored t s) (all_fresh s.store (λ w. in_left w s.store s.out)))

  -- no version is taken, handed over or held twice
  pub taken_once : (v : Version) → count_of v (taken_stored t s) + count_of v (new_waiting t s) + count_of v t.store + count_of v t.out ≤ 1
  taken_once v =
      let few : (v : Version) → count_of v (takes t s) ≤ 1 = λ v. omega (arith, ready.source.once v, count_of-append, count_of-filter) in
      let new = all_append _ (taken_stored t s) (new_waiting t s) taken_new (all_fresh s.out (λ w. in_right w s.store s.out)) in
      omega (arith, (all_new (takes t s) (unstaged t) new few ready.target).once v, count_of-append)

  pub told_is_known : (p : ℕ) (v : Version) → (tells (heard t s) p v || tells (new_waiting t s) p v) ≡ true → knows s.knowledge p v ≡ true
  told_is_known p v h =
      let stored = told_known s.knowledge (heard t s) p v (all_heard _ t s ready.source.store_known) in
      let waiting = told_known s.knowledge (new_waiting t s) p v (all_filter _ _ s.out ready.source.out_known) in
      grind arith

  known_by_gain : (gain : List Fragment) → IsGained t s gain → (hs : List Held) → AllByRecursion (IsKnownBy s.knowledge) hs → ((p : ℕ) (v : Version) → tells hs p v ≡ true → (tells (heard t s) p v || tells (new_waiting t s) p v) ≡ true) → AllByRecursion (IsKnownBy gain) hs
  known_by_gain gain gained hs known told = known_told gain hs (all_weaker _ _ (λ h is. is.above) hs known) (λ p v above h. gained p v above ∙ or_right (learns t s && knows s.knowledge p v) _ (told p v h))

  module _ (new : Kept) (has : HasStagedPull t s new) (handed : List Held) (handed_is : handed ≡ new_waiting t s) where
    -- what is handed over may be taken with the change that was staged
    pub may_hand : IfSome new.staged (λ st. MayHand handed st new)
    may_hand = rw (has.staged.staged, handed_is) (record {
      few = omega arith;
      once = λ v.
          let store : count_of v new.store ≡ count_of v t.store = ap (λ (k : Kept). count_of v k.store) has.staged.rest in
          let out : count_of v new.out ≡ count_of v t.out = ap (λ (k : Kept). count_of v k.out) has.staged.rest in
          omega (arith, taken_once v, count_of-append);
      earlier = waiting_earlier;
      known = known_later has.gain has.staged.knowledge (λ p v above here. has.staged.learned p v above ∙ ap (λ b. knows t.knowledge p v || b) here ∙ or-true (knows t.knowledge p v))
          _ (known_by_gain has.gain has.gained (new_waiting t s) (all_filter _ _ s.out ready.source.out_known) (λ p v h. or_right (tells (heard t s) p v) _ h));
    })

    pub shows_found : (after : Kept) → IfSome new.staged (λ st. (m : ModelDevice) → Shows new m → Shows after (changed st.drops (entries_of (st.takes ++ handed)) (knows st.knowledge) m))
        → (tm sm : ModelDevice) → Shows t tm → Shows s sm → Shows after (pulled tm sm)
    shows_found after clause tm sm shows_t shows_s =
        let done : (m : ModelDevice) → Shows new m → Shows after (changed (drops t s) (entries_of (taken_stored t s ++ handed)) (knows has.staged.knowledge) m) =
        subst (λ (o : Option Staging). IfSome o (λ st. (m : ModelDevice) → Shows new m → Shows after (changed st.drops (entries_of (st.takes ++ handed)) (knows st.knowledge) m))) has.staged.staged clause in
        let is = done tm (shows_alike t new tm has.staged.rest shows_t) in
        shows_pulled t s ready tm sm shows_t shows_s after (knows has.gain) has.gained (rw (← handed_is) (record {
          author = is.author;
          tree = is.tree;
          counter = is.counter;
          store = is.store;
          out = is.out;
          known = λ p above v. (let learned = has.staged.learned p v above in let was = shows_t.known p above v in is.known p above v ∙ grind arith);
        }))

-- what the code found
module _ (t s : Kept) (h : PullDelta) (delta : IsDelta t s h) where
  -- it tells, or learns all
  pub gained_found : (told : Option (List Fragment)) (gain : List Fragment) → is_some told ≡ not h.learned → IfSome told (λ fs. (p : ℕ) (v : Version) → 0 < p → knows fs p v ≡ (tells h.heard.items p v || tells h.handed.items p v))
      → IfSome told (λ fs. gain ≡ fs) → (told ≡ None → gain ≡ s.knowledge) → IsGained t s gain
  gained_found None gain learned tells_all is all = λ p v above.
      let told = told_is_known t s delta.ready p v in
      ap (λ fs. knows fs p v) (all refl) ∙ grind arith
  gained_found (Some fs) gain learned tells_all is all = λ p v above. ap (λ gs. knows gs p v) is ∙ tells_all p v above ∙ (λ i. tells (delta.heard i) p v || tells (delta.handed i) p v) ∙ grind arith

  module _ (ts : List Held) (of_takes : ts ≡ filter (is_selected t.tree) h.heard.items) (gain : List Fragment) (gained : IsGained t s gain) where
    taken : ts ≡ taken_stored t s
    taken = of_takes ∙ ap (filter (is_selected t.tree)) delta.heard

    pub may_stage : MayStage h.dropped.stored.items h.dropped.waiting.items ts gain t
    may_stage = rw (delta.dropped_stored, delta.dropped_waiting, taken) (record {
      stored = of_filter (is_dropped t s) t.store;
      waiting = of_filter (is_over t s) t.out;
      new = taken_new t s delta.ready;
      distinct = λ v. let once = taken_once t s delta.ready v in omega arith;
      earlier = all_filter HasEarlier (is_selected t.tree) (heard t s) (heard_earlier t s delta.ready);
      known = all_filter (IsKnownBy gain) (is_selected t.tree) (heard t s) (known_by_gain t s delta.ready gain gained (heard t s) (all_heard _ t s delta.ready.source.store_known) (λ p v h. or_left (tells (heard t s) p v) _ h));
      own = no_more_of t.author t.counter gain s.knowledge (λ p v above h. let is = gained p v above in let told = told_is_known t s delta.ready p v in grind arith) delta.ready.may.own;
    })

    pub staged_found : (new : Kept) → HasStaged (versions_in h.dropped) ts gain (length h.handed.items) t new → HasStagedPull t s new
    staged_found new staged = record { gain = gain; gained = gained; staged = rw (delta.dropped_stored, delta.dropped_waiting, taken, delta.handed) at staged }
