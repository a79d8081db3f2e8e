-- The events of a pull by two copies change a household's devices as a script's pull does.
use Rattle.std.proofs.Common.{◌≡◌, ℕ, zero, suc, ◌+◌, ◌<◌, Bool, false, if◌then◌else◌, List, [], ◌∷◌, ◌++◌, length, set, refl, sym, ap, ap₂, ◌∙◌, subst, arith}
use Rattle.std.specs.Prelude.{Some, slice_get}
use Rattle.std.proofs.lemmas.Bool.{ne_eqb}
use Rattle.std.proofs.lemmas.List.{map-set, set-set, length-append}
use Rattle.std.proofs.lemmas.Option.{slice_get_within}
use Rattle.photo_version.specs.Author.{device_of_author}
use Rattle.photo_model.specs.Device.{ModelDevice}
use Rattle.photo_model.specs.Pull.{pulled, handed_over}
use Rattle.household_model.specs.Replica.{Receipts, Replica, is_of, after_settling, after_taking, after_forgetting, is_obsolete, after_pulling}
use Rattle.household_model.specs.Household.{Household, Copy, Settle, Take, Forget, copying, settling, taking, forgetting, with_replica, after_event, after_events, pull_and_settle, household_after, devices_of}
use Rattle.household_model.specs.Laws.{HasNoneFrom, EventsDoScriptPull}
use Rattle.household_model.proofs.Replicas.{stands_at, IsRightHousehold}
use Rattle.household_model.proofs.HouseholdRuns.{all_right}
use Rattle.household_model.proofs.ScriptPulls.{copies_do_script_pull}

-- reading a list at a place that was replaced, at another place, and at a place where two lists join
got_same : {X : Type 0} (xs : List X) (k : ℕ) (y : X) → k < length xs → slice_get (set xs k y) k ≡ Some y
got_same [] k y within = absurd (omega arith)
got_same (x ∷ xs) zero y within = refl
got_same (x ∷ xs) (suc k) y within = got_same xs k y (omega arith)

got_other : {X : Type 0} (xs : List X) (j k : ℕ) (y : X) → (j ≡ k → ⊥) → slice_get (set xs k y) j ≡ slice_get xs j
got_other [] j k y other = refl
got_other (x ∷ xs) zero zero y other = absurd (other refl)
got_other (x ∷ xs) zero (suc k) y other = refl
got_other (x ∷ xs) (suc j) zero y other = refl
got_other (x ∷ xs) (suc j) (suc k) y other = got_other xs j k y (λ same. other (ap (λ (n : ℕ). suc n) same))

got_last : {X : Type 0} (xs : List X) (x : X) → slice_get (xs ++ x ∷ []) (length xs) ≡ Some x
got_last [] x = refl
got_last (y ∷ xs) x = got_last xs x

-- each event, where its replica and its copy are there
copies : (h : Household) (n : ℕ) (r : Replica) → slice_get h.replicas n ≡ Some r → after_event h (Copy n) ≡ record h { copies = h.copies ++ r ∷ [] }
copies h n r got = ap (copying h) got

settles : (h : Household) (n k : ℕ) (r copy : Replica) → slice_get h.replicas n ≡ Some r → slice_get h.copies k ≡ Some copy → is_of n copy ≡ false → after_event h (Settle n k) ≡ with_replica h n (after_settling r copy)
settles h n k r copy got had other = ap₂ (settling h n) got had ∙ ap (λ (b : Bool). if b then h else with_replica h n (after_settling r copy)) other

takes : (h : Household) (n k : ℕ) (r copy : Replica) → slice_get h.replicas n ≡ Some r → slice_get h.copies k ≡ Some copy → is_of n copy ≡ false → after_event h (Take n k) ≡ with_replica h n (after_taking r copy)
takes h n k r copy got had other = ap₂ (taking h n) got had ∙ ap (λ (b : Bool). if b then h else with_replica h n (after_taking r copy)) other

forgets : (h : Household) (n : ℕ) (forgotten : Receipts) (r : Replica) → slice_get h.replicas n ≡ Some r → after_event h (Forget n forgotten) ≡ with_replica h n (after_forgetting forgotten r)
forgets h n forgotten r got = ap (forgetting h n forgotten) got

module _ (h : Household) (n m : ℕ) (t s : Replica) (apart : n ≡ m → ⊥) (got_t : slice_get h.replicas n ≡ Some t) (got_s : slice_get h.replicas m ≡ Some s) (is_t : device_of_author t.device.author ≡ n) (is_s : device_of_author s.device.author ≡ m) where
  abbrev k : ℕ
  k = length h.copies

  -- the target after settling, after taking and after the pull
  abbrev settled : Replica
  settled = after_settling t s

  abbrev supplied : Replica
  supplied = after_taking settled s

  abbrev target : Replica
  target = after_pulling t s

  -- the household after each of the six events
  abbrev first : Household
  first = record h { copies = h.copies ++ s ∷ [] }

  abbrev second : Household
  second = with_replica first n settled

  abbrev third : Household
  third = with_replica second n supplied

  abbrev fourth : Household
  fourth = with_replica third n target

  abbrev fifth : Household
  fifth = record fourth { copies = (h.copies ++ s ∷ []) ++ target ∷ [] }

  abbrev sixth : Household
  sixth = with_replica fifth m (after_settling s target)

  within : (x : Replica) (rs : List Replica) → slice_get rs n ≡ Some x → n < length rs
  within x rs got = slice_get_within rs n x got

  got_settled : slice_get second.replicas n ≡ Some settled
  got_settled = got_same h.replicas n settled (within t h.replicas got_t)

  got_supplied : slice_get third.replicas n ≡ Some supplied
  got_supplied = got_same second.replicas n supplied (within settled second.replicas got_settled)

  got_target : slice_get fourth.replicas n ≡ Some target
  got_target = got_same third.replicas n target (within supplied third.replicas got_supplied)

  got_source : slice_get fourth.replicas m ≡ Some s
  got_source =
      let other : m ≡ n → ⊥ = λ same. apart (sym same) in
      got_other third.replicas m n target other ∙ got_other second.replicas m n supplied other ∙ got_other h.replicas m n settled other ∙ got_s

  not_source : is_of n s ≡ false
  not_source = ne_eqb (device_of_author s.device.author) n (λ same. absurd (apart (sym same ∙ is_s)))

  not_target : is_of m target ≡ false
  not_target = ne_eqb (device_of_author t.device.author) m (λ same. absurd (apart (sym is_t ∙ same)))

  got_last_copy : slice_get fifth.copies (k + 1) ≡ Some target
  got_last_copy = subst (λ (j : ℕ). slice_get fifth.copies j ≡ Some target) (length-append h.copies (s ∷ [])) (got_last first.copies target)

  pull_is : after_events h (pull_and_settle n m k s) ≡ sixth
  pull_is =
      ap (λ (x : Household). after_events x (Settle n k ∷ Take n k ∷ Forget n (is_obsolete s.device) ∷ Copy n ∷ Settle m (k + 1) ∷ [])) (copies h m s got_s)
      ∙ ap (λ (x : Household). after_events x (Take n k ∷ Forget n (is_obsolete s.device) ∷ Copy n ∷ Settle m (k + 1) ∷ [])) (settles first n k t s got_t (got_last h.copies s) not_source)
      ∙ ap (λ (x : Household). after_events x (Forget n (is_obsolete s.device) ∷ Copy n ∷ Settle m (k + 1) ∷ [])) (takes second n k settled s got_settled (got_last h.copies s) not_source)
      ∙ ap (λ (x : Household). after_events x (Copy n ∷ Settle m (k + 1) ∷ [])) (forgets third n (is_obsolete s.device) supplied got_supplied)
      ∙ ap (λ (x : Household). after_events x (Settle m (k + 1) ∷ [])) (copies fourth n target got_target)
      ∙ settles fifth m (k + 1) s target got_source got_last_copy not_target

  pub script_devices : HasNoneFrom s.device.author t → HasNoneFrom t.device.author s
      → devices_of (after_events h (pull_and_settle n m k s)).replicas ≡ set (set (devices_of h.replicas) n (pulled t.device s.device)) m (handed_over t.device s.device)
  script_devices from_source from_target =
      let P = copies_do_script_pull t s from_source from_target in
      let once : fourth.replicas ≡ set h.replicas n target = set-set second.replicas n supplied target ∙ set-set h.replicas n settled target in
      ap (λ (x : Household). devices_of x.replicas) pull_is
      ∙ map-set (λ (r : Replica). r.device) fourth.replicas m (after_settling s target)
      ∙ ap (λ (rs : List Replica). set (devices_of rs) m (after_settling s target).device) once
      ∙ ap (λ (ds : List ModelDevice). set ds m (after_settling s target).device) (map-set (λ (r : Replica). r.device) h.replicas n target)
      ∙ ap₂ (λ (x y : ModelDevice). set (set (devices_of h.replicas) n x) m y) P.target P.source

-- the device at each place has that number
number_is : (h : Household) → IsRightHousehold h → (n : ℕ) (r : Replica) → slice_get h.replicas n ≡ Some r → device_of_author r.device.author ≡ n
number_is h H n r got =
    let s = stands_at h.replicas n r got in
    subst (λ (d : ModelDevice). device_of_author d.author ≡ n) s.is_there (H.fleet.traced.author n s.within)

pub events_do_script_pull : EventsDoScriptPull
events_do_script_pull filters events fits n m t s apart got_t got_s =
    let h = household_after filters events in
    let H = all_right filters events fits in
    script_devices h n m t s apart got_t got_s (number_is h H n t got_t) (number_is h H m s got_s)
