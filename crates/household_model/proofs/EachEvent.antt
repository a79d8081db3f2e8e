-- Each event leaves all right with a household if all was right before it.
use Rattle.std.proofs.Common.{◌≡◌, ℕ, Bool, true, false, not, if◌then◌else◌, List, [], ◌∷◌, ◌++◌, inl, inr, set, refl, sym, ap, ◌∙◌, subst}
use Rattle.std.specs.Prelude.{Option, Some, None, IfSome, slice_get}
use Rattle.std.proofs.lemmas.Bool.{or_cases, and_parts}
use Rattle.std.proofs.lemmas.List.{set-get_or}
use Rattle.photo_record.specs.declared.record.Record.{Record}
use Rattle.photo_filter_text.specs.Tree.{Tree, All}
use Rattle.photo_filter_rules.specs.Covers.{covers}
use Rattle.photo_filter_rules.specs.Matching.{IsInRange}
use Rattle.photo_version.specs.Author.{author}
use Rattle.photo_model.specs.Entry.{Entry}
use Rattle.photo_model.specs.Device.{ModelDevice, opening, new_entry, made, narrowed}
use Rattle.photo_model.specs.Pull.{handed, pulled}
use Rattle.photo_model.specs.Refiltered.{begun}
use Rattle.fleet_model.specs.Runs.{device_at}
use Rattle.fleet_model.specs.Members.{In}
use Rattle.fleet_model.proofs.Members.{in_one, in_either}
use Rattle.household_model.specs.Replica.{Receipt, Receipts, Replica, is_of, may_begin, is_receipted, after_settling, receipts_for, after_taking, after_forgetting}
use Rattle.household_model.specs.Household.{Household, Event, Make, Narrow, Begin, Copy, Settle, Take, Forget, making, narrowing, beginning, copying, settling, taking, forgetting, with_replica, with_device, after_event, record_of, devices_of}
use Rattle.household_model.proofs.Facts.{IsRightCopy}
use Rattle.household_model.proofs.RightSteps.{making_right, right_now, carried}
use Rattle.household_model.proofs.Steps.{thinned}
use Rattle.household_model.proofs.RightChanges.{narrowing_right, beginning_right, settling_right, taking_right}
use Rattle.household_model.proofs.Replicas.{in_mapped, mapped_in, got_in, StandsAt, stands_at, IsNamed, named_before, IsRightIn, IsRightHousehold, placed_right, replaced_right}

by_either : (b : Bool) (x y : Household) → (b ≡ true → IsRightHousehold x) → (b ≡ false → IsRightHousehold y) → IsRightHousehold (if b then x else y)
by_either true x y first second = first refl
by_either false x y first second = second refl

module _ (h : Household) (H : IsRightHousehold h) where
  abbrev devices : List ModelDevice
  devices = devices_of h.replicas

  abbrev Copied : ModelDevice → Type 0
  Copied c = In c (devices_of h.copies)

  abbrev Named : Receipt → Type 0
  Named q = IsNamed h.replicas h.copies q

  -- the n-th replica is r. What is right with a change of the n-th device is right with that change of r's device
  module _ (n : ℕ) (r : Replica) (got : slice_get h.replicas n ≡ Some r) where
    s : StandsAt h.replicas n r
    s = stands_at h.replicas n r got

    changed_right : (log : List Entry) (change : ModelDevice → ModelDevice) → IsRightIn log (set devices n (change (device_at devices n))) h.copies Named
        → IsRightIn log (devices_of (set h.replicas n (record r { device = change r.device }))) h.copies (IsNamed (set h.replicas n (record r { device = change r.device })) h.copies)
    changed_right log change right =
        replaced_right log h.replicas h.copies n (record r { device = change r.device }) r s.among (λ q had. had)
        (subst (λ (d : ModelDevice). IsRightIn log (set devices n (change d)) h.copies Named) s.is_there right)

    make_keeps : (picture : ℕ) (content : Record) → IsInRange content → IsRightHousehold (making h n picture content (Some r))
    make_keeps picture content fits =
        subst (λ (d : ModelDevice). IsRightIn (h.log ++ new_entry d picture content ∷ []) (devices_of (with_device h n r (made r.device picture content)).replicas) h.copies (IsNamed (with_device h n r (made r.device picture content)).replicas h.copies)) s.is_there
        (changed_right (h.log ++ new_entry (device_at devices n) picture content ∷ []) (λ d. made d picture content)
        (making_right h.log devices Copied Named H n picture content s.within fits))

    narrow_keeps : (tree : Tree) → IsRightHousehold (narrowing h n tree (Some r))
    narrow_keeps tree =
        by_either (covers r.device.tree tree) (with_device h n r (narrowed tree r.device)) h
        (λ covered. changed_right h.log (narrowed tree)
        (narrowing_right h.log devices Copied Named H n s.within tree (subst (λ (d : ModelDevice). covers d.tree tree ≡ true) (sym s.is_there) covered)))
        (λ _. H)

    begin_keeps : (epoch : ℕ) (tree : Tree) → IsRightHousehold (beginning h n epoch tree (Some r))
    begin_keeps epoch tree =
        by_either (may_begin epoch r.device) (with_device h n r (begun epoch tree r.device)) h
        (λ may. changed_right h.log (begun epoch tree)
        (beginning_right h.log devices Copied Named H n s.within epoch tree (subst (λ (d : ModelDevice). may_begin epoch d ≡ true) (sym s.is_there) may)))
        (λ _. H)

    -- a copy of a live replica is right, and brings no receipt that isn't there
    copy_keeps : IsRightHousehold (copying h (Some r))
    copy_keeps =
        carried h.log devices Copied Named H
        (λ c. In c (devices_of (h.copies ++ r ∷ []))) (IsNamed h.replicas (h.copies ++ r ∷ []))
        (λ c is.
        let m = in_mapped (λ (x : Replica). x.device) (h.copies ++ r ∷ []) is in
        elim (in_either h.copies m.1) [
          | inl old ↦ H.copies c (subst Copied (sym m.2) (mapped_in (λ (x : Replica). x.device) old))
          | inr new ↦ subst (IsRightCopy h.log devices) (s.is_there ∙ sym (m.2 ∙ ap (λ (x : Replica). x.device) (in_one new))) (right_now h.log devices Copied Named H n s.within)
        ])
        (λ q named. record {
          holder = named.holder;
          among = elim named.among [
            | inl live ↦ inl live
            | inr copy ↦ elim (in_either h.copies copy) [ inl old ↦ inr old | inr new ↦ inl (subst (λ (x : Replica). In x h.replicas) (sym (in_one new)) s.among) ]
          ];
          kept = named.kept;
        })

    forget_keeps : (forgotten : Receipts) → IsRightHousehold (forgetting h n forgotten (Some r))
    forget_keeps forgotten =
        replaced_right h.log h.replicas h.copies n (after_forgetting forgotten r) r s.among (λ q had. (and_parts (r.receipts q) (not (forgotten q)) had).0)
        (subst (λ (d : ModelDevice). IsRightIn h.log (set devices n d) h.copies Named) s.is_there
        (subst (λ (ds : List ModelDevice). IsRightIn h.log ds h.copies Named) (sym (set-get_or devices n (opening (author n) All))) H))

    settle_keeps : (copy : Replica) → In copy h.copies → IsRightHousehold (settling h n (Some r) (Some copy))
    settle_keeps copy among =
        by_either (is_of n copy) h (with_replica h n (after_settling r copy)) (λ _. H)
        (λ _. changed_right h.log (λ d. thinned (λ e. not (is_receipted d copy e)) d)
        (settling_right h.log devices Copied Named H n s.within (is_receipted (device_at devices n) copy)
        (λ e receipted. record { holder = copy; among = inr among; kept = receipted })))

    take_keeps : (copy : Replica) → In copy h.copies → IsRightHousehold (taking h n (Some r) (Some copy))
    take_keeps copy among =
        let x = after_taking r copy in
        by_either (is_of n copy) h (with_replica h n x) (λ _. H)
        (λ _. placed_right h.log h.replicas h.copies n x
        (subst (λ (d : ModelDevice). IsRightIn h.log (set devices n (pulled d copy.device)) h.copies (IsNamed (set h.replicas n x) h.copies)) s.is_there
        (taking_right h.log devices Copied Named H n s.within copy.device (mapped_in (λ (y : Replica). y.device) among) (IsNamed (set h.replicas n x) h.copies)
        (named_before (λ q. receipts_for copy.device.author (handed (device_at devices n) copy.device) q ≡ true) h.replicas h.copies n r x s.among
        (λ q had. elim (or_cases (r.receipts q) (receipts_for copy.device.author (handed r.device copy.device) q) had) [
          | inl old ↦ inl old
          | inr new ↦ inr (subst (λ (d : ModelDevice). receipts_for copy.device.author (handed d copy.device) q ≡ true) (sym s.is_there) new)
        ])))))

  making_keeps : (n picture : ℕ) (content : Record) (o : Option Replica) → slice_get h.replicas n ≡ o → IsInRange content → IsRightHousehold (making h n picture content o)
  making_keeps n picture content None got fits = H
  making_keeps n picture content (Some r) got fits = make_keeps n r got picture content fits

  narrowing_keeps : (n : ℕ) (tree : Tree) (o : Option Replica) → slice_get h.replicas n ≡ o → IsRightHousehold (narrowing h n tree o)
  narrowing_keeps n tree None got = H
  narrowing_keeps n tree (Some r) got = narrow_keeps n r got tree

  beginning_keeps : (n epoch : ℕ) (tree : Tree) (o : Option Replica) → slice_get h.replicas n ≡ o → IsRightHousehold (beginning h n epoch tree o)
  beginning_keeps n epoch tree None got = H
  beginning_keeps n epoch tree (Some r) got = begin_keeps n r got epoch tree

  copying_keeps : (n : ℕ) (o : Option Replica) → slice_get h.replicas n ≡ o → IsRightHousehold (copying h o)
  copying_keeps n None got = H
  copying_keeps n (Some r) got = copy_keeps n r got

  settling_keeps : (n k : ℕ) (o p : Option Replica) → slice_get h.replicas n ≡ o → slice_get h.copies k ≡ p → IsRightHousehold (settling h n o p)
  settling_keeps n k None p got had = H
  settling_keeps n k (Some r) None got had = H
  settling_keeps n k (Some r) (Some copy) got had = settle_keeps n r got copy (got_in h.copies k copy had)

  taking_keeps : (n k : ℕ) (o p : Option Replica) → slice_get h.replicas n ≡ o → slice_get h.copies k ≡ p → IsRightHousehold (taking h n o p)
  taking_keeps n k None p got had = H
  taking_keeps n k (Some r) None got had = H
  taking_keeps n k (Some r) (Some copy) got had = take_keeps n r got copy (got_in h.copies k copy had)

  forgetting_keeps : (n : ℕ) (forgotten : Receipts) (o : Option Replica) → slice_get h.replicas n ≡ o → IsRightHousehold (forgetting h n forgotten o)
  forgetting_keeps n forgotten None got = H
  forgetting_keeps n forgotten (Some r) got = forget_keeps n r got forgotten

  pub event_keeps : (e : Event) → IfSome (record_of e) IsInRange → IsRightHousehold (after_event h e)
  event_keeps (Make n picture content) fits = making_keeps n picture content (slice_get h.replicas n) refl fits
  event_keeps (Narrow n tree) fits = narrowing_keeps n tree (slice_get h.replicas n) refl
  event_keeps (Begin n epoch tree) fits = beginning_keeps n epoch tree (slice_get h.replicas n) refl
  event_keeps (Copy n) fits = copying_keeps n (slice_get h.replicas n) refl
  event_keeps (Settle n k) fits = settling_keeps n k (slice_get h.replicas n) (slice_get h.copies k) refl refl
  event_keeps (Take n k) fits = taking_keeps n k (slice_get h.replicas n) (slice_get h.copies k) refl refl
  event_keeps (Forget n forgotten) fits = forgetting_keeps n forgotten (slice_get h.replicas n) refl
