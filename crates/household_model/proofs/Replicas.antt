-- Where a household's replicas stand, and which receipts it has.
use Rattle.std.proofs.Common.{◌≡◌, ℕ, zero, suc, ◌<◌, true, List, [], ◌∷◌, ◌⊎◌, inl, inr, length, get_or, set, map, refl, sym, ap, ◌∙◌, subst, arith}
use Rattle.std.specs.Prelude.{Some, slice_get}
use Rattle.std.proofs.lemmas.List.{map-set, get_or-map, length-map}
use Rattle.std.proofs.lemmas.Option.{slice_get_within, get_or_from_slice_get}
use Rattle.photo_filter_text.specs.Tree.{All}
use Rattle.photo_version.specs.Author.{author}
use Rattle.photo_model.specs.Entry.{Entry}
use Rattle.photo_model.specs.Device.{ModelDevice, opening}
use Rattle.fleet_model.specs.Runs.{device_at}
use Rattle.fleet_model.specs.Members.{In, here, there}
use Rattle.fleet_model.proofs.Members.{in_nothing}
use Rattle.household_model.specs.Replica.{Receipt, Replica}
use Rattle.household_model.specs.Household.{Household, devices_of}
use Rattle.household_model.proofs.Facts.{IsRight}
use Rattle.household_model.proofs.RightSteps.{carried}

pub in_mapped : {X Y : Type 0} {y : Y} (f : X → Y) (xs : List X) → In y (map f xs) → (x : X) × In x xs × (y ≡ f x)
in_mapped f [] i = in_nothing i
in_mapped f (x ∷ xs) (here e) = (x, here refl, e)
in_mapped f (x ∷ xs) (there i) = let r = in_mapped f xs i in (r.0, there r.1, r.2)

pub mapped_in : {X Y : Type 0} {x : X} (f : X → Y) {xs : List X} → In x xs → In (f x) (map f xs)
mapped_in f (here e) = here (ap f e)
mapped_in f (there i) = there (mapped_in f i)

in_set : {X : Type 0} {y : X} (xs : List X) (k : ℕ) (x : X) → In y (set xs k x) → In y xs ⊎ (y ≡ x)
in_set [] k x i = inl i
in_set (z ∷ zs) zero x (here e) = inr e
in_set (z ∷ zs) zero x (there i) = inl (there i)
in_set (z ∷ zs) (suc k) x (here e) = inl (here e)
in_set (z ∷ zs) (suc k) x (there i) = elim (in_set zs k x i) [ inl a ↦ inl (there a) | inr b ↦ inr b ]

-- reading within a list gives a member whatever the default
in_place : {X : Type 0} (xs : List X) (k : ℕ) (d : X) → k < length xs → In (get_or xs k d) xs
in_place [] k d h = absurd (omega arith)
in_place (x ∷ xs) zero d h = here refl
in_place (x ∷ xs) (suc k) d h = there (in_place xs k d (omega arith))

pub got_in : {X : Type 0} (xs : List X) (k : ℕ) (x : X) → slice_get xs k ≡ Some x → In x xs
got_in {X = X} xs k x got = subst (λ (y : X). In y xs) (get_or_from_slice_get xs k x x got) (in_place xs k x (slice_get_within xs k x got))

-- a replica of the list stands at that place, and so does its device among the devices
pub record StandsAt (replicas : List Replica) (n : ℕ) (r : Replica) : Type 0 where
  pub among : In r replicas
  pub within : n < length (devices_of replicas)
  pub is_there : device_at (devices_of replicas) n ≡ r.device

pub stands_at : (replicas : List Replica) (n : ℕ) (r : Replica) → slice_get replicas n ≡ Some r → StandsAt replicas n r
stands_at replicas n r got =
    let within : n < length replicas = slice_get_within replicas n r got in
    record {
      among = got_in replicas n r got;
      within = subst (λ (m : ℕ). n < m) (sym (length-map replicas (λ (x : Replica). x.device))) within;
      is_there = get_or-map (λ (x : Replica). x.device) replicas n r (opening (author n) All) within ∙ ap (λ (x : Replica). x.device) (get_or_from_slice_get replicas n r r got);
    }

-- a live replica or a copy has the receipt
pub record IsNamed (replicas copies : List Replica) (q : Receipt) : Type 0 where
  pub holder : Replica
  pub among : In holder replicas ⊎ In holder copies
  pub kept : holder.receipts q ≡ true

-- where one replica is replaced, each receipt was there before, or it is one that the new replica brings
pub named_before : (P : Receipt → Type 0) (replicas copies : List Replica) (n : ℕ) (r x : Replica) → In r replicas → ((q : Receipt) → x.receipts q ≡ true → (r.receipts q ≡ true) ⊎ P q) → (q : Receipt) → IsNamed (set replicas n x) copies q → IsNamed replicas copies q ⊎ P q
named_before P replicas copies n r x mine brings q m = elim m.among [
  | inl live ↦ elim (in_set replicas n x live) [
    | inl old ↦ inl (record { holder = m.holder; among = inl old; kept = m.kept })
    | inr new ↦ elim (brings q (subst (λ (y : Replica). y.receipts q ≡ true) new m.kept)) [
      | inl had ↦ inl (record { holder = r; among = inl mine; kept = had })
      | inr more ↦ inr more
    ]
  ]
  | inr copy ↦ inl (record { holder = m.holder; among = inr copy; kept = m.kept })
]

abbrev pub IsRightIn : List Entry → List ModelDevice → List Replica → (Receipt → Type 0) → Type 0
IsRightIn log devices copies Named = IsRight log devices (λ c. In c (devices_of copies)) Named

-- all is right with a household
abbrev pub IsRightHousehold : Household → Type 0
IsRightHousehold h = IsRightIn h.log (devices_of h.replicas) h.copies (IsNamed h.replicas h.copies)

-- a replica is replaced, and its receipts are no more than before or than what P adds
module _ (log : List Entry) (replicas copies : List Replica) (n : ℕ) (x : Replica) where
  pub placed_right : IsRightIn log (set (devices_of replicas) n x.device) copies (IsNamed (set replicas n x) copies) → IsRightIn log (devices_of (set replicas n x)) copies (IsNamed (set replicas n x) copies)
  placed_right = subst (λ (ds : List ModelDevice). IsRightIn log ds copies (IsNamed (set replicas n x) copies)) (sym (map-set (λ (y : Replica). y.device) replicas n x))

  pub replaced_right : (r : Replica) → In r replicas → ((q : Receipt) → x.receipts q ≡ true → r.receipts q ≡ true)
      → IsRightIn log (set (devices_of replicas) n x.device) copies (IsNamed replicas copies)
      → IsRightIn log (devices_of (set replicas n x)) copies (IsNamed (set replicas n x) copies)
  replaced_right r among fewer right = placed_right
      (carried log (set (devices_of replicas) n x.device) (λ c. In c (devices_of copies)) (IsNamed replicas copies) right
      (λ c. In c (devices_of copies)) (IsNamed (set replicas n x) copies) right.copies
      (λ q named. elim (named_before (λ _. ⊥) replicas copies n r x among (λ q had. inl (fewer q had)) q named) [ inl old ↦ old | inr none ↦ absurd none ]))
