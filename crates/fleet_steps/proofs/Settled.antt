-- One or two devices changed by a command: what is staged on them, and whether they are otherwise as they were.
use Rattle.std.proofs.Common.{◌≡◌, ◌≢◌, ℕ, ◌<◌, List, [], ◌∷◌, length, get_or, set, map, refl, sym, ap, ◌∙◌}
use Rattle.std.specs.Prelude.{None, Result, Ok, Err, OnErr}
use Rattle.std.proofs.Math.Seq.{map-set_same}
use Rattle.std.proofs.lemmas.List.{get_or-set_other}
use Rattle.photo_device.specs.Device.{Kept, IsAsItWas, unstaged}
use Rattle.photo_script.specs.declared.report.Report.{Report}
use Rattle.fleet_steps.specs.Between.{AreSettled, AreAsTheyWere}
use Rattle.fleet_model.proofs.Effects.{all_set, all_at}

-- one device

pub one_as_it_was : {E : Type 0} (r : Result Report E) (devices : List Kept) (k : ℕ) (d old new : Kept) → old ≡ get_or devices k d → OnErr r (IsAsItWas old new) → OnErr r (AreAsTheyWere devices (set devices k new))
one_as_it_was (Ok report) devices k d old new is same = tt
one_as_it_was (Err refused) devices k d old new is same = map-set_same unstaged devices k new d (same ∙ ap unstaged is)

pub one_settled : (devices : List Kept) (k : ℕ) (d old new : Kept) → old ≡ get_or devices k d → k < length devices → (old.staged ≡ None → new.staged ≡ None) → AreSettled devices → AreSettled (set devices k new)
one_settled devices k d old new is h keeps all =
    all_set (λ (e : Kept). e.staged ≡ None) devices k new all (keeps (ap (λ (e : Kept). e.staged) is ∙ all_at (λ (e : Kept). e.staged ≡ None) devices k d all h))

-- two devices

pub two_as_they_were : {E : Type 0} (r : Result Report E) (devices new : List Kept) (t s : ℕ) (d e target source a b : Kept) → target ≡ get_or devices t d → source ≡ get_or devices s e → s ≢ t → new ≡ set (set devices t a) s b
    → OnErr r (IsAsItWas target a) → OnErr r (IsAsItWas source b) → OnErr r (AreAsTheyWere devices new)
two_as_they_were (Ok report) devices new t s d e target source a b is_t is_s other is_new first second = tt
two_as_they_were (Err refused) devices new t s d e target source a b is_t is_s other is_new first second =
    ap (map unstaged) is_new
    ∙ map-set_same unstaged (set devices t a) s b e (second ∙ ap unstaged (is_s ∙ sym (get_or-set_other devices t s a e other)))
    ∙ map-set_same unstaged devices t a d (first ∙ ap unstaged is_t)

-- where nothing is staged, devices that are as they were are equal

settled_is : (d : Kept) → d.staged ≡ None → d ≡ unstaged d
settled_is d none = λ i. record d { staged = none i }

one_same : (d e : Kept) → d.staged ≡ None → e.staged ≡ None → unstaged e ≡ unstaged d → e ≡ d
one_same d e here there same = settled_is e there ∙ same ∙ sym (settled_is d here)

first_same : (a b : Kept) (xs ys : List Kept) → ◌≡◌ {A = List Kept} (a ∷ xs) (b ∷ ys) → a ≡ b
first_same a b xs ys e = cc

rest_same : (a b : Kept) (xs ys : List Kept) → ◌≡◌ {A = List Kept} (a ∷ xs) (b ∷ ys) → xs ≡ ys
rest_same a b xs ys e = cc

pub settled_same : (xs ys : List Kept) → AreSettled xs → AreSettled ys → AreAsTheyWere xs ys → ys ≡ xs
settled_same [] [] here there same = refl
settled_same [] (y ∷ ys) here there same = cc
settled_same (x ∷ xs) [] here there same = cc
settled_same (x ∷ xs) (y ∷ ys) here there same = λ i.
    one_same x y here.0 there.0 (first_same (unstaged y) (unstaged x) (map unstaged ys) (map unstaged xs) same) i
    ∷ settled_same xs ys here.1 there.1 (rest_same (unstaged y) (unstaged x) (map unstaged ys) (map unstaged xs) same) i
