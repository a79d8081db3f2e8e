-- Mapped lists, and held versions as the entries of a list.
use Rattle.std.proofs.Common.{◌≡◌, ◌<◌, ◌∷◌, ◌++◌, ℕ, zero, suc, List, [], length, get_or, map, refl, ap, subst, sym, arith}
use Rattle.std.specs.List.{flat_map, AllByRecursion}
use Rattle.photo_model.specs.Entry.{Entry}
use Rattle.photo_device.specs.Held.{entry_of, entries_of}
use Rattle.photo_device.specs.declared.held.Held.{Held}
use Rattle.fleet_model.specs.Contents.{Contents}
use Rattle.photo_script.specs.Reports.{AreOfScript, IsOfScript}

-- what holds of each image holds of the image of the element at a place
pub all_map_at : {X Y : Type 0} (P : Y → Type 0) (f : X → Y) (xs : List X) (k : ℕ) (x : X) → AllByRecursion P (map f xs) → k < length xs → x ≡ get_or xs k x → P (f x)
all_map_at {X} {Y} P f xs k x all h is = subst (λ (y : X). P (f y)) (sym is) (at xs k all h)
  where
    at : (ys : List X) (j : ℕ) → AllByRecursion P (map f ys) → j < length ys → P (f (get_or ys j x))
    at [] j all h = absurd (omega arith)
    at (y ∷ ys) zero all h = all.0
    at (y ∷ ys) (suc j) all h = at ys j all.1 (omega arith)

pub IsOfScript-item : (script : Contents) (helds : List Held) (i : ℕ) (held : Held) → AreOfScript script (entries_of helds) → i < length helds → held ≡ get_or helds i held → IsOfScript script held.version
IsOfScript-item script helds i held all within item = all_map_at (λ (e : Entry). IsOfScript script e.version) entry_of helds i held all within item

pub flat_map-entries : (f : Entry → List ℕ) (helds : List Held) → flat_map (λ h. f (entry_of h)) helds ≡ flat_map f (entries_of helds)
flat_map-entries f [] = refl
flat_map-entries f (h ∷ hs) = ap (λ t. f (entry_of h) ++ t) (flat_map-entries f hs)
