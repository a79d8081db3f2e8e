-- What holds of all normal forms.
use Rattle.std.specs.Prelude.{◌≡◌, ℕ, Bool, true, ◌<◌, ◌||◌, ◌&&◌, ◌==◌, nat_lt, List}
use Rattle.std.specs.List.{list_any, list_all}
use Rattle.photo_version.specs.Version.{Version}
use Rattle.item_knowledge.specs.Entries.{Entry, denotes, is_vector}
use Rattle.item_knowledge.specs.Fragments.{Fragment, knows, is_normal, entries_at}

-- two vectors that denote the same versions are equal
abbrev pub VectorsAreOne : Type 0
VectorsAreOne =
    (xs ys : List Entry) → is_vector xs ≡ true → is_vector ys ≡ true →
    ((v : Version) → denotes xs v ≡ denotes ys v) → xs ≡ ys

-- two normal forms that denote the same pairs are equal, fragment by fragment
abbrev pub NormalFormsAreOne : Type 0
NormalFormsAreOne =
    (fs gs : List Fragment) → is_normal fs ≡ true → is_normal gs ≡ true →
    ((p : ℕ) (v : Version) → 0 < p → knows fs p v ≡ knows gs p v) → fs ≡ gs

-- the star denotes what is known of every picture above 0
abbrev pub StarIsOfEvery : Type 0
StarIsOfEvery =
    (fs : List Fragment) → is_normal fs ≡ true → (v : Version) →
    (denotes (entries_at fs 0) v ≡ true → (p : ℕ) → 0 < p → knows fs p v ≡ true)
    × (((p : ℕ) → 0 < p → knows fs p v ≡ true) → denotes (entries_at fs 0) v ≡ true)

-- a vector that is known of a picture above 0
abbrev pub is_told : ℕ × List Entry → Bool
is_told t = nat_lt 0 t.0 && is_vector t.1

-- the pairs of what is known of every picture, and of what else is known of some: these pictures come in any order, and one
-- may come more than once
abbrev pub pairs_of : List Entry → List (ℕ × List Entry) → ℕ → Version → Bool
pairs_of every some p v = denotes every v || list_any (λ t. (t.0 == p) && denotes t.1 v) some

-- a normal form that denotes those pairs, and there is no other
pub record IsTheNormalForm (fs : List Fragment) (pairs : ℕ → Version → Bool) : Type 0 where
  pub normal : is_normal fs ≡ true
  pub denoted : (p : ℕ) (v : Version) → 0 < p → knows fs p v ≡ pairs p v
  pub only : (gs : List Fragment) → is_normal gs ≡ true → ((p : ℕ) (v : Version) → 0 < p → knows gs p v ≡ pairs p v) → gs ≡ fs

-- what is known of every picture, together with what else is known of some, has exactly one normal form; vectors say both
abbrev pub EachHasOneNormalForm : Type 0
EachHasOneNormalForm =
    (every : List Entry) (some : List (ℕ × List Entry)) → is_vector every ≡ true → list_all (λ t. is_told t) some ≡ true →
    (fs : List Fragment) × IsTheNormalForm fs (pairs_of every some)
