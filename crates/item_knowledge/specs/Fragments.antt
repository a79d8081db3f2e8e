-- Fragments, the pairs of a picture and a version that they denote, and their normal form.
use Rattle.std.specs.Prelude.{◌≡◌, ℕ, ◌<◌, Bool, true, false, not, ◌&&◌, ◌||◌, ◌==◌, nat_lt, List, [], ◌∷◌, get_or, Option, None, Some, if◌then◌else◌}
use Rattle.std.specs.List.{list_any, list_all}
use Rattle.photo_version.specs.Version.{Version}
use Rattle.item_knowledge.specs.Entries.{Entry, denotes, is_vector, leq, same_entries}

-- some pictures, and what is known of each of them
pub record Fragment : Type 0 where
  pub pictures : List ℕ
  pub entries : List Entry

abbrev pub is_empty : List ℕ → Bool
is_empty [] = true
is_empty (p ∷ ps) = false

abbrev pub first : List ℕ → ℕ
first [] = 0
first (p ∷ ps) = p

abbrev pub lists : List ℕ → ℕ → Bool
lists ps p = list_any (λ q. q == p) ps

-- a fragment that lists no picture is the star, which stands for all
abbrev pub reaches : Fragment → ℕ → Bool
reaches f p = is_empty f.pictures || lists f.pictures p

-- the pairs that fragments denote: whether a version is known of a picture above 0
abbrev pub knows : List Fragment → ℕ → Version → Bool
knows fs p v = list_any (λ f. reaches f p && denotes f.entries v) fs

-- the second denote each pair that the first denote
abbrev pub IsWithin : List Fragment → List Fragment → Type 0
IsWithin fs gs = (p : ℕ) (v : Version) → 0 < p → knows fs p v ≡ true → knows gs p v ≡ true

-- sorted, and none twice
abbrev pub rises : List ℕ → Bool
rises [] = true
rises (p ∷ ps) = list_all (λ q. nat_lt p q) ps && rises ps

-- a group beside the star: at least one picture, sorted and above 0, and a vector above the star's
abbrev pub is_group : List Entry → Fragment → Bool
is_group star g =
    (not (is_empty g.pictures) && (list_all (λ p. nat_lt 0 p) g.pictures && rises g.pictures))
    && (is_vector g.entries && (leq star g.entries && not (same_entries star g.entries)))

-- the first group's first picture is smaller, and the two have different vectors and no picture in common
abbrev pub goes_before : Fragment → Fragment → Bool
goes_before g h =
    nat_lt (first g.pictures) (first h.pictures)
    && (not (same_entries g.entries h.entries) && list_all (λ p. not (lists g.pictures p)) h.pictures)

abbrev pub are_groups : List Entry → List Fragment → Bool
are_groups star [] = true
are_groups star (g ∷ gs) = (is_group star g && list_all (λ h. goes_before g h) gs) && are_groups star gs

-- the star comes first, and is always there
abbrev pub is_normal : List Fragment → Bool
is_normal [] = false
is_normal (s ∷ gs) = (is_empty s.pictures && is_vector s.entries) && are_groups s.entries gs

-- the vector of the group that lists a picture
abbrev pub find : List Fragment → ℕ → Option (List Entry)
find [] p = None
find (g ∷ gs) p = if lists g.pictures p then Some g.entries else find gs p

abbrev pub or_star : List Entry → Option (List Entry) → List Entry
or_star star None = star
or_star star (Some e) = e

-- the vector of what is known of a picture
abbrev pub known : List Fragment → ℕ → List Entry
known [] p = []
known (s ∷ gs) p = or_star s.entries (find gs p)

abbrev pub nothing : Fragment
nothing = record { pictures = []; entries = [] }

-- the vector of the fragment of a number
abbrev pub entries_at : List Fragment → ℕ → List Entry
entries_at fs k = (get_or fs k nothing).entries
