-- Machinery of the proofs: raising an author's bound in each fragment.
use Rattle.std.specs.Prelude.{◌≡◌, ℕ, ◌<◌, ◌≤◌, Bool, true, nat_le, List, [], ◌∷◌}
use Rattle.std.specs.List.{list_all}
use Rattle.item_knowledge.specs.Entries.{Entry, is_entry, bound}
use Rattle.item_knowledge.specs.Excess.{wholes}
use Rattle.item_knowledge.specs.Fragments.{Fragment, is_normal, entries_at}

-- no fragment has a version of the author above b
abbrev pub are_level : List Fragment → ℕ → ℕ → Bool
are_level fs a b = list_all (λ f. nat_le (bound f.entries a) b) fs

abbrev pub all_raised : Entry → List Fragment → List Fragment
all_raised e fs = wholes (e ∷ []) fs

-- a star of one entry, and no group
abbrev pub star_of_one : Entry → List Fragment
star_of_one e = record { pictures = []; entries = e ∷ [] } ∷ []

-- an author's bound may be raised in each fragment of a normal form: the star has a bound of the author, which is at most the new
-- one, and no fragment has a greater bound than the star
pub record IsWaiting (e : Entry) (fs : List Fragment) : Type 0 where
  pub normal : is_normal fs ≡ true
  pub entry : is_entry e ≡ true
  pub level : are_level fs e.0 (bound (entries_at fs 0) e.0) ≡ true
  pub some : 0 < bound (entries_at fs 0) e.0
  pub most : bound (entries_at fs 0) e.0 ≤ e.1
