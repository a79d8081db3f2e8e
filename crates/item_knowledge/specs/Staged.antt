-- What is known, and what is staged beside it: prepared, and not known yet.
use Rattle.std.specs.Prelude.{◌≡◌, ℕ, true, ◌<◌, ◌||◌, max, List, Option, None, IfSome}
use Rattle.std.specs.Option.{is_some}
use Rattle.photo_version.specs.Author.{Author}
use Rattle.photo_version.specs.Version.{Version}
use Rattle.item_knowledge.specs.Fragments.{Fragment, knows}
use Rattle.item_knowledge.specs.Kept.{star_bound}

-- what a knowledge keeps: the fragments of what is known, and of what is staged if something is
pub record Knowing : Type 0 where
  pub known : List Fragment
  pub staged : Option (List Fragment)

-- nothing is staged
abbrev pub settled : List Fragment → Knowing
settled fs = record { known = fs; staged = None }

-- something is staged, and it is the union of two
pub record IsStagedUnion (staged : Option (List Fragment)) (left right : List Fragment) : Type 0 where
  pub there : is_some staged ≡ true
  pub star : IfSome staged (λ s. (a : Author) → star_bound s a ≡ max (star_bound left a) (star_bound right a))
  pub pairs : IfSome staged (λ s. (p : ℕ) (v : Version) → 0 < p → knows s p v ≡ (knows left p v || knows right p v))
