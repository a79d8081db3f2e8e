-- The definitions, worked for some vectors and texts.
use Rattle.std.specs.Prelude.{◌≡◌, ℕ, true, false, List, [], ◌∷◌, codes}
use Rattle.photo_version.specs.Author.{author, author_at, next_author, is_earlier_epoch}
use Rattle.photo_version.specs.Version.{version}
use Rattle.photo_version.specs.Showing.{author_text, version_text}
use Rattle.photo_version.specs.Vector.{Bound, denotes, is_vector, raised, joined, is_within}

-- bound n of device a in epoch 0
abbrev pub bound : ℕ → ℕ → Bound
bound a n = (author a, n)

-- bound n of device a in epoch e
abbrev pub later_bound : ℕ → ℕ → ℕ → Bound
later_bound a e n = (author_at a e, n)

-- a device's next epoch is an author of its own, ordered after the first epoch and before all later devices
pub record TheEpochs : Type 0 where
  pub with_its_next : raised (later_bound 0 1 1) (bound 0 2 ∷ []) ≡ bound 0 2 ∷ later_bound 0 1 1 ∷ []
  pub of_next : denotes (bound 0 2 ∷ later_bound 0 1 1 ∷ []) (version (author_at 0 1) 1) ≡ true
  pub not_of_next : denotes (bound 0 2 ∷ later_bound 0 1 1 ∷ []) (version (author_at 0 1) 2) ≡ false
  pub in_order : is_vector (bound 0 2 ∷ later_bound 0 1 1 ∷ bound 1 1 ∷ []) ≡ true
  pub other_device : is_vector (bound 1 1 ∷ later_bound 0 1 1 ∷ []) ≡ false
  pub next : next_author (author 0) ≡ author_at 0 1
  pub earlier : is_earlier_epoch (author 0) (author_at 0 2) ≡ true
  pub not_later : is_earlier_epoch (author_at 0 2) (author 0) ≡ false
  pub not_another : is_earlier_epoch (author 0) (author 1) ≡ false

abbrev pub two_of_the_first : List Bound
two_of_the_first = bound 0 2 ∷ []

abbrev pub of_both : List Bound
of_both = bound 0 1 ∷ bound 1 3 ∷ []

pub record TheVectors : Type 0 where
  pub union : joined two_of_the_first of_both ≡ bound 0 2 ∷ bound 1 3 ∷ []
  pub other_way : joined of_both two_of_the_first ≡ bound 0 2 ∷ bound 1 3 ∷ []
  pub with_an_earlier : raised (bound 0 1) two_of_the_first ≡ two_of_the_first
  pub with_a_later : raised (bound 0 4) of_both ≡ bound 0 4 ∷ bound 1 3 ∷ []
  pub with_another : raised (bound 1 1) two_of_the_first ≡ bound 0 2 ∷ bound 1 1 ∷ []
  pub last : denotes two_of_the_first (version (author 0) 2) ≡ true
  pub later : denotes two_of_the_first (version (author 0) 3) ≡ false
  pub of_another : denotes two_of_the_first (version (author 1) 1) ≡ false
  pub within : is_within (bound 0 1 ∷ []) of_both ≡ true
  pub number_missing : is_within two_of_the_first of_both ≡ false
  pub author_missing : is_within of_both two_of_the_first ≡ false
  pub vector : is_vector of_both ≡ true
  pub out_of_order : is_vector (bound 1 3 ∷ bound 0 1 ∷ []) ≡ false
  pub twice : is_vector (bound 0 1 ∷ bound 0 2 ∷ []) ≡ false
  pub bound_zero : is_vector (bound 0 0 ∷ []) ≡ false

-- epoch 0 isn't shown
pub record TheTexts : Type 0 where
  pub first_epoch : version_text (version (author 0) 3) ≡ codes "0:3"
  pub later_epoch : version_text (version (author_at 0 1) 3) ≡ codes "0.1:3"
  pub tens : version_text (version (author_at 12 10) 40) ≡ codes "12.10:40"
  pub last_device : author_text (author 65535) ≡ codes "65535"
