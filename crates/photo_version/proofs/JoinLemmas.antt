-- The merge of two vectors: what it has done, and what remains.
use Rattle.std.proofs.Common.{◌≡◌, ℕ, zero, suc, ◌+◌, ◌<◌, ◌≤◌, Bool, true, false, leb, max, ◌&&◌, ◌||◌, List, [], ◌∷◌, ◌++◌, length, get_or, take, drop, ◌-◌, refl, sym, subst, ap, ◌∙◌, ◌⊎◌, inl, inr, arith, append_assoc}
use Rattle.std.proofs.lemmas.Bool.{and_parts, and_from, and_right, lt-leb, le-leb, cases_lt}
use Rattle.std.proofs.lemmas.List.{drop_more, take_all, drop_all, append-nil}
use Rattle.photo_version.specs.Author.{Author, author, author_before}
use Rattle.photo_version.specs.Version.{version}
use Rattle.photo_version.specs.Vector.{Bound, denotes, is_vector, raised, joined, is_within}
use Rattle.photo_version.proofs.AuthorLemmas.{before_from, same_from, same_between}
use Rattle.photo_version.proofs.VectorLemmas.{is_above, VectorParts, vector_parts, above_all, denotes-above, raised_same, raised_more, raised_first, joined_above}

-- The first bound of a union

joined_left : (x : Bound) (xs ys : List Bound) → is_above x.0 xs ≡ true → is_above x.0 ys ≡ true → joined (x ∷ xs) ys ≡ x ∷ joined xs ys
joined_left x xs ys h g = raised_first x (joined xs ys) (joined_above x.0 xs ys h g)

joined_right : (xs : List Bound) (y : Bound) (ys : List Bound) → is_above y.0 xs ≡ true → joined xs (y ∷ ys) ≡ y ∷ joined xs ys
joined_right [] y ys h = refl
joined_right (x ∷ xs) y ys h =
    let p = and_parts (author_before y.0 x.0) (is_above y.0 xs) h in
    ap (raised x) (joined_right xs y ys p.1) ∙ raised_more x y (joined xs ys) (before_from y.0 x.0 p.0)

joined_both : (x : Bound) (xs : List Bound) (y : Bound) (ys : List Bound) → x.0 ≡ y.0 → is_above x.0 xs ≡ true → joined (x ∷ xs) (y ∷ ys) ≡ (x.0, max x.1 y.1) ∷ joined xs ys
joined_both x xs y ys e h =
    ap (raised x) (joined_right xs y ys (subst (λ a. is_above a xs ≡ true) e h)) ∙ raised_same x y (joined xs ys) e

joined_none : (xs : List Bound) → is_vector xs ≡ true → joined xs [] ≡ xs
joined_none [] h = refl
joined_none (x ∷ xs) h =
    let p = vector_parts x xs h in
    ap (raised x) (joined_none xs p.rest) ∙ raised_first x xs p.above

-- What remains, by its first bound

pub drop_from : (xs : List Bound) (i : ℕ) (x : Bound) → i < length xs → get_or xs i x ≡ x → drop i xs ≡ x ∷ drop (i + 1) xs
drop_from xs i x l e = drop_more xs i x l ∙ ap (λ z. z ∷ drop (i + 1) xs) e

left_parts : (xs : List Bound) (i : ℕ) (x : Bound) → i < length xs → get_or xs i x ≡ x → is_vector (drop i xs) ≡ true → VectorParts x (drop (i + 1) xs)
left_parts xs i x l e h = vector_parts x (drop (i + 1) xs) (subst (λ zs. is_vector zs ≡ true) (drop_from xs i x l e) h)

-- an author before the first bound's author stands before all of them
before_left : (a : Author) (xs : List Bound) (i : ℕ) (x : Bound) → i < length xs → get_or xs i x ≡ x → is_vector (drop i xs) ≡ true → author_before a x.0 ≡ true → is_above a (drop i xs) ≡ true
before_left a xs i x l e h p =
    let parts = left_parts xs i x l e h in
    subst (λ zs. is_above a zs ≡ true) (sym (drop_from xs i x l e))
    (and_from (author_before a x.0) (is_above a (drop (i + 1) xs)) p (above_all a x.0 (drop (i + 1) xs) p parts.above))

length_left : (xs : List Bound) (i : ℕ) → length (drop i xs) ≤ length xs - i
length_left [] zero = omega arith
length_left [] (suc i) = omega arith
length_left (x ∷ xs) zero = omega arith
length_left (x ∷ xs) (suc i) = omega (arith, length_left xs i)

pub all_left : (xs : List Bound) (i : ℕ) → take (length xs - i) (drop i xs) ≡ drop i xs
all_left xs i = take_all (length xs - i) (drop i xs) (length_left xs i)

-- A union in progress

pub record IsJoining (xs ys done : List Bound) (i j : ℕ) : Type 0 where
  pub all : done ++ joined (drop i xs) (drop j ys) ≡ joined xs ys
  pub left : is_vector (drop i xs) ≡ true
  pub right : is_vector (drop j ys) ≡ true
  pub left_within : i ≤ length xs
  pub right_within : j ≤ length ys

one_more : (done : List Bound) (z : Bound) (rest before whole : List Bound) → before ≡ z ∷ rest → done ++ before ≡ whole → (done ++ z ∷ []) ++ rest ≡ whole
one_more done z rest before whole e h = append_assoc done (z ∷ []) rest ∙ (ap (λ zs. done ++ zs) (sym e) ∙ h)

pub take_left : (xs ys done new : List Bound) (i j : ℕ) (x y : Bound) → IsJoining xs ys done i j → i < length xs → j < length ys → get_or xs i x ≡ x → get_or ys j y ≡ y → author_before x.0 y.0 ≡ true → new ≡ done ++ x ∷ [] → IsJoining xs ys new (i + 1) j
take_left xs ys done new i j x y m l k ex ey p is =
    let parts = left_parts xs i x l ex m.left in
    let first = joined_left x (drop (i + 1) xs) (drop j ys) parts.above (before_left x.0 ys j y k ey m.right p) in
    let at = ap (λ zs. joined zs (drop j ys)) (drop_from xs i x l ex) in
    record {
      all = ap (λ zs. zs ++ joined (drop (i + 1) xs) (drop j ys)) is ∙ one_more done x _ _ _ (at ∙ first) m.all;
      left = parts.rest;
      right = m.right;
      left_within = omega arith;
      right_within = m.right_within;
    }

pub take_right : (xs ys done new : List Bound) (i j : ℕ) (x y : Bound) → IsJoining xs ys done i j → i < length xs → j < length ys → get_or xs i x ≡ x → get_or ys j y ≡ y → author_before y.0 x.0 ≡ true → new ≡ done ++ y ∷ [] → IsJoining xs ys new i (j + 1)
take_right xs ys done new i j x y m l k ex ey p is =
    let parts = left_parts ys j y k ey m.right in
    let first = joined_right (drop i xs) y (drop (j + 1) ys) (before_left y.0 xs i x l ex m.left p) in
    let at = ap (λ zs. joined (drop i xs) zs) (drop_from ys j y k ey) in
    record {
      all = ap (λ zs. zs ++ joined (drop i xs) (drop (j + 1) ys)) is ∙ one_more done y _ _ _ (at ∙ first) m.all;
      left = m.left;
      right = parts.rest;
      left_within = m.left_within;
      right_within = omega arith;
    }

pub take_both : (xs ys done new : List Bound) (i j : ℕ) (x y : Bound) → IsJoining xs ys done i j → i < length xs → j < length ys → get_or xs i x ≡ x → get_or ys j y ≡ y → author_before x.0 y.0 ≡ false → author_before y.0 x.0 ≡ false → new ≡ done ++ (x.0, max x.1 y.1) ∷ [] → IsJoining xs ys new (i + 1) (j + 1)
take_both xs ys done new i j x y m l k ex ey p q is =
    let lefts = left_parts xs i x l ex m.left in
    let rights = left_parts ys j y k ey m.right in
    let first = joined_both x (drop (i + 1) xs) y (drop (j + 1) ys) (same_between x.0 y.0 p q) lefts.above in
    let left = ap (λ zs. joined zs (drop j ys)) (drop_from xs i x l ex) in
    let right = ap (λ zs. joined (x ∷ drop (i + 1) xs) zs) (drop_from ys j y k ey) in
    record {
      all = ap (λ zs. zs ++ joined (drop (i + 1) xs) (drop (j + 1) ys)) is ∙ one_more done (x.0, max x.1 y.1) _ _ _ (left ∙ (right ∙ first)) m.all;
      left = lefts.rest;
      right = rights.rest;
      left_within = omega arith;
      right_within = omega arith;
    }

-- one of the two lists is at its end
ends : (xs ys : List Bound) (i j : ℕ) → is_vector (drop i xs) ≡ true → (length xs ≤ i) ⊎ (length ys ≤ j) → joined (drop i xs) (drop j ys) ≡ drop i xs ++ drop j ys
ends xs ys i j h (inl over) = ap (λ zs. joined zs (drop j ys)) (drop_all i xs over) ∙ sym (ap (λ zs. zs ++ drop j ys) (drop_all i xs over))
ends xs ys i j h (inr over) =
    ap (λ zs. joined (drop i xs) zs) (drop_all j ys over)
    ∙ (joined_none (drop i xs) h
    ∙ (sym (append-nil (drop i xs)) ∙ sym (ap (λ zs. drop i xs ++ zs) (drop_all j ys over))))

pub all_joined : (xs ys done more new : List Bound) (i j : ℕ) → IsJoining xs ys done i j → (i < length xs → length ys ≤ j) → more ≡ done ++ drop i xs → new ≡ more ++ drop j ys → new ≡ joined xs ys
all_joined xs ys done more new i j m over is new_is =
    let at : (length xs ≤ i) ⊎ (length ys ≤ j) = elim (cases_lt i (length xs)) [ inl l ↦ inr (over l) | inr g ↦ inl g ] in
    new_is
    ∙ (ap (λ zs. zs ++ drop j ys) is
    ∙ (append_assoc done (drop i xs) (drop j ys)
    ∙ (ap (λ zs. done ++ zs) (sym (ends xs ys i j m.left at))
    ∙ m.all)))

-- Inclusion in progress: it holds of the whole if it holds of what remains

pub record IsComparing (xs ys : List Bound) (i j : ℕ) : Type 0 where
  pub all : is_within (drop i xs) (drop j ys) ≡ is_within xs ys
  pub left : is_vector (drop i xs) ≡ true
  pub right : is_vector (drop j ys) ≡ true
  pub left_within : i ≤ length xs
  pub right_within : j ≤ length ys

within_after : (xs : List Bound) (y : Bound) (ys : List Bound) → is_above y.0 xs ≡ true → is_within xs (y ∷ ys) ≡ is_within xs ys
within_after [] y ys h = refl
within_after (x ∷ xs) y ys h =
    let p = and_parts (author_before y.0 x.0) (is_above y.0 xs) h in
    let rest = within_after xs y ys p.1 in
    rw ((before_from y.0 x.0 p.0).other) (ap (λ t. denotes ys (version x.0 x.1) && t) rest)

not_within : (x : Bound) (xs ys : List Bound) → denotes ys (version x.0 x.1) ≡ false → is_within (x ∷ xs) ys ≡ false
not_within x xs ys h = rw h refl

up_to : (x : Bound) (y : Bound) (ys : List Bound) → x.0 ≡ y.0 → is_above y.0 ys ≡ true → denotes (y ∷ ys) (version x.0 x.1) ≡ (leb 1 x.1 && leb x.1 y.1)
up_to x y ys e h =
    let none = denotes-above ys (version x.0 x.1) (subst (λ a. is_above a ys ≡ true) (sym e) h) in
    rw (same_from y.0 x.0 (sym e), none) (or_none (leb 1 x.1 && leb x.1 y.1))
  where
    or_none : (t : Bool) → (t || false) ≡ t
    or_none true = refl
    or_none false = refl

pub pass_right : (xs ys : List Bound) (i j : ℕ) (x y : Bound) → IsComparing xs ys i j → i < length xs → j < length ys → get_or xs i x ≡ x → get_or ys j y ≡ y → author_before y.0 x.0 ≡ true → IsComparing xs ys i (j + 1)
pass_right xs ys i j x y m l k ex ey p =
    let parts = left_parts ys j y k ey m.right in
    let step = within_after (drop i xs) y (drop (j + 1) ys) (before_left y.0 xs i x l ex m.left p) in
    record {
      all = sym step ∙ (sym (ap (λ zs. is_within (drop i xs) zs) (drop_from ys j y k ey)) ∙ m.all);
      left = m.left;
      right = parts.rest;
      left_within = m.left_within;
      right_within = omega arith;
    }

pub pass_both : (xs ys : List Bound) (i j : ℕ) (x y : Bound) → IsComparing xs ys i j → i < length xs → j < length ys → get_or xs i x ≡ x → get_or ys j y ≡ y → author_before x.0 y.0 ≡ false → author_before y.0 x.0 ≡ false → x.1 ≤ y.1 → IsComparing xs ys (i + 1) (j + 1)
pass_both xs ys i j x y m l k ex ey p q u =
    let lefts = left_parts xs i x l ex m.left in
    let rights = left_parts ys j y k ey m.right in
    let same = same_between x.0 y.0 p q in
    let positive = lefts.positive in
    let here : denotes (y ∷ drop (j + 1) ys) (version x.0 x.1) ≡ true =
    up_to x y (drop (j + 1) ys) same rights.above ∙ and_from (leb 1 x.1) (leb x.1 y.1) (le-leb 1 x.1 (omega arith)) (le-leb x.1 y.1 u) in
    let step : is_within (x ∷ drop (i + 1) xs) (y ∷ drop (j + 1) ys) ≡ is_within (drop (i + 1) xs) (drop (j + 1) ys) =
    rw here (within_after (drop (i + 1) xs) y (drop (j + 1) ys) (subst (λ a. is_above a (drop (i + 1) xs) ≡ true) same lefts.above)) in
    record {
      all = sym step
          ∙ (sym (ap (λ zs. is_within (x ∷ drop (i + 1) xs) zs) (drop_from ys j y k ey))
          ∙ (sym (ap (λ zs. is_within zs (drop j ys)) (drop_from xs i x l ex)) ∙ m.all));
      left = lefts.rest;
      right = rights.rest;
      left_within = omega arith;
      right_within = omega arith;
    }

-- the first bound on the left is missing on the right
missing : (xs ys : List Bound) (i j : ℕ) (x : Bound) → IsComparing xs ys i j → i < length xs → get_or xs i x ≡ x → denotes (drop j ys) (version x.0 x.1) ≡ false → is_within xs ys ≡ false
missing xs ys i j x m l ex h =
    sym m.all
    ∙ (ap (λ zs. is_within zs (drop j ys)) (drop_from xs i x l ex)
    ∙ not_within x (drop (i + 1) xs) (drop j ys) h)

pub missing_end : (xs ys : List Bound) (i j : ℕ) → IsComparing xs ys i j → i < length xs → length ys ≤ j → is_within xs ys ≡ false
missing_end xs ys i j m l over =
    sym m.all
    ∙ (ap (λ zs. is_within (drop i xs) zs) (drop_all j ys over)
    ∙ ap (λ zs. is_within zs []) (drop_more xs i (get_or xs i (author 0, 0)) l))

pub missing_author : (xs ys : List Bound) (i j : ℕ) (x y : Bound) → IsComparing xs ys i j → i < length xs → j < length ys → get_or xs i x ≡ x → get_or ys j y ≡ y → author_before x.0 y.0 ≡ true → is_within xs ys ≡ false
missing_author xs ys i j x y m l k ex ey p =
    missing xs ys i j x m l ex (denotes-above (drop j ys) (version x.0 x.1) (before_left x.0 ys j y k ey m.right p))

pub missing_number : (xs ys : List Bound) (i j : ℕ) (x y : Bound) → IsComparing xs ys i j → i < length xs → j < length ys → get_or xs i x ≡ x → get_or ys j y ≡ y → author_before x.0 y.0 ≡ false → author_before y.0 x.0 ≡ false → y.1 < x.1 → is_within xs ys ≡ false
missing_number xs ys i j x y m l k ex ey p q u =
    let rights = left_parts ys j y k ey m.right in
    let none : denotes (y ∷ drop (j + 1) ys) (version x.0 x.1) ≡ false =
    up_to x y (drop (j + 1) ys) (same_between x.0 y.0 p q) rights.above ∙ and_right (leb 1 x.1) (leb x.1 y.1) (lt-leb x.1 y.1 u) in
    missing xs ys i j x m l ex (ap (λ zs. denotes zs (version x.0 x.1)) (drop_from ys j y k ey) ∙ none)
