-- Vectors are determined by what they denote.
use Rattle.std.proofs.Common.{◌≡◌, ℕ, ◌<◌, ◌≤◌, true, leb, ltb, ◌&&◌, List, [], ◌∷◌, refl, sym, ◌∙◌, arith}
use Rattle.std.specs.List.{list_all}
use Rattle.std.proofs.lemmas.Bool.Decides.{nat_tests}
use Rattle.photo_version.specs.Author.{author_word, author_of_word}
use Rattle.photo_version.specs.Version.{Version}
use Rattle.item_knowledge.specs.Entries.{Entry, denotes, is_entry, is_vector, bound}

pub record VectorParts (e : Entry) (es : List Entry) : Type 0 where
  pub entry : is_entry e ≡ true
  pub positive : 0 < e.1
  pub above : list_all (λ (f : Entry). ltb e.0 f.0) es ≡ true
  pub rest : is_vector es ≡ true

pub vector_parts : (e : Entry) (es : List Entry) → is_vector (e ∷ es) ≡ true → VectorParts e es
vector_parts e es h = grind (arith, nat_tests)

-- an author below all has no bound
pub bound_below : (es : List Entry) (a b : ℕ) → b ≤ a → list_all (λ (f : Entry). ltb a f.0) es ≡ true → bound es b ≡ 0
bound_below [] a b l h = refl
bound_below (e ∷ es) a b l h = grind (arith, nat_tests, bound_below es a b l)

-- a vector denotes, of each author, the versions up to its bound
pub denotes-bound : (es : List Entry) (v : Version) → is_vector es ≡ true → denotes es v ≡ (leb 1 v.number && leb v.number (bound es (author_word v.author)))
denotes-bound [] v h = grind (arith, nat_tests)
denotes-bound (e ∷ es) v h = let p = vector_parts e es h in grind (arith, nat_tests, denotes-bound es v p.rest, bound_below es e.0 (author_word v.author))

-- the bounds are determined by what a vector denotes
pub bound_by : (xs ys : List Entry) → is_vector xs ≡ true → is_vector ys ≡ true → ((v : Version) → denotes xs v ≡ true → denotes ys v ≡ true) → (a : ℕ) → bound xs a ≤ bound ys a
bound_by xs ys hx hy h a =
    let v : Version = record { author = author_of_word a; number = bound xs a } in
    grind (arith, nat_tests, denotes-bound xs v hx, denotes-bound ys v hy, h v)

-- vectors with the same bounds are one
pub one_by_bounds : (xs ys : List Entry) → is_vector xs ≡ true → is_vector ys ≡ true → ((a : ℕ) → bound xs a ≡ bound ys a) → xs ≡ ys
one_by_bounds [] [] hx hy h = refl
one_by_bounds [] (y ∷ ys) hx hy h = let p = vector_parts y ys hy in absurd (grind (arith, nat_tests, h y.0))
one_by_bounds (x ∷ xs) [] hx hy h = let p = vector_parts x xs hx in absurd (grind (arith, nat_tests, h x.0))
one_by_bounds (x ∷ xs) (y ∷ ys) hx hy h =
    let p = vector_parts x xs hx in
    let q = vector_parts y ys hy in
    let word : x.0 ≡ y.0 = grind (arith, nat_tests, h x.0, h y.0, bound_below xs x.0 y.0, bound_below ys y.0 x.0) in
    let number : x.1 ≡ y.1 = grind (arith, nat_tests, h x.0) in
    let tails : (a : ℕ) → bound xs a ≡ bound ys a = λ a. grind (arith, nat_tests, h a, bound_below xs x.0 a, bound_below ys y.0 a) in
    λ i. (word i, number i) ∷ one_by_bounds xs ys p.rest q.rest tails i

-- what a vector denotes determines it
pub one_vector : (xs ys : List Entry) → is_vector xs ≡ true → is_vector ys ≡ true → ((v : Version) → denotes xs v ≡ denotes ys v) → xs ≡ ys
one_vector xs ys hx hy h = one_by_bounds xs ys hx hy (λ a. omega (arith, bound_by xs ys hx hy (λ v d. sym (h v) ∙ d) a, bound_by ys xs hy hx (λ v d. h v ∙ d) a))
