-- What is kept denotes what is known.
use Rattle.std.proofs.Common.{◌≡◌, ℕ, ◌+◌, ◌<◌, Bool, true, false, leb, ltb, max, cond, ◌||◌, ◌↔◌, List, [], ◌∷◌, length, refl, sym, subst, ap, ◌∙◌, arith}
use Rattle.std.specs.List.{list_all}
use Rattle.std.proofs.Math.Bool.{or-true, or_comm}
use Rattle.std.proofs.lemmas.Bool.{and_from, false≢true}
use Rattle.std.proofs.lemmas.Bool.Decides.{nat_tests}
use Rattle.photo_version.specs.Author.{Author, same_author, author_word}
use Rattle.photo_version.specs.Version.{Version, same_version}
use Rattle.item_knowledge.specs.Tables.{keys_pass, in_order, at}
use Rattle.item_knowledge.specs.Entries.{Entry, denotes, is_vector, bound, leq}
use Rattle.item_knowledge.specs.Fragments.{Fragment, knows, IsWithin, is_normal, entries_at}
use Rattle.item_knowledge.specs.Rows.{fragments_of}
use Rattle.item_knowledge.specs.Gathering.{vector_of, IsOperand, IsUnion}
use Rattle.item_knowledge.specs.Spare.{IsJoined}
use Rattle.item_knowledge.specs.Kept.{IsKept, is_operand_within, IsOperandKnown, star_bound}
use Rattle.item_knowledge.proofs.EntryLemmas.{bound_by, denotes-bound}
use Rattle.item_knowledge.proofs.FragmentLemmas.{normal_parts, leq_at, leq_denotes, star_of_every}
use Rattle.item_knowledge.proofs.JoinLemmas.{leq_from}
use Rattle.item_knowledge.proofs.UnionLemmas.{above, number_below, operand_vector, normal_operand, knows_vector}

pub kept_operand : (rows : List (List ℕ)) (xs : List (ℕ × ℕ)) → IsKept rows xs → IsOperand (fragments_of rows) xs
kept_operand rows xs h = normal_operand (fragments_of rows) xs h.normal h.index

pub kept_knows : (rows : List (List ℕ)) (xs : List (ℕ × ℕ)) (p : ℕ) (v : Version) → IsKept rows xs → knows (fragments_of rows) p v ≡ denotes (vector_of (fragments_of rows) xs p) v
kept_knows rows xs p v h = knows_vector (fragments_of rows) p v h.normal ∙ ap (λ es. denotes es v) (sym (h.index.vectors p))

-- the fragment to which the index leads
pub record IsOf (fs now : List Fragment) (p n : ℕ) : Type 0 where
  pub there : n < length fs
  pub vector : is_vector (entries_at fs n) ≡ true
  pub known : (v : Version) → denotes (entries_at fs n) v ≡ knows now p v

pub is_of : (rows : List (List ℕ)) (xs : List (ℕ × ℕ)) (now : List Fragment) (p n : ℕ) → IsKept rows xs → fragments_of rows ≡ now → n ≡ at 0 xs p → IsOf (fragments_of rows) now p n
is_of rows xs now p n h is e = grind (arith, number_below (fragments_of rows) xs p (kept_operand rows xs h), operand_vector (fragments_of rows) xs p (kept_operand rows xs h), λ (v : Version). kept_knows rows xs p v h)

-- the same by what is known
pub number_known : (rows : List (List ℕ)) (xs : List (ℕ × ℕ)) (now : List Fragment) (p n : ℕ) → IsKept rows xs → fragments_of rows ≡ now → n ≡ at 0 xs p → n < length now
number_known rows xs now p n h is e = subst (λ fs. n < length fs) is (is_of rows xs now p n h is e).there

pub has_known : (rows : List (List ℕ)) (xs : List (ℕ × ℕ)) (now : List Fragment) (p n : ℕ) (v : Version) → IsKept rows xs → fragments_of rows ≡ now → n ≡ at 0 xs p → 0 < v.number → leb v.number (bound (entries_at now n) (author_word v.author)) ≡ knows now p v
has_known rows xs now p n v h is e z =
    let of = is_of rows xs now p n h is e in
    grind (arith, nat_tests, of.known v, denotes-bound (entries_at (fragments_of rows) n) v of.vector)

-- the vector of a fragment
pub kept_vector : (rows : List (List ℕ)) (xs : List (ℕ × ℕ)) (k : ℕ) → IsKept rows xs → k < length (fragments_of rows) → is_vector (entries_at (fragments_of rows) k) ≡ true
kept_vector rows xs k h l = (above (fragments_of rows) xs k (kept_operand rows xs h) l).vector

-- what is known after a union
pub joins : (rows : List (List ℕ)) (xs : List (ℕ × ℕ)) (now gs us : List Fragment) (ys zs : List (ℕ × ℕ)) → IsKept rows xs → fragments_of rows ≡ now → IsUnion (fragments_of rows) xs gs ys us zs → IsJoined now gs ys us
joins rows xs now gs us ys zs h is u = grind (arith, u.star, u.pairs, λ (p : ℕ) (v : Version). kept_knows rows xs p v h)

-- Inclusion

pub leq_trans : (xs ys zs : List Entry) → is_vector xs ≡ true → leq xs ys ≡ true → leq ys zs ≡ true → leq xs zs ≡ true
leq_trans xs ys zs h l m = leq_from xs zs h (λ a. omega (arith, leq_at xs ys a l, leq_at ys zs a m))

leq_along : (fs gs : List Fragment) (ys : List (ℕ × ℕ)) (p : ℕ) (xs : List (ℕ × ℕ)) → list_all (λ r. leq (entries_at fs r.1) (vector_of gs ys r.0)) xs ≡ true → leq (entries_at fs 0) (vector_of gs ys p) ≡ true → leq (entries_at fs (at 0 xs p)) (vector_of gs ys p) ≡ true
leq_along fs gs ys p [] h s = s
leq_along fs gs ys p (x ∷ xs) h s = grind (arith, nat_tests, leq_along fs gs ys p xs)

within_leq : (fs gs : List Fragment) (xs ys : List (ℕ × ℕ)) (p : ℕ) → IsOperand fs xs → IsOperand gs ys → is_operand_within fs xs gs ys ≡ true → leq (vector_of fs xs p) (vector_of gs ys p) ≡ true
within_leq fs gs xs ys p h g w =
    leq_along fs gs ys p xs (grind (arith, nat_tests))
    (leq_trans (entries_at fs 0) (entries_at gs 0) (vector_of gs ys p) (above fs xs 0 h h.star).vector (grind (arith, nat_tests)) (above gs ys (at 0 ys p) g (number_below gs ys p g)).above)

-- what is known already adds nothing
within_denotes : (rows : List (List ℕ)) (xs ys : List (ℕ × ℕ)) (gs : List Fragment) → IsKept rows xs → IsOperand gs ys → is_operand_within gs ys (fragments_of rows) xs ≡ true
    → (p : ℕ) (v : Version) → knows (fragments_of rows) p v ≡ (knows (fragments_of rows) p v || denotes (vector_of gs ys p) v)
within_denotes rows xs ys gs h t w p v =
    let s = kept_operand rows xs h in
    grind (arith, kept_knows rows xs p v h, or_comm (denotes (vector_of gs ys p) v) (denotes (vector_of (fragments_of rows) xs p) v), leq_denotes (vector_of gs ys p) (vector_of (fragments_of rows) xs p) v (operand_vector gs ys p t) (operand_vector (fragments_of rows) xs p s) (within_leq gs (fragments_of rows) ys xs p t s w))

-- nor does a star that is within another
star_within : (fs gs : List Fragment) (xs ys : List (ℕ × ℕ)) (a : Author) → is_operand_within fs xs gs ys ≡ true → star_bound gs a ≡ max (star_bound gs a) (star_bound fs a)
star_within fs gs xs ys a w = grind (arith, nat_tests, leq_at (entries_at fs 0) (entries_at gs 0) (author_word a))

-- so it is what is known after the union
pub joins_none : (rows : List (List ℕ)) (xs ys : List (ℕ × ℕ)) (now gs : List Fragment) → IsKept rows xs → fragments_of rows ≡ now → IsOperand gs ys → is_operand_within gs ys (fragments_of rows) xs ≡ true → IsJoined now gs ys (fragments_of rows)
joins_none rows xs ys now gs h is t w = grind (arith, λ (a : Author). star_within gs (fragments_of rows) ys xs a w, within_denotes rows xs ys gs h t w)

-- a vector is at most another that denotes all that it denotes
leq_by : (xs ys : List Entry) → is_vector xs ≡ true → is_vector ys ≡ true → ((v : Version) → denotes xs v ≡ true → denotes ys v ≡ true) → leq xs ys ≡ true
leq_by xs ys hx hy h = leq_from xs ys hx (λ a. bound_by xs ys hx hy h a)

-- a test of all rows of a table in order is one of all that stand beside a number
each_row : (test : ℕ × ℕ → Bool) (xs : List (ℕ × ℕ)) (m : ℕ) → keys_pass (λ k. ltb m k) xs ≡ true → in_order xs ≡ true → ((r : ℕ × ℕ) → m < r.0 → at 0 xs r.0 ≡ r.1 → test r ≡ true) → list_all test xs ≡ true
each_row test [] m k o h = refl
each_row test (x ∷ xs) m k o h = grind (arith, nat_tests, h x, each_row test xs x.0, (λ (r : ℕ × ℕ) (l : x.0 < r.0) (e : at 0 xs r.0 ≡ r.1). h r (grind (arith, nat_tests)) (grind (arith, nat_tests))))

-- the star's vector, and what it has
pub star_vector : (fs : List Fragment) → is_normal fs ≡ true → is_vector (entries_at fs 0) ≡ true
star_vector [] h = absurd (false≢true h)
star_vector (s ∷ gs) h = (normal_parts s gs h).vector

-- what an operand's star has each of its vectors has
star_up : (gs : List Fragment) (ys : List (ℕ × ℕ)) (p : ℕ) (v : Version) → IsOperand gs ys → denotes (entries_at gs 0) v ≡ true → denotes (vector_of gs ys p) v ≡ true
star_up gs ys p v g d = grind (arith, leq_denotes (entries_at gs 0) (vector_of gs ys p) v (above gs ys 0 g g.star).vector (operand_vector gs ys p g) (above gs ys (at 0 ys p) g (number_below gs ys p g)).above)

-- an operand is within what is kept where all that it denotes is known
within_operand : (rows : List (List ℕ)) (xs ys : List (ℕ × ℕ)) (gs : List Fragment) → IsKept rows xs → IsOperand gs ys → IsOperandKnown (fragments_of rows) gs ys → is_operand_within gs ys (fragments_of rows) xs ≡ true
within_operand rows xs ys gs h g all =
    let fs = fragments_of rows in
    and_from _ _
    (leq_by (entries_at gs 0) (entries_at fs 0) (above gs ys 0 g g.star).vector (star_vector fs h.normal) (λ v d. (star_of_every fs h.normal v).1 (λ p z. all p v z (star_up gs ys p v g d))))
    (each_row (λ r. leq (entries_at gs r.1) (vector_of fs xs r.0)) ys 0 g.positive g.order (λ r z e.
    subst (λ n. leq (entries_at gs n) (vector_of fs xs r.0) ≡ true) e
    (leq_by (vector_of gs ys r.0) (vector_of fs xs r.0) (operand_vector gs ys r.0 g) (operand_vector fs xs r.0 (kept_operand rows xs h))
    (λ v d. sym (kept_knows rows xs r.0 v h) ∙ all r.0 v z d))))

-- what is kept is known as an operand where what it denotes is known
pub known_operand : (now : List Fragment) (others : List (List ℕ)) (ys : List (ℕ × ℕ)) → IsKept others ys → IsWithin (fragments_of others) now → IsOperandKnown now (fragments_of others) ys
known_operand now others ys g all = λ p v z d. all p v z (kept_knows others ys p v g ∙ d)

-- so an operand that isn't within what is kept isn't known
pub not_known : (rows : List (List ℕ)) (xs ys : List (ℕ × ℕ)) (now gs : List Fragment) → IsKept rows xs → fragments_of rows ≡ now → IsOperand gs ys → is_operand_within gs ys (fragments_of rows) xs ≡ false → IsOperandKnown now gs ys → ⊥
not_known rows xs ys now gs h is g outside all =
    false≢true (sym outside ∙ within_operand rows xs ys gs h g (subst (λ fs. IsOperandKnown fs gs ys) (sym is) all))

pub within_pairs : (rows others : List (List ℕ)) (xs ys : List (ℕ × ℕ)) → IsKept rows xs → IsKept others ys → (is_operand_within (fragments_of others) ys (fragments_of rows) xs ≡ true) ↔ ((p : ℕ) (v : Version) → 0 < p → knows (fragments_of others) p v ≡ true → knows (fragments_of rows) p v ≡ true)
within_pairs rows others xs ys h g =
    let operand = kept_operand others ys g in (
      λ w p v z k. within_denotes rows xs ys (fragments_of others) h operand w p v ∙ (ap (λ b. knows (fragments_of rows) p v || b) (sym (kept_knows others ys p v g) ∙ k) ∙ or-true (knows (fragments_of rows) p v)),
      λ all. within_operand rows xs ys (fragments_of others) h operand (known_operand (fragments_of rows) others ys g all),
    )

-- The star's next version

-- an author's versions up to the next one are those that the star has, and the next one
pub next_known : (fs : List Fragment) (w : Version) (p : ℕ) (v : Version) → is_normal fs ≡ true → 0 < p → w.number ≡ star_bound fs w.author + 1 → (knows fs p v || denotes ((author_word w.author, w.number) ∷ []) v) ≡ (knows fs p v || same_version w v)
next_known fs w p v h z e =
    let every : denotes (entries_at fs 0) v ≡ true → knows fs p v ≡ true = λ d. (star_of_every fs h v).0 d p z in
    grind (arith, nat_tests, every, denotes-bound (entries_at fs 0) v (star_vector fs h))

-- The star's bounds

pub star_next : (fs : List Fragment) (w a : Author) (n : ℕ) → n ≡ star_bound fs w + 1 → max (star_bound fs a) (bound ((author_word w, n) ∷ []) (author_word a)) ≡ cond (same_author w a) n (star_bound fs a)
star_next fs w a n e = grind (arith, nat_tests)
