-- What a vector denotes, read at the place of an author.
use Rattle.std.proofs.Common.{◌≡◌, ℕ, zero, suc, ◌+◌, ◌<◌, ◌≤◌, Bool, true, false, leb, ◌||◌, List, [], ◌∷◌, length, get_or, drop, refl, sym, subst, ap, ◌∙◌, inl, inr, arith}
use Rattle.std.specs.List.Sorted.{IsPartitionedBy, IsPartitionPoint}
use Rattle.std.proofs.lemmas.Bool.{and_parts, and_from, le-leb, false≢true}
use Rattle.std.proofs.lemmas.List.{drop_more}
use Rattle.photo_version.specs.Author.{Author, same_author, author_before}
use Rattle.photo_version.specs.Version.{Version}
use Rattle.photo_version.specs.Vector.{Bound, denotes, is_vector}
use Rattle.photo_version.proofs.AuthorLemmas.{before_from, before_trans, cases_author, same_is, same_from}
use Rattle.photo_version.proofs.VectorLemmas.{is_above, vector_parts, denotes-above, above_all}

abbrev pub stands_before : Author → Bound → Bool
stands_before a b = author_before b.0 a

-- the bounds of earlier authors come first

above_at : (a : Author) (bs : List Bound) (k : ℕ) (d : Bound) → is_above a bs ≡ true → k < length bs → author_before a (get_or bs k d).0 ≡ true
above_at a [] k d h l = absurd (omega arith)
above_at a (b ∷ bs) zero d h l = (and_parts (author_before a b.0) (is_above a bs) h).0
above_at a (b ∷ bs) (suc k) d h l = above_at a bs k d (and_parts (author_before a b.0) (is_above a bs) h).1 (omega arith)

pub partitioned : (a : Author) (bs : List Bound) → is_vector bs ≡ true → IsPartitionedBy (stands_before a) bs
partitioned a [] h i j d le l p = absurd (omega arith)
partitioned a (b ∷ bs) h zero zero d le l p = p
partitioned a (b ∷ bs) h zero (suc j) d le l p =
    let parts = vector_parts b bs h in
    before_trans b.0 (get_or bs j d).0 a (above_at b.0 bs j d parts.above (omega arith)) p
partitioned a (b ∷ bs) h (suc i) zero d le l p = absurd (omega arith)
partitioned a (b ∷ bs) h (suc i) (suc j) d le l p = partitioned a bs (vector_parts b bs h).rest i j d (omega arith) (omega arith) p

in_order_at : (bs : List Bound) (j k : ℕ) (d e : Bound) → is_vector bs ≡ true → j < k → k < length bs → author_before (get_or bs j d).0 (get_or bs k e).0 ≡ true
in_order_at [] j k d e h less l = absurd (omega arith)
in_order_at (b ∷ bs) j zero d e h less l = absurd (omega arith)
in_order_at (b ∷ bs) zero (suc k) d e h less l = above_at b.0 bs k e (vector_parts b bs h).above (omega arith)
in_order_at (b ∷ bs) (suc j) (suc k) d e h less l = in_order_at bs j k d e (vector_parts b bs h).rest (omega arith) (omega arith)

-- bounds before the author's place don't matter
denotes-from : (bs : List Bound) (n : ℕ) (v : Version) → n ≤ length bs → ((k : ℕ) (d : Bound) → k < n → author_before (get_or bs k d).0 v.author ≡ true) → denotes bs v ≡ denotes (drop n bs) v
denotes-from bs zero v l f = refl
denotes-from [] (suc n) v l f = refl
denotes-from (b ∷ bs) (suc n) v l f =
    rw ((before_from b.0 v.author (f 0 b (omega arith))).other) (denotes-from bs n v (omega arith) (λ k d h. f (suc k) d (omega arith)))

vector_left : (bs : List Bound) (n : ℕ) → is_vector bs ≡ true → is_vector (drop n bs) ≡ true
vector_left bs zero h = h
vector_left [] (suc n) h = refl
vector_left (b ∷ bs) (suc n) h = vector_left bs n (vector_parts b bs h).rest

-- the place of an author: the end of the bounds of earlier authors
pub record IsPlace (a : Author) (bs : List Bound) (n : ℕ) : Type 0 where
  pub within : n ≤ length bs
  pub vector : is_vector bs ≡ true
  pub before : (k : ℕ) (d : Bound) → k < n → author_before (get_or bs k d).0 a ≡ true
  pub rest : (k : ℕ) (d : Bound) → n ≤ k → k < length bs → author_before (get_or bs k d).0 a ≡ false

pub place_from : (a : Author) (bs : List Bound) (n : ℕ) → n ≤ length bs → is_vector bs ≡ true → IsPartitionPoint (λ b. stands_before a b ≡ true) (λ b. stands_before a b ≡ false) bs n → IsPlace a bs n
place_from a bs n l h p = record {
  within = l;
  vector = h;
  before = λ k d less. p.0 k d (omega arith) less;
  rest = λ k d le less. p.1 k d le less;
}

pub none_at_end : (bs : List Bound) (n : ℕ) (v : Version) → IsPlace v.author bs n → length bs ≤ n → denotes bs v ≡ false
none_at_end bs n v p over = denotes-from bs n v p.within p.before ∙ at_end bs n v over
  where
    at_end : (cs : List Bound) (m : ℕ) (w : Version) → length cs ≤ m → denotes (drop m cs) w ≡ false
    at_end [] zero w h = refl
    at_end [] (suc m) w h = refl
    at_end (c ∷ cs) zero w h = absurd (omega arith)
    at_end (c ∷ cs) (suc m) w h = at_end cs m w (omega arith)

or_none : (t : Bool) → (t || false) ≡ t
or_none true = refl
or_none false = refl

-- at a bound of the author, its number decides
pub number_here : (bs : List Bound) (n : ℕ) (d : Bound) (v : Version) → is_vector bs ≡ true → n < length bs → same_author (get_or bs n d).0 v.author ≡ true → 0 < v.number → denotes bs v ≡ leb v.number (get_or bs n d).1
number_here bs n d v h l s positive =
    let b = get_or bs n d in
    let author = same_is b.0 v.author s in
    let before : (k : ℕ) (e : Bound) → k < n → author_before (get_or bs k e).0 v.author ≡ true = λ k e less. subst (λ a. author_before (get_or bs k e).0 a ≡ true) author (in_order_at bs k n e d h less l) in
    let parts = vector_parts b (drop (n + 1) bs) (subst (λ zs. is_vector zs ≡ true) (drop_more bs n d l) (vector_left bs n h)) in
    let none = denotes-above (drop (n + 1) bs) v (subst (λ a. is_above a (drop (n + 1) bs) ≡ true) author parts.above) in
    denotes-from bs n v (omega arith) before
    ∙ (ap (λ zs. denotes zs v) (drop_more bs n d l)
    ∙ rw (s, le-leb 1 v.number (omega arith), none) (or_none (leb v.number b.1)))

pub none_here : (bs : List Bound) (n : ℕ) (d : Bound) (v : Version) → IsPlace v.author bs n → n < length bs → same_author (get_or bs n d).0 v.author ≡ false → denotes bs v ≡ false
none_here bs n d v p l s =
    let b = get_or bs n d in
    let parts = vector_parts b (drop (n + 1) bs) (subst (λ zs. is_vector zs ≡ true) (drop_more bs n d l) (vector_left bs n p.vector)) in
    let not_before = p.rest n d (omega arith) l in
    let after : author_before v.author b.0 ≡ true = elim (cases_author b.0 v.author) [
      | inl same ↦ absurd (false≢true (sym s ∙ same_from b.0 v.author same))
      | inr side ↦ elim side [
        | inl less ↦ absurd (false≢true (sym not_before ∙ less.before))
        | inr more ↦ more.before
      ]
    ] in
    denotes-from bs n v p.within p.before
    ∙ denotes-above (drop n bs) v (subst (λ zs. is_above v.author zs ≡ true) (sym (drop_more bs n d l))
    (and_from (author_before v.author b.0) (is_above v.author (drop (n + 1) bs)) after (above_all v.author b.0 (drop (n + 1) bs) after parts.above)))
