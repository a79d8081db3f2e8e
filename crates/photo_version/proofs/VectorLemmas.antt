-- Vectors and what they denote.
use Rattle.std.proofs.Common.{◌≡◌, ℕ, zero, suc, ◌<◌, ◌≤◌, length, get_or, Bool, true, false, leb, ltb, cond, max, ◌&&◌, ◌||◌, List, [], ◌∷◌, refl, sym, subst, ap, ◌∙◌, ◌↔◌, inl, inr, arith}
use Rattle.std.specs.List.{list_all}
use Rattle.std.proofs.lemmas.Bool.{and_parts, and_from, lt-ltb, ltb-true, le-leb, leb-true, or_cases, or_left, or_right, false≢true}
use Rattle.std.specs.Bool.{Decides}
use Rattle.std.proofs.lemmas.Bool.Decides.{nat_tests, Decides-and, Decides-eqb, Decides-like}
use Rattle.std.proofs.lemmas.Slice.Eq.{slice_eq-Decides}
use Rattle.photo_version.specs.Author.{Author, same_author, author_before}
use Rattle.photo_version.specs.Version.{Version, version}
use Rattle.photo_version.specs.Vector.{Bound, reaches, denotes, is_vector, raised, joined, is_within, same_bound, same_bounds}
use Rattle.photo_version.proofs.AuthorLemmas.{Before, before_from, cases_author, before_trans, same_from, same_is, not_before_same}

-- the author stands before those of all the bounds
abbrev pub is_above : Author → List Bound → Bool
is_above a bounds = list_all (λ (c : Bound). author_before a c.0) bounds

pub record VectorParts (b : Bound) (bs : List Bound) : Type 0 where
  pub positive : 0 < b.1
  pub above : is_above b.0 bs ≡ true
  pub rest : is_vector bs ≡ true

pub vector_parts : (b : Bound) (bs : List Bound) → is_vector (b ∷ bs) ≡ true → VectorParts b bs
vector_parts b bs h =
    let p = and_parts (ltb 0 b.1) (is_above b.0 bs && is_vector bs) h in
    let q = and_parts (is_above b.0 bs) (is_vector bs) p.1 in
    record { positive = ltb-true 0 b.1 p.0; above = q.0; rest = q.1 }

pub vector_from : (b : Bound) (bs : List Bound) → 0 < b.1 → is_above b.0 bs ≡ true → is_vector bs ≡ true → is_vector (b ∷ bs) ≡ true
vector_from b bs p a r = and_from (ltb 0 b.1) (is_above b.0 bs && is_vector bs) (lt-ltb 0 b.1 p) (and_from (is_above b.0 bs) (is_vector bs) a r)

pub above_all : (a b : Author) (cs : List Bound) → author_before a b ≡ true → is_above b cs ≡ true → is_above a cs ≡ true
above_all a b [] h g = refl
above_all a b (c ∷ cs) h g =
    let p = and_parts (author_before b c.0) (is_above b cs) g in
    and_from (author_before a c.0) (is_above a cs) (before_trans a b c.0 h p.0) (above_all a b cs h p.1)

-- an author before all bounds has no version in the set
pub denotes-above : (bs : List Bound) (v : Version) → is_above v.author bs ≡ true → denotes bs v ≡ false
denotes-above [] v h = refl
denotes-above (b ∷ bs) v h =
    let p = and_parts (author_before v.author b.0) (is_above v.author bs) h in
    rw ((before_from v.author b.0 p.0).other_back) (denotes-above bs v p.1)

-- The number of an author's last version, 0 if it has none

abbrev last : List Bound → Author → ℕ
last [] a = 0
last (b ∷ bs) a = cond (same_author b.0 a) b.1 (last bs a)

last_here : (b : Bound) (bs : List Bound) (a : Author) → b.0 ≡ a → last (b ∷ bs) a ≡ b.1
last_here b bs a e = rw (same_from b.0 a e) refl

last_other : (b : Bound) (bs : List Bound) (a : Author) → same_author b.0 a ≡ false → last (b ∷ bs) a ≡ last bs a
last_other b bs a e = rw e refl

last_above : (bs : List Bound) (a : Author) → is_above a bs ≡ true → last bs a ≡ 0
last_above [] a h = refl
last_above (b ∷ bs) a h =
    let p = and_parts (author_before a b.0) (is_above a bs) h in
    last_other b bs a (before_from a b.0 p.0).other_back ∙ last_above bs a p.1

no_more : (n : ℕ) → false ≡ (leb 1 n && leb n 0)
no_more n = grind (arith, nat_tests)

up_to : (n m : ℕ) → ((leb 1 n && leb n m) || (leb 1 n && leb n 0)) ≡ (leb 1 n && leb n m)
up_to n m = grind (arith, nat_tests)

-- a vector has, of each author, the versions up to its last
denotes-last : (bs : List Bound) (v : Version) → is_vector bs ≡ true → denotes bs v ≡ (leb 1 v.number && leb v.number (last bs v.author))
denotes-last [] v h = no_more v.number
denotes-last (b ∷ bs) v h =
    let p = vector_parts b bs h in
    let rest = denotes-last bs v p.rest in
    elim (cases_author b.0 v.author) [
      | inl same ↦
          let none = last_above bs v.author (subst (λ a. is_above a bs ≡ true) same p.above) in
          rw (same_from b.0 v.author same, rest, none) (up_to v.number b.1)
      | inr side ↦ elim side [
        | inl less ↦ rw less.other rest
        | inr more ↦ rw more.other_back rest
      ]
    ]

lasts_le : (xs ys : List Bound) → is_vector xs ≡ true → is_vector ys ≡ true → ((v : Version) → denotes xs v ≡ denotes ys v) → (a : Author) → last xs a ≤ last ys a
lasts_le xs ys hx hy h a =
    let v = version a (last xs a) in
    within_last (last xs a) (last ys a) (sym (denotes-last xs v hx) ∙ (h v ∙ denotes-last ys v hy))
  where
    within_last : (m n : ℕ) → (leb 1 m && leb m m) ≡ (leb 1 m && leb m n) → m ≤ n
    within_last m n e = grind (arith, nat_tests, e)

same_lasts : (xs ys : List Bound) → is_vector xs ≡ true → is_vector ys ≡ true → ((v : Version) → denotes xs v ≡ denotes ys v) → (a : Author) → last xs a ≡ last ys a
same_lasts xs ys hx hy h a =
    let le = lasts_le xs ys hx hy h a in
    let ge = lasts_le ys xs hy hx (λ v. sym (h v)) a in
    omega arith

one_by_lasts : (xs ys : List Bound) → is_vector xs ≡ true → is_vector ys ≡ true → ((a : Author) → last xs a ≡ last ys a) → xs ≡ ys
one_by_lasts [] [] hx hy h = refl
one_by_lasts [] (y ∷ ys) hx hy h =
    let p = vector_parts y ys hy in
    let e : 0 ≡ y.1 = h y.0 ∙ last_here y ys y.0 refl in
    absurd (omega (arith, p.positive))
one_by_lasts (x ∷ xs) [] hx hy h =
    let p = vector_parts x xs hx in
    let e : 0 ≡ x.1 = sym (h x.0) ∙ last_here x xs x.0 refl in
    absurd (omega (arith, p.positive))
one_by_lasts (x ∷ xs) (y ∷ ys) hx hy h =
    let p = vector_parts x xs hx in
    let q = vector_parts y ys hy in
    elim (cases_author x.0 y.0) [
      | inl same ↦
          let e : x.1 ≡ y.1 = sym (last_here x xs x.0 refl) ∙ (h x.0 ∙ last_here y ys x.0 (sym same)) in
          let tails : (a : Author) → last xs a ≡ last ys a = λ a. elim (cases_author x.0 a) [
            | inl here ↦
                last_above xs a (subst (λ b. is_above b xs ≡ true) here p.above)
                ∙ sym (last_above ys a (subst (λ b. is_above b ys ≡ true) (sym same ∙ here) q.above))
            | inr side ↦
                let other : same_author x.0 a ≡ false = elim side [ inl less ↦ less.other | inr more ↦ more.other_back ] in
                sym (last_other x xs a other) ∙ (h a ∙ last_other y ys a (subst (λ b. same_author b a ≡ false) same other))
          ] in
          let rest = one_by_lasts xs ys p.rest q.rest tails in
          λ i. (same i, e i) ∷ rest i
      | inr side ↦ elim side [
        | inl less ↦
            let none = last_above (y ∷ ys) x.0 (and_from (author_before x.0 y.0) (is_above x.0 ys) less.before (above_all x.0 y.0 ys less.before q.above)) in
            let e : x.1 ≡ 0 = sym (last_here x xs x.0 refl) ∙ (h x.0 ∙ none) in
            absurd (omega (arith, p.positive))
        | inr more ↦
            let none = last_above (x ∷ xs) y.0 (and_from (author_before y.0 x.0) (is_above y.0 xs) more.before (above_all y.0 x.0 xs more.before p.above)) in
            let e : y.1 ≡ 0 = sym (last_here y ys y.0 refl) ∙ (sym (h y.0) ∙ none) in
            absurd (omega (arith, q.positive))
      ]
    ]

-- vectors that denote the same versions are equal
pub one_vector : (xs ys : List Bound) → is_vector xs ≡ true → is_vector ys ≡ true → ((v : Version) → denotes xs v ≡ denotes ys v) → xs ≡ ys
one_vector xs ys hx hy h = one_by_lasts xs ys hx hy (same_lasts xs ys hx hy h)

-- The place of a new bound

pub raised_less : (b c : Bound) (cs : List Bound) → Before b.0 c.0 → raised b (c ∷ cs) ≡ b ∷ c ∷ cs
raised_less b c cs p = rw p.before refl

pub raised_same : (b c : Bound) (cs : List Bound) → b.0 ≡ c.0 → raised b (c ∷ cs) ≡ (b.0, max b.1 c.1) ∷ cs
raised_same b c cs e = rw (not_before_same b.0 c.0 e, same_from b.0 c.0 e) refl

pub raised_more : (b c : Bound) (cs : List Bound) → Before c.0 b.0 → raised b (c ∷ cs) ≡ c ∷ raised b cs
raised_more b c cs p = rw (p.not_after, p.other_back) refl

pub raised_first : (b : Bound) (cs : List Bound) → is_above b.0 cs ≡ true → raised b cs ≡ b ∷ cs
raised_first b [] h = refl
raised_first b (c ∷ cs) h = raised_less b c cs (before_from b.0 c.0 (and_parts (author_before b.0 c.0) (is_above b.0 cs) h).0)

-- The union

leb_max : (n x y : ℕ) → leb n (max x y) ≡ (leb n x || leb n y)
leb_max n x y = grind (arith, nat_tests)

or_greater : (s f g h rest : Bool) → ((s && (f && (g || h))) || rest) ≡ ((s && (f && g)) || ((s && (f && h)) || rest))
or_greater true true true h rest = refl
or_greater true true false h rest = refl
or_greater true false g h rest = refl
or_greater false f g h rest = refl

or_swap : (x y z : Bool) → (x || (y || z)) ≡ (y || (x || z))
or_swap true true z = refl
or_swap true false z = refl
or_swap false y z = refl

or_assoc : (x y z : Bool) → (x || (y || z)) ≡ ((x || y) || z)
or_assoc true y z = refl
or_assoc false y z = refl

or_same : (x y : Bool) → (x ≡ true → y ≡ true) → (y || x) ≡ y
or_same x true h = refl
or_same true false h = sym (h refl)
or_same false false h = refl

or_same_left : (x y : Bool) → (x ≡ true → y ≡ true) → (x || y) ≡ y
or_same_left true y h = sym (h refl)
or_same_left false y h = refl

denotes-raised : (b : Bound) (cs : List Bound) (v : Version) → denotes (raised b cs) v ≡ (reaches b v || denotes cs v)
denotes-raised b [] v = refl
denotes-raised b (c ∷ cs) v = elim (cases_author b.0 c.0) [
  | inl same ↦
      let n = v.number in
      ap (λ es. denotes es v) (raised_same b c cs same)
      ∙ (ap (λ t. (same_author b.0 v.author && (leb 1 n && t)) || denotes cs v) (leb_max n b.1 c.1)
      ∙ (or_greater (same_author b.0 v.author) (leb 1 n) (leb n b.1) (leb n c.1) (denotes cs v)
      ∙ ap (λ (a : Author). reaches b v || (reaches (a, c.1) v || denotes cs v)) same))
  | inr side ↦ elim side [
    | inl less ↦ ap (λ es. denotes es v) (raised_less b c cs less)
    | inr more ↦
        ap (λ es. denotes es v) (raised_more b c cs more)
        ∙ (ap (λ t. reaches c v || t) (denotes-raised b cs v)
        ∙ or_swap (reaches c v) (reaches b v) (denotes cs v))
  ]
]

pub denotes-joined : (bs cs : List Bound) (v : Version) → denotes (joined bs cs) v ≡ (denotes bs v || denotes cs v)
denotes-joined [] cs v = refl
denotes-joined (b ∷ bs) cs v =
    denotes-raised b (joined bs cs) v
    ∙ (ap (λ t. reaches b v || t) (denotes-joined bs cs v)
    ∙ or_assoc (reaches b v) (denotes bs v) (denotes cs v))

pub raised_above : (a : Author) (b : Bound) (cs : List Bound) → author_before a b.0 ≡ true → is_above a cs ≡ true → is_above a (raised b cs) ≡ true
raised_above a b [] p h = and_from (author_before a b.0) true p refl
raised_above a b (c ∷ cs) p h =
    let q = and_parts (author_before a c.0) (is_above a cs) h in
    elim (cases_author b.0 c.0) [
      | inl same ↦ rw (raised_same b c cs same) (and_from (author_before a b.0) (is_above a cs) p q.1)
      | inr side ↦ elim side [
        | inl less ↦ rw (raised_less b c cs less) (and_from (author_before a b.0) (is_above a (c ∷ cs)) p h)
        | inr more ↦ rw (raised_more b c cs more) (and_from (author_before a c.0) (is_above a (raised b cs)) q.0 (raised_above a b cs p q.1))
      ]
    ]

raised_vector : (b : Bound) (cs : List Bound) → 0 < b.1 → is_vector cs ≡ true → is_vector (raised b cs) ≡ true
raised_vector b [] p h = vector_from b [] p refl refl
raised_vector b (c ∷ cs) p h =
    let q = vector_parts c cs h in
    elim (cases_author b.0 c.0) [
      | inl same ↦ rw (raised_same b c cs same) (vector_from (b.0, max b.1 c.1) cs (positive_max b.1 c.1 p) (subst (λ a. is_above a cs ≡ true) (sym same) q.above) q.rest)
      | inr side ↦ elim side [
        | inl less ↦ rw (raised_less b c cs less) (vector_from b (c ∷ cs) p (and_from (author_before b.0 c.0) (is_above b.0 cs) less.before (above_all b.0 c.0 cs less.before q.above)) h)
        | inr more ↦ rw (raised_more b c cs more) (vector_from c (raised b cs) q.positive (raised_above c.0 b cs more.before q.above) (raised_vector b cs p q.rest))
      ]
    ]
  where
    positive_max : (m n : ℕ) → 0 < m → 0 < max m n
    positive_max m n h = omega arith

pub joined_above : (a : Author) (bs cs : List Bound) → is_above a bs ≡ true → is_above a cs ≡ true → is_above a (joined bs cs) ≡ true
joined_above a [] cs h g = g
joined_above a (b ∷ bs) cs h g =
    let p = and_parts (author_before a b.0) (is_above a bs) h in
    raised_above a b (joined bs cs) p.0 (joined_above a bs cs p.1 g)

pub joined_vector : (bs cs : List Bound) → is_vector bs ≡ true → is_vector cs ≡ true → is_vector (joined bs cs) ≡ true
joined_vector [] cs h g = g
joined_vector (b ∷ bs) cs h g =
    let p = vector_parts b bs h in
    raised_vector b (joined bs cs) p.positive (joined_vector bs cs p.rest g)

-- Inclusion

-- the parts of the test that a bound reaches a version
reached : (b : Bound) (v : Version) → reaches b v ≡ true → (b.0 ≡ v.author) × ((1 ≤ v.number) × (v.number ≤ b.1))
reached b v h =
    let p = and_parts (same_author b.0 v.author) (leb 1 v.number && leb v.number b.1) h in
    let q = and_parts (leb 1 v.number) (leb v.number b.1) p.1 in
    (same_is b.0 v.author p.0, (leb-true 1 v.number q.0, leb-true v.number b.1 q.1))

reaches_from : (b : Bound) (v : Version) → b.0 ≡ v.author → 1 ≤ v.number → v.number ≤ b.1 → reaches b v ≡ true
reaches_from b v e l u = and_from (same_author b.0 v.author) (leb 1 v.number && leb v.number b.1) (same_from b.0 v.author e) (and_from (leb 1 v.number) (leb v.number b.1) (le-leb 1 v.number l) (le-leb v.number b.1 u))

-- with a version a vector has all earlier ones of its author
denotes-earlier : (cs : List Bound) (a : Author) (m n : ℕ) → 1 ≤ m → m ≤ n → denotes cs (version a n) ≡ true → denotes cs (version a m) ≡ true
denotes-earlier [] a m n l u h = h
denotes-earlier (c ∷ cs) a m n l u h = elim (or_cases (reaches c (version a n)) (denotes cs (version a n)) h) [
  | inl here ↦
      let r = reached c (version a n) here in
      let top : n ≤ c.1 = r.1.1 in
      or_left (reaches c (version a m)) (denotes cs (version a m)) (reaches_from c (version a m) r.0 l (omega arith))
  | inr later ↦ or_right (reaches c (version a m)) (denotes cs (version a m)) (denotes-earlier cs a m n l u later)
]

within_denotes : (bs cs : List Bound) → is_within bs cs ≡ true → (v : Version) → denotes bs v ≡ true → denotes cs v ≡ true
within_denotes [] cs h v d = absurd (false≢true d)
within_denotes (b ∷ bs) cs h v d =
    let p = and_parts (denotes cs (version b.0 b.1)) (is_within bs cs) h in
    elim (or_cases (reaches b v) (denotes bs v) d) [
      | inl here ↦
          let r = reached b v here in
          denotes-earlier cs v.author v.number b.1 r.1.0 r.1.1 (subst (λ a. denotes cs (version a b.1) ≡ true) r.0 p.0)
      | inr later ↦ within_denotes bs cs p.1 v later
    ]

within_from : (bs cs : List Bound) → is_vector bs ≡ true → ((v : Version) → denotes bs v ≡ true → denotes cs v ≡ true) → is_within bs cs ≡ true
within_from [] cs h f = refl
within_from (b ∷ bs) cs h f =
    let p = vector_parts b bs h in
    let here = reaches_from b (version b.0 b.1) refl p.positive (omega arith) in
    and_from (denotes cs (version b.0 b.1)) (is_within bs cs)
    (f (version b.0 b.1) (or_left (reaches b (version b.0 b.1)) (denotes bs (version b.0 b.1)) here))
    (within_from bs cs p.rest (λ v d. f v (or_right (reaches b v) (denotes bs v) d)))

pub within_inclusion : (bs cs : List Bound) → is_vector bs ≡ true → (is_within bs cs ≡ true) ↔ ((v : Version) → denotes bs v ≡ true → denotes cs v ≡ true)
within_inclusion bs cs h = (within_denotes bs cs, within_from bs cs h)

-- the union with a set that is included already

pub joined_within : (bs cs : List Bound) → is_vector bs ≡ true → is_vector cs ≡ true → is_within cs bs ≡ true → bs ≡ joined bs cs
joined_within bs cs h g w = one_vector bs (joined bs cs) h (joined_vector bs cs h g) (λ v. sym (denotes-joined bs cs v ∙ or_same (denotes cs v) (denotes bs v) (within_denotes cs bs w v)))

pub within_joined : (bs cs : List Bound) → is_vector bs ≡ true → is_vector cs ≡ true → is_within bs cs ≡ true → cs ≡ joined bs cs
within_joined bs cs h g w = one_vector cs (joined bs cs) g (joined_vector bs cs h g) (λ v. sym (denotes-joined bs cs v ∙ or_same_left (denotes bs v) (denotes cs v) (within_denotes bs cs w v)))

pub positive_at : (bs : List Bound) (k : ℕ) (d : Bound) → is_vector bs ≡ true → k < length bs → 0 < (get_or bs k d).1
positive_at [] k d h l = absurd (omega arith)
positive_at (b ∷ bs) zero d h l = (vector_parts b bs h).positive
positive_at (b ∷ bs) (suc k) d h l = positive_at bs k d (vector_parts b bs h).rest (omega arith)

pub denotes-positive : (bs : List Bound) (v : Version) → denotes bs v ≡ true → 0 < v.number
denotes-positive [] v h = absurd (false≢true h)
denotes-positive (b ∷ bs) v h = elim (or_cases (reaches b v) (denotes bs v) h) [
  | inl here ↦ let positive = (reached b v here).1.0 in omega arith
  | inr later ↦ denotes-positive bs v later
]

pub one_bound : (b : Bound) → 0 < b.1 → is_vector (b ∷ []) ≡ true
one_bound b p = vector_from b [] p refl refl

-- adding a version that is there already changes nothing
pub raised_denoted : (v : Version) (bs : List Bound) → is_vector bs ≡ true → denotes bs v ≡ true → bs ≡ raised (v.author, v.number) bs
raised_denoted v bs h d =
    within_joined ((v.author, v.number) ∷ []) bs (one_bound (v.author, v.number) (denotes-positive bs v d)) h (and_from (denotes bs v) true d refl)

same_bound-Decides : (b c : Bound) → Decides (same_bound b c) (b ≡ c)
same_bound-Decides b c =
    Decides-like _ (λ (h : (b.0 ≡ c.0) × (b.1 ≡ c.1)) i. (h.0 i, h.1 i)) (λ e. (ap (λ (x : Bound). x.0) e, ap (λ (x : Bound). x.1) e))
    (Decides-and _ _ (same_is b.0 c.0, same_from b.0 c.0) (Decides-eqb b.1 c.1))

pub same_bounds-Decides : (bs cs : List Bound) → Decides (same_bounds bs cs) (bs ≡ cs)
same_bounds-Decides bs cs = slice_eq-Decides {A = Bound} same_bound-Decides bs cs (same_bounds bs cs) refl
