-- The order of authors. Proofs about vectors use authors through these lemmas only.
use Rattle.std.proofs.Common.{◌≡◌, ◌+◌, ◌*◌, ◌/◌, ◌%◌, ◌<◌, true, false, ltb, ◌&&◌, ◌||◌, refl, ap, sym, ◌∙◌, ◌⊎◌, inl, inr, arith}
use Rattle.std.proofs.lemmas.Bool.{lt-ltb, le-ltb, ltb-true, eq-eqb, ne_eqb, eqb-true, cases_order, cases_lt, false≢true}
use Rattle.photo_version.specs.Author.{Author, author_of_word, author_at, device_of_author, epoch_of_author, same_author, same_device, author_before, next_author}

pub record Before (a b : Author) : Type 0 where
  pub before : author_before a b ≡ true
  pub not_after : author_before b a ≡ false
  pub other : same_author a b ≡ false
  pub other_back : same_author b a ≡ false

pub before_from : (a b : Author) → author_before a b ≡ true → Before a b
before_from a b h =
    let less = ltb-true a.word b.word h in
    record {
      before = h;
      not_after = le-ltb b.word a.word (omega arith);
      other = ne_eqb a.word b.word (λ e. absurd (omega arith));
      other_back = ne_eqb b.word a.word (λ e. absurd (omega arith));
    }

pub cases_author : (a b : Author) → (a ≡ b) ⊎ (Before a b ⊎ Before b a)
cases_author a b = elim (cases_order a.word b.word) [
  | inl same ↦ inl (ap author_of_word same)
  | inr side ↦ elim side [
    | inl less ↦ inr (inl (before_from a b (lt-ltb a.word b.word less)))
    | inr more ↦ inr (inr (before_from b a (lt-ltb b.word a.word more)))
  ]
]

pub before_trans : (a b c : Author) → author_before a b ≡ true → author_before b c ≡ true → author_before a c ≡ true
before_trans a b c h g =
    let less = ltb-true a.word b.word h in
    let more = ltb-true b.word c.word g in
    lt-ltb a.word c.word (omega arith)

pub same_from : (a b : Author) → a ≡ b → same_author a b ≡ true
same_from a b e = eq-eqb a.word b.word (ap (λ (x : Author). x.word) e)

pub same_is : (a b : Author) → same_author a b ≡ true → a ≡ b
same_is a b h = ap author_of_word (eqb-true a.word b.word h)

pub not_before_same : (a b : Author) → a ≡ b → author_before a b ≡ false
not_before_same a b e =
    let same = ap (λ (x : Author). x.word) e in
    le-ltb a.word b.word (omega arith)

-- two authors, neither of which stands before the other, are equal
pub same_between : (a b : Author) → author_before a b ≡ false → author_before b a ≡ false → a ≡ b
same_between a b h g = elim (cases_author a b) [
  | inl same ↦ same
  | inr side ↦ elim side [
    | inl less ↦ absurd (false≢true (sym h ∙ less.before))
    | inr more ↦ absurd (false≢true (sym g ∙ more.before))
  ]
]

-- An author's device and epoch

pub parts_back : (a : Author) → author_at (device_of_author a) (epoch_of_author a) ≡ a
parts_back a =
    let word : a.word / 4294967296 * 4294967296 + a.word % 4294967296 ≡ a.word = omega arith in
    ap author_of_word word

pub next_parts : (a : Author) → epoch_of_author a < 4294967295 → next_author a ≡ author_at (device_of_author a) (epoch_of_author a + 1)
next_parts a h =
    let word : a.word + 1 ≡ a.word / 4294967296 * 4294967296 + (a.word % 4294967296 + 1) = omega arith in
    ap author_of_word word

pub before_by_parts : (a b : Author) → author_before a b ≡ (ltb (device_of_author a) (device_of_author b) || (same_device a b && ltb (epoch_of_author a) (epoch_of_author b)))
before_by_parts a b = elim (cases_order (device_of_author a) (device_of_author b)) [
  | inl same ↦ elim (cases_lt (epoch_of_author a) (epoch_of_author b)) [
    | inl less ↦ rw (le-ltb (device_of_author a) (device_of_author b) (omega arith), eq-eqb (device_of_author a) (device_of_author b) same, lt-ltb (epoch_of_author a) (epoch_of_author b) less, lt-ltb a.word b.word (omega arith)) refl
    | inr more ↦ rw (le-ltb (device_of_author a) (device_of_author b) (omega arith), eq-eqb (device_of_author a) (device_of_author b) same, le-ltb (epoch_of_author a) (epoch_of_author b) more, le-ltb a.word b.word (omega arith)) refl
  ]
  | inr side ↦ elim side [
    | inl less ↦ rw (lt-ltb (device_of_author a) (device_of_author b) less, lt-ltb a.word b.word (omega arith)) refl
    | inr more ↦ rw (le-ltb (device_of_author a) (device_of_author b) (omega arith), ne_eqb (device_of_author a) (device_of_author b) (λ e. absurd (omega arith)), le-ltb a.word b.word (omega arith)) refl
  ]
]
