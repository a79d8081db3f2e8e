-- The bytes of a filter's text: it has no LF, and it doesn't begin with a space.
use Rattle.std.proofs.Common.{◌≡◌, ℕ, ◌+◌, ◌/◌, ◌%◌, true, false, eqb, List, [], ◌∷◌, ◌++◌, ℤ, codes, refl, arith}
use Rattle.std.proofs.lemmas.Bool.{cond-false}
use Rattle.photo_record.specs.Calendar.{Civil, date_of}
use Rattle.photo_filter_text.specs.declared.tree.Cmp.{Cmp}
use Rattle.photo_filter_text.specs.declared.tree.Cmp.TheVariants.{AtLeast, AtMost, Equal}
use Rattle.photo_filter_text.specs.Tree.{Tree, All, Nothing, Rate, On, Keyword, Not, Both, Either}
use Rattle.photo_filter_text.specs.Printed.{text_of, cmp_text, date_text, civil_text, digit, two_digits}
use Rattle.photo_filter_text.specs.Tokens.{Token}
use Rattle.photo_filter_text.specs.Grammar.{IsTest, all, none, rating, day, keyword, IsFactor, negation, brackets, test, IsTerm, factor, conjunction, IsExpr, term, disjunction}
use Rattle.script_reader.specs.Lines.{fields_of, without_spaces}
use Rattle.script_text.proofs.Bytes.{is_from, from-append, from-cons, from-weaker}
use Rattle.script_text.proofs.Cuts.{IsField, fields-some}
use Rattle.script_text.proofs.Wording.{read-plain}

digits-plain : (n : ℕ) → is_from 33 (two_digits n) ≡ true
digits-plain n = from-cons 33 (48 + n / 10) (digit (n % 10) ∷ []) (omega arith) (from-cons 33 (48 + n % 10) [] (omega arith) refl)

civil-plain : (c : Civil) → is_from 33 (civil_text c) ≡ true
civil-plain c =
    let day = two_digits c.day in
    let month = two_digits c.month in
    let last : is_from 33 (45 ∷ day) ≡ true = from-cons 33 45 day (omega arith) (digits-plain c.day) in
    let later : is_from 33 (45 ∷ (month ++ 45 ∷ day)) ≡ true = from-cons 33 45 (month ++ 45 ∷ day) (omega arith) (from-append 33 month (45 ∷ day) (digits-plain c.month) last) in
    let years = two_digits (c.year % 100) in
    from-append 33 (two_digits (c.year / 100)) (years ++ 45 ∷ (month ++ 45 ∷ day)) (digits-plain (c.year / 100))
    (from-append 33 years (45 ∷ (month ++ 45 ∷ day)) (digits-plain (c.year % 100)) later)

pub date-field : (number : ℤ) → IsField (date_text number)
unfolding date_text
date-field number = record { plain = civil-plain (date_of number); some = refl }

cmp-plain : (c : Cmp) → is_from 32 (cmp_text c) ≡ true
cmp-plain AtLeast = refl
cmp-plain AtMost = refl
cmp-plain Equal = refl

-- two texts with a space between them
spaced : (xs ys : List ℕ) → is_from 32 xs ≡ true → is_from 32 ys ≡ true → is_from 32 (xs ++ 32 ∷ ys) ≡ true
spaced xs ys h g = from-append 32 xs (32 ∷ ys) h g

-- the part of a bracket after its first tree
joint : (w x y : List ℕ) → is_from 32 w ≡ true → is_from 32 x ≡ true → is_from 32 y ≡ true → is_from 32 (x ++ 32 ∷ (w ++ 32 ∷ (y ++ 32 ∷ codes ")"))) ≡ true
joint w x y p q r = spaced x (w ++ 32 ∷ (y ++ 32 ∷ codes ")")) q (spaced w (y ++ 32 ∷ codes ")") p (spaced y (codes ")") r refl))

test-plain : {ts : List Token} {t : Tree} → IsTest ts t → is_from 32 (text_of t) ≡ true
test-plain all = refl
test-plain none = refl
test-plain (rating {cmp = c} {n = n} is read) = spaced (cmp_text c) (digit n ∷ []) (cmp-plain c) (from-cons 32 (48 + n) [] (omega arith) refl)
test-plain (day {cmp = c} {n = n} is read) = spaced (cmp_text c) (date_text n) (cmp-plain c) (from-weaker 32 33 (date_text n) (omega arith) (date-field n).plain)
test-plain (keyword {w = w} {word = word} other read) = from-weaker 32 33 word (omega arith) (read-plain w word read)

mutual
  factor-plain : {ts : List Token} {t : Tree} → IsFactor ts t → is_from 32 (text_of t) ≡ true
  factor-plain (negation f) = factor-plain f
  factor-plain (brackets e) = filter-plain e
  factor-plain (test t) = test-plain t

  term-plain : {ts : List Token} {t : Tree} → IsTerm ts t → is_from 32 (text_of t) ≡ true
  term-plain (factor f) = factor-plain f
  term-plain (conjunction {a = a} {b = b} e f) = joint (codes "and") (text_of a) (text_of b) refl (term-plain e) (factor-plain f)

  -- the text of a filter's tree
  pub filter-plain : {ts : List Token} {t : Tree} → IsExpr ts t → is_from 32 (text_of t) ≡ true
  filter-plain (term t) = term-plain t
  filter-plain (disjunction {a = a} {b = b} e f) = joint (codes "or") (text_of a) (text_of b) refl (filter-plain e) (term-plain f)

-- the text begins with a field
pub record BeginsField (text : List ℕ) : Type 0 where
  pub first : List ℕ
  pub more : List (List ℕ)
  pub fields : fields_of text ≡ first ∷ more
  pub at_once : without_spaces text ≡ text

begins : (b : ℕ) (bs : List ℕ) → eqb b 32 ≡ false → BeginsField (b ∷ bs)
begins b bs h =
    let some = fields-some b bs h in
    record { first = some.0; more = some.1; fields = some.2; at_once = cond-false (eqb b 32) (without_spaces bs) (b ∷ bs) h }

pub filter-begins : (t : Tree) → BeginsField (text_of t)
filter-begins All = begins 97 _ refl
filter-begins Nothing = begins 110 _ refl
filter-begins (Rate cmp n) = begins 114 _ refl
filter-begins (On cmp n) = begins 100 _ refl
filter-begins (Keyword w) = begins 107 _ refl
filter-begins (Not part) = begins 110 _ refl
filter-begins (Both a b) = begins 40 _ refl
filter-begins (Either a b) = begins 40 _ refl
