-- The grammar of filters: which tokens make which tree.
use Rattle.std.specs.Prelude.{◌≡◌, ℕ, Bool, ◌||◌, if◌then◌else◌, false, List, [], ◌∷◌, ◌++◌, ℤ, Option, Some, None, Ok, codes}
use Rattle.std.specs.Str.{bytes_eq}
use Rattle.photo_record.specs.Reading.{rating_of_text, day_of_text, word_of_text}
use Rattle.photo_filter_text.specs.declared.tree.Cmp.{Cmp}
use Rattle.photo_filter_text.specs.declared.tree.Cmp.TheVariants.{AtLeast, AtMost, Equal}
use Rattle.photo_filter_text.specs.Tree.{Tree, All, Nothing, Rate, On, Keyword, Not, Both, Either}
use Rattle.photo_filter_text.specs.Tokens.{Token}

-- the comparison that a token denotes
abbrev pub cmp_of : Token → Option Cmp
cmp_of token =
    if bytes_eq token (codes ">=") then Some AtLeast
    else (if bytes_eq token (codes "<=") then Some AtMost
    else (if bytes_eq token (codes "=") then Some Equal else None))

abbrev pub is_bracket : Token → Bool
is_bracket token = bytes_eq token (codes "(") || bytes_eq token (codes ")")

pub data IsTest : List Token → Tree → Type 0 where
  all : IsTest (codes "all" ∷ []) All
  none : IsTest (codes "none" ∷ []) Nothing
  rating : {op r : Token} {cmp : Cmp} {n : ℕ} → cmp_of op ≡ Some cmp → rating_of_text r ≡ Some n → IsTest (codes "rating" ∷ op ∷ r ∷ []) (Rate cmp n)
  day : {op date : Token} {cmp : Cmp} {n : ℤ} → cmp_of op ≡ Some cmp → day_of_text date ≡ Some n → IsTest (codes "day" ∷ op ∷ date ∷ []) (On cmp n)
  keyword : {w word : Token} → is_bracket w ≡ false → word_of_text w ≡ Ok word → IsTest (codes "keyword" ∷ w ∷ []) (Keyword word)

mutual
  pub data IsFactor : List Token → Tree → Type 0 where
    negation : {ts : List Token} {t : Tree} → IsFactor ts t → IsFactor (codes "not" ∷ ts) (Not t)
    brackets : {ts : List Token} {t : Tree} → IsExpr ts t → IsFactor (codes "(" ∷ (ts ++ codes ")" ∷ [])) t
    test : {ts : List Token} {t : Tree} → IsTest ts t → IsFactor ts t

  -- factors joined by `and`, grouped from the left
  pub data IsTerm : List Token → Tree → Type 0 where
    factor : {ts : List Token} {t : Tree} → IsFactor ts t → IsTerm ts t
    conjunction : {xs ys : List Token} {a b : Tree} → IsTerm xs a → IsFactor ys b → IsTerm (xs ++ codes "and" ∷ ys) (Both a b)

  -- terms joined by `or`, grouped from the left
  pub data IsExpr : List Token → Tree → Type 0 where
    term : {ts : List Token} {t : Tree} → IsTerm ts t → IsExpr ts t
    disjunction : {xs ys : List Token} {a b : Tree} → IsExpr xs a → IsTerm ys b → IsExpr (xs ++ codes "or" ∷ ys) (Either a b)
