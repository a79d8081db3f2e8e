-- Ranges: the numbers in two ranges, and those that pass a test.
use Rattle.std.proofs.Common.{◌≡◌, sym, ◌∙◌, inl, inr, ℤ, pos, ◌+ℤ◌, ◌-ℤ◌, Bool, true, false, not, ◌&&◌, ◌||◌, int_le, arith}
use Rattle.std.specs.Int.{int_max, int_min}
use Rattle.std.specs.Ordering.{int_eq}
use Rattle.std.specs.Cmp.{signed_Decides}
use Rattle.std.proofs.lemmas.Bool.{cases_Bool, false≢true}
use Rattle.std.specs.List.{list_any}
use Rattle.std.proofs.lemmas.Int.{ints}
use Rattle.photo_filter_text.specs.declared.tree.Cmp.{Cmp}
use Rattle.photo_filter_text.specs.declared.tree.Cmp.TheVariants.{AtLeast, AtMost, Equal}
use Rattle.photo_filter_rules.specs.declared.span.Span.{Span}
use Rattle.photo_filter_rules.specs.declared.polarity.Polarity.{Polarity}
use Rattle.photo_filter_rules.specs.declared.polarity.Polarity.TheVariants.{Plain, Negated}
use Rattle.photo_filter_rules.specs.Matching.{compares}
use Rattle.photo_filter_rules.specs.Alternatives.{is_within, both_spans, spans_of}
use Rattle.photo_filter_rules.proofs.Bools.{and_pairs}

int_max-le : (a b x : ℤ) → int_le (int_max a b) x ≡ (int_le a x && int_le b x)
int_max-le a b x = grind (arith, ints)

le-int_min : (a b x : ℤ) → int_le x (int_min a b) ≡ (int_le x a && int_le x b)
le-int_min a b x = grind (arith, ints)

pub is_within-both_spans : (s t : Span) (x : ℤ) → is_within (both_spans s t) x ≡ (is_within s x && is_within t x)
is_within-both_spans s t x =
    rw (int_max-le s.first t.first x, le-int_min s.last t.last x) (and_pairs (int_le s.first x) (int_le t.first x) (int_le x s.last) (int_le x t.last))

-- a part's result in a polarity
abbrev pub toward : Polarity → Bool → Bool
toward Plain b = b
toward Negated b = not b

at_least : (k x first last : ℤ) → int_le x last ≡ true → ((int_le k x && int_le x last) || false) ≡ int_le k x
at_least k x first last h = grind (arith, ints)

at_most : (k x first last : ℤ) → int_le first x ≡ true → ((int_le first x && int_le x k) || false) ≡ int_le x k
at_most k x first last h = grind (arith, ints)

below : (k x first last : ℤ) → int_le first x ≡ true → ((int_le first x && int_le x (k -ℤ pos 1)) || false) ≡ not (int_le k x)
below k x first last h = grind (arith, ints)

above : (k x first last : ℤ) → int_le x last ≡ true → ((int_le (k +ℤ pos 1) x && int_le x last) || false) ≡ not (int_le x k)
above k x first last h = grind (arith, ints)

le_itself : (k : ℤ) → true ≡ (int_le k k && int_le k k)
le_itself k = grind (arith, ints)

not_both : (k x : ℤ) → (x ≡ k → ⊥) → false ≡ (int_le k x && int_le x k)
not_both k x apart = grind (arith, ints)

outside : (k x first last : ℤ) → int_le first x ≡ true → int_le x last ≡ true
    → ((int_le first x && int_le x (k -ℤ pos 1)) || ((int_le (k +ℤ pos 1) x && int_le x last) || false)) ≡ not (int_le k x && int_le x k)
outside k x first last h g = grind (arith, ints)

int_eq-is : (x k : ℤ) → int_eq x k ≡ (int_le k x && int_le x k)
int_eq-is x k =
    elim (cases_Bool (int_eq x k)) [
      | inl e ↦ let same : x ≡ k = (signed_Decides x k).0 e in rw (e, same) (le_itself k)
      | inr e ↦
          let apart : x ≡ k → ⊥ = λ same. false≢true (sym e ∙ (signed_Decides x k).1 same) in
          rw e (not_both k x apart)
    ]

three_or_more : (x : ℤ) → int_le (pos 3) x ≡ true → ((int_le (pos 3) x && int_le x (pos 3)) || int_le (pos 4) x) ≡ true
three_or_more x h = grind (arith, ints)

pub split_range : (x : ℤ) → int_le (pos 3) x ≡ true → (int_eq x (pos 3) || int_le (pos 4) x) ≡ true
split_range x h = rw (int_eq-is x (pos 3)) (three_or_more x h)

equal : (k x : ℤ) → ((int_le k x && int_le x k) || false) ≡ int_eq x k
equal k x = rw (int_eq-is x k) (grind (arith, ints))

unequal : (k x first last : ℤ) → int_le first x ≡ true → int_le x last ≡ true
    → ((int_le first x && int_le x (k -ℤ pos 1)) || ((int_le (k +ℤ pos 1) x && int_le x last) || false)) ≡ not (int_eq x k)
unequal k x first last h g = rw (int_eq-is x k) (outside k x first last h g)

-- a number of the whole is in one of the ranges exactly if it passes the test, or under `not` if it doesn't
pub any-spans_of : (whole : Span) (polarity : Polarity) (cmp : Cmp) (k x : ℤ) → int_le whole.first x ≡ true → int_le x whole.last ≡ true
    → list_any (λ s. is_within s x) (spans_of whole polarity cmp k) ≡ toward polarity (compares cmp k x)
any-spans_of whole Plain AtLeast k x h g = at_least k x whole.first whole.last g
any-spans_of whole Plain AtMost k x h g = at_most k x whole.first whole.last h
any-spans_of whole Plain Equal k x h g = equal k x
any-spans_of whole Negated AtLeast k x h g = below k x whole.first whole.last h
any-spans_of whole Negated AtMost k x h g = above k x whole.first whole.last g
any-spans_of whole Negated Equal k x h g = unequal k x whole.first whole.last h g
