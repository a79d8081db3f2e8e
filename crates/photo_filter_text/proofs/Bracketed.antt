-- The text of two trees in a bracket.
use Rattle.std.proofs.Common.{◌≡◌, ◌∙◌, sym, ap, subst, ℕ, List, ◌++◌, Result, Ok, Err, is_ok, if◌then◌else◌, OnOk, append_assoc}
use Rattle.std.specs.Prelude.{codes}
use Rattle.photo_filter_text.specs.Tree.{Tree, Both, Either}
use Rattle.photo_filter_text.specs.Printed.{text_of, IsSound}

regrouped : (old front a left b right c : List ℕ) → (((old ++ front) ++ (a ++ left)) ++ (b ++ right)) ++ c ≡ old ++ (front ++ (a ++ (left ++ (b ++ (right ++ c)))))
regrouped old front a left b right c = simp append_assoc

module _ {A E : Type 0} where
  -- if the push of the closing bracket succeeds, the text is complete
  pair_text : (r : Result A E) (old one two three new front left middle right : List ℕ) → one ≡ old ++ front → two ≡ one ++ (codes "( " ++ left) → three ≡ two ++ (middle ++ right) → new ≡ (if is_ok r then three ++ codes " )" else three) → OnOk r (new ≡ old ++ (front ++ (codes "( " ++ (left ++ (middle ++ (right ++ codes " )"))))))
  pair_text (Ok x) old one two three new front left middle right p q s is =
      is ∙ ap (λ l. l ++ codes " )") (s ∙ ap (λ l. l ++ (middle ++ right)) (q ∙ ap (λ l. l ++ (codes "( " ++ left)) p))
      ∙ regrouped old front (codes "( ") left middle right (codes " )")
  pair_text (Err e) old one two three new front left middle right p q s is = tt

  pub both_text : (r : Result A E) (tree left right : Tree) (old one two three new front : List ℕ) → tree ≡ Both left right → one ≡ old ++ front → two ≡ one ++ (codes "( " ++ text_of left) → three ≡ two ++ (codes " and " ++ text_of right) → new ≡ (if is_ok r then three ++ codes " )" else three) → OnOk r (new ≡ old ++ (front ++ text_of tree))
  both_text r tree left right old one two three new front e p q s is =
      subst (λ t. OnOk r (new ≡ old ++ (front ++ text_of t))) (sym e) (pair_text r old one two three new front (text_of left) (codes " and ") (text_of right) p q s is)

  pub either_text : (r : Result A E) (tree left right : Tree) (old one two three new front : List ℕ) → tree ≡ Either left right → one ≡ old ++ front → two ≡ one ++ (codes "( " ++ text_of left) → three ≡ two ++ (codes " or " ++ text_of right) → new ≡ (if is_ok r then three ++ codes " )" else three) → OnOk r (new ≡ old ++ (front ++ text_of tree))
  either_text r tree left right old one two three new front e p q s is =
      subst (λ t. OnOk r (new ≡ old ++ (front ++ text_of t))) (sym e) (pair_text r old one two three new front (text_of left) (codes " or ") (text_of right) p q s is)

  pub both_sound : (r : Result A E) (tree left right : Tree) → tree ≡ Both left right → IsSound left → IsSound right → OnOk r (IsSound tree)
  both_sound (Ok x) tree left right e p q = subst IsSound (sym e) (p, q)
  both_sound (Err f) tree left right e p q = tt

  pub either_sound : (r : Result A E) (tree left right : Tree) → tree ≡ Either left right → IsSound left → IsSound right → OnOk r (IsSound tree)
  either_sound (Ok x) tree left right e p q = subst IsSound (sym e) (p, q)
  either_sound (Err f) tree left right e p q = tt
