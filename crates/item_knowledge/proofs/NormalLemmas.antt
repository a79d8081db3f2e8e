-- Whatever is known of every picture, and of some besides, has a normal form: it is the union of what is known of each.
use Rattle.std.proofs.Common.{◌≡◌, ℕ, ◌<◌, Bool, true, ltb, eqb, ◌&&◌, List, [], ◌∷◌, refl, sym, ap, ◌∙◌, arith}
use Rattle.std.specs.List.{list_all}
use Rattle.std.proofs.Math.Bool.{or-false}
use Rattle.std.proofs.lemmas.Bool.{and_parts, and_from}
use Rattle.std.proofs.lemmas.Bool.Decides.{nat_tests}
use Rattle.photo_version.specs.Version.{Version}
use Rattle.item_knowledge.specs.Entries.{Entry, denotes, is_vector}
use Rattle.item_knowledge.specs.Excess.{wholes}
use Rattle.item_knowledge.specs.Fragments.{Fragment, knows, is_normal, nothing, entries_at}
use Rattle.item_knowledge.specs.Gathering.{IsOperand, IsIndex, vector_of}
use Rattle.item_knowledge.specs.Laws.{is_told, pairs_of, IsTheNormalForm}
use Rattle.item_knowledge.proofs.FragmentLemmas.{one_normal}
use Rattle.item_knowledge.proofs.JoinLemmas.{joined_denotes, joined_left, joined_vector, vector_order}
use Rattle.item_knowledge.proofs.UnionLemmas.{normal_operand, knows_vector, beyond, whole_union}

-- what is known of one picture

abbrev one : ℕ × List Entry → List Fragment
one t = nothing ∷ record { pictures = t.0 ∷ []; entries = t.1 } ∷ []

abbrev one_index : ℕ × List Entry → List (ℕ × ℕ)
one_index t = (t.0, 1) ∷ []

one_operand : (t : ℕ × List Entry) → is_told t ≡ true → IsOperand (one t) (one_index t)
one_operand t h = grind (arith, nat_tests)

one_denoted : (t : ℕ × List Entry) (p : ℕ) (v : Version) → is_told t ≡ true → denotes (vector_of (wholes [] (one t)) (one_index t) p) v ≡ (eqb t.0 p && denotes t.1 v)
one_denoted t p v h =
    grind (arith, nat_tests, ap (λ es. denotes es v) (joined_left t.1 (vector_order t.1 (and_parts (ltb 0 t.0) (is_vector t.1) h).1)))

-- fragments that are, with the star, a normal form of some pairs
record Form (every : List Entry) (pairs : ℕ → Version → Bool) : Type 0 where
  fragments : List Fragment
  index : List (ℕ × ℕ)
  first : entries_at fragments 0 ≡ []
  operand : IsOperand fragments index
  normal : is_normal (wholes every fragments) ≡ true
  indexed : IsIndex index (wholes every fragments)
  denoted : (p : ℕ) (v : Version) → 0 < p → knows (wholes every fragments) p v ≡ pairs p v

form_of : (every : List Entry) (some : List (ℕ × List Entry)) → is_vector every ≡ true → list_all (λ t. is_told t) some ≡ true → Form every (pairs_of every some)
form_of every [] h g =
    let normal : is_normal (wholes every (nothing ∷ [])) ≡ true = and_from _ _ (and_from _ _ refl (joined_vector [] every refl h)) refl in
    record {
      fragments = nothing ∷ [];
      index = [];
      first = refl;
      operand = record { star = omega arith; above = refl; order = refl; positive = refl; range = refl };
      normal = normal;
      indexed = record { order = refl; positive = refl; range = refl; vectors = λ p. refl };
      denoted = λ p v z. knows_vector (wholes every (nothing ∷ [])) p v normal ∙ (joined_denotes [] every v refl h ∙ sym (or-false (denotes every v)));
    }
form_of every (t ∷ some) h g =
    let parts = and_parts (is_told t) (list_all (λ u. is_told u) some) g in
    let made = form_of every some h parts.1 in
    let fs = made.fragments in
    let index = made.index in
    let other = one_operand t parts.0 in
    let both = beyond every fs (one t) index (one_index t) made.operand other made.first refl in
    let union = whole_union every fs (one t) index (one_index t) made.operand other made.first refl both.0 both.1 both.2 every [] h refl (sym (joined_left every (vector_order every h))) in
    record {
      fragments = both.0;
      index = both.1;
      first = both.2.first;
      operand = normal_operand both.0 both.1 both.2.normal both.2.index;
      normal = union.normal;
      indexed = union.index;
      denoted = λ p v z. grind (arith, nat_tests, union.pairs p v z, made.indexed.vectors p, knows_vector (wholes every fs) p v made.normal, made.denoted p v z, one_denoted t p v parts.0);
    }

pub has_one : (every : List Entry) (some : List (ℕ × List Entry)) → is_vector every ≡ true → list_all (λ t. is_told t) some ≡ true → (fs : List Fragment) × IsTheNormalForm fs (pairs_of every some)
has_one every some h g =
    let form = form_of every some h g in
    let fs = wholes every form.fragments in (
      fs,
      record {
        normal = form.normal;
        denoted = form.denoted;
        only = λ gs normal same. one_normal gs fs normal form.normal (λ p v z. same p v z ∙ sym (form.denoted p v z));
      },
    )
