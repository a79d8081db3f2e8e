-- What is gathered from the merged tables of two operands, with the star of both, is their union.
use Rattle.std.proofs.Common.{◌≡◌, ℕ, zero, suc, ◌<◌, true, ltb, ◌||◌, List, [], ◌∷◌, length, refl, sym, subst, ap, ◌∙◌, inl, inr, arith}
use Rattle.std.specs.List.{list_all}
use Rattle.std.proofs.lemmas.List.{get_or_past}
use Rattle.std.proofs.lemmas.Bool.{and_parts, and_from, cases_lt, false≢true}
use Rattle.photo_version.specs.Version.{Version}
use Rattle.item_knowledge.specs.Tables.{in_order, at}
use Rattle.item_knowledge.specs.Entries.{Entry, denotes, is_entry, is_vector, bound, leq, joined}
use Rattle.item_knowledge.specs.Fragments.{Fragment, first, knows, are_groups, is_normal, known, nothing, entries_at}
use Rattle.item_knowledge.specs.Excess.{exceeding, union_vector, wholes, IsExcess, AllDiffer}
use Rattle.item_knowledge.specs.Gathering.{vector_of, is_above, IsOperand, IsIndex, paired, pair_vector, pictures_at, star_first, IsGathered, IsUnion}
use Rattle.item_knowledge.specs.Written.{IsBeyond, union_table}
use Rattle.item_knowledge.specs.Rows.{AreRows, IsRow, pairs, fragments_of, rows_of}
use Rattle.item_knowledge.proofs.RowLemmas.{fragments_rows, rows_rows}
use Rattle.item_knowledge.proofs.MergeLemmas.{all_at}
use Rattle.item_knowledge.proofs.TableLemmas.{merge_at, merge_order, merge_pass}
use Rattle.item_knowledge.proofs.JoinLemmas.{joined_bound, joined_vector, joined_denotes, leq_self}
use Rattle.item_knowledge.proofs.FragmentLemmas.{normal_parts, knows_known, groups_parts}
use Rattle.item_knowledge.proofs.ExcessLemmas.{at_number, normal_some, Exceeds, exceeding_vector, exceeding_exceeds, exceeding_joined, entries_wholes, wholes_normal, wholes_known, wholes_index}
use Rattle.item_knowledge.proofs.GatherLemmas.{table_order, table_pass, table_at, table_others, none_gathered, groups_of, gathered_normal, gathered_index, gathered_known, gathered_named}

-- The vectors of one operand

abbrev star_of : List Fragment → List Entry
star_of fs = entries_at fs 0

-- the vector of a number, which is above the star's
pub record Above (fs : List Fragment) (k : ℕ) : Type 0 where
  pub star : is_vector (star_of fs) ≡ true
  pub vector : is_vector (entries_at fs k) ≡ true
  pub above : leq (star_of fs) (entries_at fs k) ≡ true

pub above : (fs : List Fragment) (xs : List (ℕ × ℕ)) (k : ℕ) → IsOperand fs xs → k < length fs → Above fs k
above fs xs k h l = record { star = (at_place 0 h.star).0; vector = (at_place k l).0; above = (at_place k l).1 } where
  at_place : (j : ℕ) → j < length fs → (is_vector (entries_at fs j) ≡ true) × (leq (star_of fs) (entries_at fs j) ≡ true)
  at_place j m = and_parts _ _ (all_at (λ (f : Fragment). is_above (star_of fs) f) fs j nothing h.above m)

pub groups_above : (star : List Entry) (gs : List Fragment) → are_groups star gs ≡ true → list_all (λ (f : Fragment). is_above star f) gs ≡ true
groups_above star [] h = refl
groups_above star (g ∷ gs) h =
    let p = groups_parts star g gs h in
    and_from _ _ (and_from _ _ p.group.vector p.group.above) (groups_above star gs p.rest)

-- a normal form with its index is an operand
pub normal_operand : (fs : List Fragment) (xs : List (ℕ × ℕ)) → is_normal fs ≡ true → IsIndex xs fs → IsOperand fs xs
normal_operand [] xs h i = absurd (false≢true h)
normal_operand (s ∷ gs) xs h i =
    let p = normal_parts s gs h in
    record {
      star = omega arith;
      above = and_from _ _ (and_from _ _ p.vector (leq_self s.entries p.vector)) (groups_above s.entries gs p.groups);
      order = i.order;
      positive = i.positive;
      range = i.range;
    }

pub number_below : (fs : List Fragment) (xs : List (ℕ × ℕ)) (p : ℕ) → IsOperand fs xs → at 0 xs p < length fs
number_below fs xs p h = at_number xs (length fs) p h.star h.range

pub operand_vector : (fs : List Fragment) (xs : List (ℕ × ℕ)) (p : ℕ) → IsOperand fs xs → is_vector (vector_of fs xs p) ≡ true
operand_vector fs xs p h = (above fs xs (at 0 xs p) h (number_below fs xs p h)).vector

pub knows_vector : (fs : List Fragment) (p : ℕ) (v : Version) → is_normal fs ≡ true → knows fs p v ≡ denotes (known fs p) v
knows_vector [] p v h = absurd (false≢true h)
knows_vector (s ∷ gs) p v h = knows_known s gs p v (normal_parts s gs h)

pub entries_order : (fs : List Fragment) (xs : List (ℕ × ℕ)) (k : ℕ) → IsOperand fs xs → k < length fs → in_order (entries_at fs k) ≡ true
entries_order fs xs k h l = (and_parts (in_order (entries_at fs k)) (list_all (λ (e : Entry). is_entry e) (entries_at fs k)) (above fs xs k h l).vector).0

-- What two operands have beyond the star of their union

paired_order : (xs ys : List (ℕ × ℕ)) → in_order ys ≡ true → in_order (paired xs ys) ≡ true
paired_order xs ys order = merge_order (λ a. (a, 0)) (λ a b. (a, b.1)) (λ b. (0, b)) xs ys order

pub union_order : (star : List Entry) (fs gs : List Fragment) (xs ys : List (ℕ × ℕ)) → IsOperand gs ys → in_order (union_table star fs gs xs ys) ≡ true
union_order star fs gs xs ys g = table_order (union_vector star fs gs) (paired xs ys) (paired_order xs ys g.order)

module _ (star : List Entry) (fs gs : List Fragment) (xs ys : List (ℕ × ℕ)) (h : IsOperand fs xs) (g : IsOperand gs ys) (one : entries_at fs 0 ≡ []) (other : entries_at gs 0 ≡ []) where
  abbrev f : ℕ × ℕ → List Entry
  f = union_vector star fs gs

  abbrev table : List (ℕ × List Entry)
  table = union_table star fs gs xs ys

  nothing_first : [] ≡ f (0, 0)
  nothing_first = λ i. exceeding star (joined (sym one i) (sym other i))

  pub pair_is_vector : (n : ℕ × ℕ) → n.0 < length fs → n.1 < length gs → is_vector (pair_vector fs gs n) ≡ true
  pair_is_vector n l m = joined_vector (entries_at fs n.0) (entries_at gs n.1) (above fs xs n.0 h l).vector (above gs ys n.1 g m).vector

  table_is : (p : ℕ) → at [] table p ≡ f (at 0 xs p, at 0 ys p)
  table_is p = table_at f (paired xs ys) (paired_order xs ys g.order) p nothing_first ∙ ap f (merge_at (λ a. (a, 0)) (λ a b. (a, b.1)) (λ b. (0, b)) 0 0 (λ a. refl) (λ b. refl) xs ys h.order g.order p)

  pub beyond_of : (groups : List Fragment) (zs : List (ℕ × ℕ)) → IsGathered table [] groups zs → AllDiffer groups → IsBeyond star fs xs gs ys (star_first [] groups) zs
  beyond_of groups zs made differ =
      let positive = table_pass f (paired xs ys) (paired_order xs ys g.order) (λ p. ltb 0 p) (merge_pass (λ a. (a, 0)) (λ a b. (a, b.1)) (λ b. (0, b)) (λ p. ltb 0 p) xs ys h.positive g.positive) in
      let vectors : (p : ℕ) → is_vector (at [] table p) ≡ true = λ p. ap is_vector (table_is p) ∙ exceeding_vector star _ (pair_is_vector (at 0 xs p, at 0 ys p) (number_below fs xs p h) (number_below gs ys p g)) in
      record {
        first = refl;
        normal = gathered_normal made differ (union_order star fs gs xs ys g) positive vectors;
        index = gathered_index made differ (union_order star fs gs xs ys g) positive vectors;
        vectors = λ p. gathered_known made differ (union_order star fs gs xs ys g) positive vectors p ∙ table_is p;
        named = λ k l. (first (pictures_at groups k), gathered_named made differ (union_order star fs gs xs ys g) positive vectors k (omega (arith, l)) ∙ table_is _);
      }

  pub beyond : (us : List Fragment) × (zs : List (ℕ × ℕ)) × IsBeyond star fs xs gs ys us zs
  beyond =
      let all = groups_of table table [] [] (union_order star fs gs xs ys g) (table_others f (paired xs ys)) (none_gathered table table [] [] refl refl refl) (λ j k l m. absurd (omega (arith, m))) in
      (star_first [] all.0, all.1, beyond_of all.0 all.1 all.2 all.3)

  module _ (us : List Fragment) (zs : List (ℕ × ℕ)) (w : IsBeyond star fs xs gs ys us zs) where
    -- each vector is that of two fragments, or has no entries
    pub of_two : (P : List Entry → Type 0) → P [] → ((n : ℕ × ℕ) → n.0 < length fs → n.1 < length gs → P (f n)) → (k : ℕ) → P (entries_at us k)
    of_two P none each zero = subst P (sym w.first) none
    of_two P none each (suc k) = elim (cases_lt (suc k) (length us)) [
      | inl there ↦ let of = w.named k there in subst P (sym of.1) (each (at 0 xs of.0, at 0 ys of.0) (number_below fs xs of.0 h) (number_below gs ys of.0 g))
      | inr past ↦ subst (λ (x : Fragment). P x.entries) (sym (get_or_past us (suc k) nothing past)) none
    ]

    union_exceeds : (k : ℕ) → Exceeds star (entries_at us k)
    union_exceeds = of_two (Exceeds star) (λ a z. absurd (omega arith)) (λ n l m. exceeding_exceeds star (pair_vector fs gs n) (pair_is_vector n l m))

    pub union_excess : (words : List ℕ) (out : List (List ℕ)) → IsRow words → pairs words ≡ star → is_vector star ≡ true → out ≡ rows_of us → IsExcess words out
    union_excess words out row is vector written =
        let there : fragments_of out ≡ us = ap fragments_of written ∙ fragments_rows us in
        record {
          row = row;
          vector = ap is_vector is ∙ vector;
          are_rows = subst AreRows (sym written) (rows_rows us);
          first = ap (λ vs. entries_at vs 0) there ∙ w.first;
          vectors = λ k. ap (λ vs. is_vector (entries_at vs k)) there ∙ of_two (λ es. is_vector es ≡ true) refl (λ n l m. exceeding_vector star (pair_vector fs gs n) (pair_is_vector n l m)) k;
          exceeds = λ k. subst (λ vs. Exceeds (pairs words) (entries_at vs k)) (sym there) (subst (λ s. Exceeds s (entries_at us k)) (sym is) (union_exceeds k));
        }

    -- with its star it is the union of both operands with theirs
    pub whole_union : (s t : List Entry) → is_vector s ≡ true → is_vector t ≡ true → star ≡ joined s t → IsUnion (wholes s fs) xs (wholes t gs) ys (wholes star us) zs
    whole_union s t hs ht both =
        let vector : is_vector star ≡ true = ap is_vector both ∙ joined_vector s t hs ht in
        let normal = wholes_normal star us vector w.normal w.first union_exceeds in
        record {
          normal = normal;
          index = wholes_index star us zs w.normal w.index;
          star = λ a.
              let all = ap (λ es. bound es a) (entries_wholes star us 0 (normal_some us w.normal) ∙ ap (λ es. joined es star) w.first) ∙ joined_bound [] star a refl vector in
              let left = ap (λ es. bound es a) (entries_wholes s fs 0 h.star ∙ ap (λ es. joined es s) one) ∙ joined_bound [] s a refl hs in
              let right = ap (λ es. bound es a) (entries_wholes t gs 0 g.star ∙ ap (λ es. joined es t) other) ∙ joined_bound [] t a refl ht in
              let stars = ap (λ es. bound es a) both ∙ joined_bound s t a hs ht in
              omega arith;
          pairs = λ p v z.
              let i = at 0 xs p in
              let j = at 0 ys p in
              let a = entries_at fs i in
              let b = entries_at gs j in
              let av = (above fs xs i h (number_below fs xs p h)).vector in
              let bv = (above gs ys j g (number_below gs ys p g)).vector in
              let left : denotes (vector_of (wholes s fs) xs p) v ≡ (denotes a v || denotes s v) = ap (λ es. denotes es v) (entries_wholes s fs i (number_below fs xs p h)) ∙ joined_denotes a s v av hs in
              let right : denotes (vector_of (wholes t gs) ys p) v ≡ (denotes b v || denotes t v) = ap (λ es. denotes es v) (entries_wholes t gs j (number_below gs ys p g)) ∙ joined_denotes b t v bv ht in
              let stars : denotes star v ≡ (denotes s v || denotes t v) = ap (λ es. denotes es v) both ∙ joined_denotes s t v hs ht in
              let whole : joined (known us p) star ≡ joined (joined a b) star = ap (λ es. joined es star) (w.vectors p) ∙ exceeding_joined star (joined a b) vector (joined_vector a b av bv) in
              let all = knows_vector (wholes star us) p v normal ∙ ap (λ es. denotes es v) (wholes_known star us p w.normal ∙ whole) in
              let both_of = joined_denotes (joined a b) star v (joined_vector a b av bv) vector in
              let pair = joined_denotes a b v av bv in
              grind arith;
        }
