-- Rows of what exceeds a star, as they are shown.
use Rattle.std.proofs.Common.{◌≡◌, ℕ, suc, ◌+◌, ◌*◌, ◌<◌, ◌≤◌, true, leb, max, List, [], ◌∷◌, length, get_or, set, refl, sym, subst, ap, ◌∙◌, arith}
use Rattle.std.specs.Cmp.{both_ways}
use Rattle.std.proofs.Math.Path.{transport}
use Rattle.std.specs.List.{list_all}
use Rattle.std.proofs.lemmas.List.{get_or-map, get_or_past}
use Rattle.std.proofs.lemmas.Bool.{and_from, cases_lt}
use Rattle.std.proofs.lemmas.Bool.Decides.{nat_tests}
use Rattle.item_knowledge.specs.Entries.{Entry, is_vector, bound, leq, joined}
use Rattle.item_knowledge.specs.Excess.{exceeding, shown, whole, wholes, IsExcess}
use Rattle.item_knowledge.specs.Fragments.{Fragment, nothing, entries_at}
use Rattle.item_knowledge.specs.Gathering.{IsOperand, IsUnion}
use Rattle.item_knowledge.specs.Raising.{IsWaiting, all_raised}
use Rattle.item_knowledge.specs.Rows.{pairs, flat, IsRow, IsPlaceOf, AreRows, fragments_of, rows_of}
use Rattle.item_knowledge.specs.Written.{IsWritten}
use Rattle.item_knowledge.proofs.EntryLemmas.{one_by_bounds}
use Rattle.item_knowledge.proofs.ExcessLemmas.{exceeding_none, normal_some, length_wholes, entries_wholes, wholes_operand}
use Rattle.item_knowledge.proofs.FragmentLemmas.{leq_at}
use Rattle.item_knowledge.proofs.JoinLemmas.{joined_bound, joined_vector, joined_left, joined_right, leq_from, vector_order, row_put}
use Rattle.item_knowledge.proofs.MergeLemmas.{all_at}
use Rattle.item_knowledge.proofs.RowLemmas.{fragments_rows, rows_rows, rows_read, row_length, pairs_flat, flat_row}
use Rattle.item_knowledge.proofs.UnionLemmas.{union_excess, whole_union}

module _ (star : List ℕ) (rows now : List (List ℕ)) (h : IsExcess star rows) (is : shown star rows ≡ now) where
  pub shown_are : fragments_of now ≡ wholes (pairs star) (fragments_of rows)
  shown_are = ap fragments_of (sym is) ∙ fragments_rows (wholes (pairs star) (fragments_of rows))

  pub shown_count : length (fragments_of now) ≡ length (fragments_of rows)
  shown_count = ap length shown_are ∙ length_wholes (pairs star) (fragments_of rows)

  pub shown_size : length rows ≡ 2 * length (fragments_of now)
  shown_size = omega (arith, rows_read rows h.are_rows, shown_count)

  -- the fragment of a number, in the rows and as it is shown
  pub record ShownAt (k : ℕ) : Type 0 where
    pub there : k < length (fragments_of rows)
    pub pictures : (get_or (fragments_of now) k nothing).pictures ≡ (get_or (fragments_of rows) k nothing).pictures
    pub entries : entries_at (fragments_of now) k ≡ joined (entries_at (fragments_of rows) k) (pairs star)
    pub bounds : (a : ℕ) → bound (entries_at (fragments_of now) k) a ≡ max (bound (entries_at (fragments_of rows) k) a) (bound (pairs star) a)

  pub shown_at : (k : ℕ) → k < length (fragments_of now) → ShownAt k
  shown_at k l =
      let there : k < length (fragments_of rows) = subst (λ n. k < n) shown_count l in
      grind (arith, shown_are, entries_wholes (pairs star) (fragments_of rows) k there, get_or-map (λ f. whole (pairs star) f) (fragments_of rows) k nothing nothing there, λ (a : ℕ). joined_bound (entries_at (fragments_of rows) k) (pairs star) a (h.vectors k) h.vector)

  -- the first is the star
  pub shown_star : 0 < length (fragments_of now) → entries_at (fragments_of now) 0 ≡ pairs star
  shown_star some = (shown_at 0 some).entries ∙ (ap (λ es. joined es (pairs star)) h.first ∙ joined_right (pairs star))

  pub shown_operand : (xs : List (ℕ × ℕ)) → IsOperand (fragments_of now) xs → IsOperand (fragments_of rows) xs
  shown_operand xs operand = wholes_operand (pairs star) (fragments_of rows) xs h.first h.vectors (subst (λ fs. IsOperand fs xs) shown_are operand)

  -- where a star is within a vector, the rest of a fragment tells whether all of it is
  pub leq_beyond : (k : ℕ) (row : List ℕ) (es : List Entry) → k < length (fragments_of now) → pairs row ≡ entries_at (fragments_of rows) k → leq (entries_at (fragments_of now) 0) es ≡ true → leq (pairs row) es ≡ leq (entries_at (fragments_of now) k) es
  leq_beyond k row es l is star_in =
      let at = shown_at k l in
      let whole_vector : is_vector (entries_at (fragments_of now) k) ≡ true = ap is_vector at.entries ∙ joined_vector (entries_at (fragments_of rows) k) (pairs star) (h.vectors k) h.vector in
      let stars : leq (pairs star) es ≡ true = ap (λ s. leq s es) (sym (shown_star (omega arith))) ∙ star_in in
      ap (λ xs. leq xs es) is
      ∙ both_ways (leq (entries_at (fragments_of rows) k) es) (leq (entries_at (fragments_of now) k) es)
      (λ beyond. leq_from (entries_at (fragments_of now) k) es whole_vector (λ a. omega (arith, leq_at (entries_at (fragments_of rows) k) es a beyond, leq_at (pairs star) es a stars, at.bounds a)))
      (λ all. leq_from (entries_at (fragments_of rows) k) es (h.vectors k) (λ a. omega (arith, leq_at (entries_at (fragments_of now) k) es a all, at.bounds a)))

-- A star alone, and rows with a star that has no entries

pub star_shown : (star : List ℕ) (rows : List (List ℕ)) → IsRow star → rows ≡ [] ∷ [] ∷ [] → shown star rows ≡ [] ∷ star ∷ []
star_shown star rows row is =
    ap (shown star) is ∙ (λ i. [] ∷ (ap flat (joined_right (pairs star)) ∙ row) i ∷ [])

wholes_none : (fs : List Fragment) → list_all (λ (f : Fragment). is_vector f.entries) fs ≡ true → wholes [] fs ≡ fs
wholes_none [] h = refl
wholes_none (f ∷ fs) h =
    λ i. record { pictures = f.pictures; entries = joined_left f.entries (vector_order f.entries (grind (arith, nat_tests))) i } ∷ wholes_none fs (grind (arith, nat_tests)) i

pub plain_shown : (rows : List (List ℕ)) → AreRows rows → list_all (λ (f : Fragment). is_vector f.entries) (fragments_of rows) ≡ true → shown [] rows ≡ rows
plain_shown rows are h = ap rows_of (wholes_none (fragments_of rows) h) ∙ are

-- A star that rises by one entry

raised_each : (s : List Entry) (e : Entry) (fs : List Fragment) → is_vector s ≡ true → is_vector (e ∷ []) ≡ true → ((k : ℕ) → is_vector (entries_at fs k) ≡ true) → wholes (joined s (e ∷ [])) fs ≡ all_raised e (wholes s fs)
raised_each s e [] hs he h = refl
raised_each s e (f ∷ fs) hs he h =
    let own = h 0 in
    let later = joined_vector s (e ∷ []) hs he in
    let before = joined_vector f.entries s own hs in
    let same : joined f.entries (joined s (e ∷ [])) ≡ joined (joined f.entries s) (e ∷ []) =
    one_by_bounds _ _ (joined_vector f.entries (joined s (e ∷ [])) own later) (joined_vector (joined f.entries s) (e ∷ []) before he)
    (λ a. omega (arith, joined_bound f.entries (joined s (e ∷ [])) a own later, joined_bound s (e ∷ []) a hs he, joined_bound (joined f.entries s) (e ∷ []) a before he, joined_bound f.entries s a own hs)) in
    λ i. record { pictures = f.pictures; entries = same i } ∷ raised_each s e fs hs he (λ k. h (suc k)) i

-- what a star is once a word was put in it
pub record IsRaised (star words : List ℕ) (rows now : List (List ℕ)) (e : Entry) : Type 0 where
  pub excess : IsExcess words rows
  pub shown : shown words rows ≡ rows_of (all_raised e (fragments_of now))

module _ (star : List ℕ) (rows now : List (List ℕ)) (a n place : ℕ) (h : IsExcess star rows) (is : shown star rows ≡ now) (waits : IsWaiting (a, n) (fragments_of now)) (found : 0 < bound (pairs star) a → IsPlaceOf (pairs star) place a) where
  abbrev e : Entry
  e = (a, n)

  one : is_vector (e ∷ []) ≡ true
  one = and_from _ _ refl (and_from _ _ waits.entry refl)

  star_is : entries_at (fragments_of now) 0 ≡ pairs star
  star_is = shown_star star rows now h is (normal_some (fragments_of now) waits.normal)

  there : IsPlaceOf (pairs star) place a
  there = found (subst (λ es. 0 < bound es a) star_is waits.some)

  -- the bound stands in the star
  pub raised_inside : 2 * place + 1 < length star
  raised_inside = omega (arith, there.inside, row_length star h.row)

  entries : pairs (flat (joined (pairs star) (e ∷ []))) ≡ joined (pairs star) (e ∷ [])
  entries = pairs_flat (joined (pairs star) (e ∷ []))

  -- no row has a bound of the author
  beyond : (k : ℕ) → bound (entries_at (fragments_of rows) k) a ≡ 0
  beyond k = grind (arith, nat_tests, cases_lt k (length (fragments_of now)), all_at (λ (f : Fragment). leb (bound f.entries a) (bound (entries_at (fragments_of now) 0) a)) (fragments_of now) k nothing waits.level, λ (l : k < length (fragments_of now)). (shown_at star rows now h is k l).bounds a, star_is, h.exceeds k a, shown_count star rows now h is, get_or_past (fragments_of rows) k nothing)

  pub raised_star : (words : List ℕ) → words ≡ set star (2 * place + 1) n → IsRaised star words rows now (a, n)
  raised_star words put =
      let made : words ≡ flat (joined (pairs star) (e ∷ [])) = put ∙ ((λ i. set (sym h.row i) (2 * place + 1) n) ∙ row_put (pairs star) place a n (vector_order (pairs star) h.vector) there.inside there.key_is (subst (λ es. bound es a ≤ n) star_is waits.most)) in
      subst (λ ws. IsRaised star ws rows now (a, n)) (sym made) (record {
        excess = grind (arith, flat_row (joined (pairs star) (e ∷ [])), entries, joined_vector (pairs star) (e ∷ []) h.vector one, h.are_rows, h.first, h.vectors, nat_tests, λ (k b : ℕ). h.exceeds k b, λ (b : ℕ). joined_bound (pairs star) (e ∷ []) b h.vector one, beyond);
        shown = ap (λ es. rows_of (wholes es (fragments_of rows))) entries ∙ (ap rows_of (raised_each (pairs star) e (fragments_of rows) h.vector one h.vectors) ∙ ap (λ fs. rows_of (all_raised e fs)) (sym (shown_are star rows now h is)));
      })

-- What a union is with its star

-- the star that is joined of two
pub star_joined : (s t u w words : List ℕ) (rows others : List (List ℕ)) → IsExcess s rows → IsExcess t others → u ≡ s → w ≡ t → pairs words ≡ exceeding [] (joined (pairs u) (pairs w)) → pairs words ≡ joined (pairs s) (pairs t)
star_joined s t u w words rows others h g is same made =
    made ∙ ((λ i. exceeding [] (joined (pairs (is i)) (pairs (same i)))) ∙ exceeding_none (joined (pairs s) (pairs t)) (joined_vector (pairs s) (pairs t) h.vector g.vector))

pub record IsMade (words : List ℕ) (left right out : List (List ℕ)) (xs ys zs : List (ℕ × ℕ)) : Type 0 where
  pub excess : IsExcess words out
  pub rows : AreRows (shown words out)
  pub union : IsUnion (fragments_of left) xs (fragments_of right) ys (fragments_of (shown words out)) zs

pub union_made : (s t words : List ℕ) (one other left right out : List (List ℕ)) (xs ys zs : List (ℕ × ℕ)) → IsExcess s one → shown s one ≡ left → IsExcess t other → shown t other ≡ right → IsRow words → pairs words ≡ joined (pairs s) (pairs t) → IsOperand (fragments_of left) xs → IsOperand (fragments_of right) ys → IsWritten (pairs words) (fragments_of one) xs (fragments_of other) ys out zs → IsMade words left right out xs ys zs
union_made s t words one other left right out xs ys zs h is g same row both x y w =
    let fs = fragments_of one in
    let gs = fragments_of other in
    let operand = shown_operand s one left h is xs x in
    let other_operand = shown_operand t other right g same ys y in
    let vector : is_vector (pairs words) ≡ true = ap is_vector both ∙ joined_vector (pairs s) (pairs t) h.vector g.vector in
    let made = whole_union (pairs words) fs gs xs ys operand other_operand h.first g.first w.us zs w.union (pairs s) (pairs t) h.vector g.vector both in
    record {
      excess = union_excess (pairs words) fs gs xs ys operand other_operand h.first g.first w.us zs w.union words out row refl vector w.rows;
      rows = rows_rows (wholes (pairs words) (fragments_of out));
      union = transport (λ i. IsUnion (sym (shown_are s one left h is) i) xs (sym (shown_are t other right g same) i) ys (sym (fragments_rows (wholes (pairs words) (fragments_of out)) ∙ ap (wholes (pairs words)) (ap fragments_of w.rows ∙ fragments_rows w.us)) i) zs) made;
    }
