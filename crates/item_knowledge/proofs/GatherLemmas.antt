-- Pictures of a table that are gathered in the groups of their vectors.
use Rattle.std.proofs.Common.{◌≡◌, ℕ, zero, suc, ◌+◌, ◌<◌, ◌≤◌, Bool, true, false, not, ltb, eqb, List, [], ◌∷◌, ◌++◌, length, get_or, set, map, refl, sym, subst, ap, ◌∙◌, inl, inr, arith, append-nil, length-set}
use Rattle.std.specs.List.{list_all, filter, position_or_len}
use Rattle.std.proofs.lemmas.List.Folds.{list_all-append, list_all-map}
use Rattle.std.proofs.lemmas.Bool.{and_parts, and_from, or_right, not-true, lt-ltb, eqb-true, cases_lt}
use Rattle.std.proofs.lemmas.Bool.Decides.{nat_tests}
use Rattle.std.proofs.lemmas.Grind.{common_steps}
use Rattle.std.proofs.lemmas.List.Sums.{passes_at_first, fails_before_first}
use Rattle.item_knowledge.specs.Tables.{keys_pass, in_order, at, each}
use Rattle.item_knowledge.specs.Entries.{Entry, is_vector, same_entries}
use Rattle.item_knowledge.specs.Excess.{AllDiffer}
use Rattle.item_knowledge.specs.Fragments.{Fragment, first, lists, rises, is_group, goes_before, are_groups, is_normal, find, or_star, known, nothing, entries_at}
use Rattle.item_knowledge.specs.Gathering.{IsIndex, table_of, pictures_of, pictures_at, star_first, IsGathered, IsAdded}
use Rattle.item_knowledge.proofs.FragmentLemmas.{entries_decide, find_here, find_later}
use Rattle.item_knowledge.proofs.PictureLemmas.{lists_head, first_listed}
use Rattle.item_knowledge.proofs.TableLemmas.{at_above, each_keys, each_order, each_at}

abbrev pub of_one : ℕ → List Entry → Fragment
of_one p v = record { pictures = p ∷ []; entries = v }

-- Lists of pairs in order

all_from : {X : Type 0} (test : X → Bool) (xs : List X) (d : X) → ((k : ℕ) → k < length xs → test (get_or xs k d) ≡ true) → list_all test xs ≡ true
all_from test [] d h = refl
all_from test (x ∷ xs) d h = and_from _ _ (h 0 (omega arith)) (all_from test xs d (λ k l. h (suc k) (omega (arith, l))))

all_kept : {X : Type 0} (test keep : X → Bool) (xs : List X) → list_all test xs ≡ true → list_all test (filter keep xs) ≡ true
all_kept test keep [] h = refl
all_kept test keep (x ∷ xs) h = grind (arith, all_kept test keep xs)

order_kept : {A : Type 0} (keep : ℕ × A → Bool) (xs : List (ℕ × A)) → in_order xs ≡ true → in_order (filter keep xs) ≡ true
order_kept keep [] h = refl
order_kept keep (x ∷ xs) h = grind (arith, all_kept (λ y. ltb x.0 y.0) keep xs, order_kept keep xs)

each_append : {B C : Type 0} (other : B → C) (xs ys : List (ℕ × B)) → each other (xs ++ ys) ≡ each other xs ++ each other ys
each_append other [] ys = refl
each_append other (x ∷ xs) ys = ap (λ zs. (x.0, other x.1) ∷ zs) (each_append other xs ys)

-- what stands before another is below it
order_below : {A : Type 0} (xs : List (ℕ × A)) (y : ℕ × A) (ys : List (ℕ × A)) → in_order (xs ++ y ∷ ys) ≡ true → keys_pass (λ k. ltb k y.0) xs ≡ true
order_below [] y ys h = refl
order_below (x ∷ xs) y ys h = grind (arith, order_below xs y ys, list_all-append (λ (z : ℕ × _). ltb x.0 z.0) xs (y ∷ ys))

-- A table of vectors

pub table_others : (f : ℕ × ℕ → List Entry) (rs : List (ℕ × (ℕ × ℕ))) → list_all (λ t. not (same_entries [] t.1)) (table_of [] f rs) ≡ true
table_others f rs = kept (each f rs) where
  kept : (ts : List (ℕ × List Entry)) → list_all (λ t. not (same_entries [] t.1)) (filter (λ t. not (same_entries [] t.1)) ts) ≡ true
  kept [] = refl
  kept (t ∷ ts) = let rest = kept ts in grind arith

module _ (f : ℕ × ℕ → List Entry) (rs : List (ℕ × (ℕ × ℕ))) (order : in_order rs ≡ true) where
  pub table_order : in_order (table_of [] f rs) ≡ true
  table_order = order_kept (λ t. not (same_entries [] t.1)) (each f rs) (each_order f rs ∙ order)

  pub table_pass : (test : ℕ → Bool) → keys_pass test rs ≡ true → keys_pass test (table_of [] f rs) ≡ true
  table_pass test h = all_kept (λ t. test t.0) (λ t. not (same_entries [] t.1)) (each f rs) (each_keys f test rs ∙ h)

  pub table_at : (p : ℕ) → [] ≡ f (0, 0) → at [] (table_of [] f rs) p ≡ f (at (0, 0) rs p)
  table_at p none = kept (each f rs) (each_order f rs ∙ order) ∙ ap (λ d. at d (each f rs) p) none ∙ each_at f (0, 0) rs p where
    kept : (ts : List (ℕ × List Entry)) → in_order ts ≡ true → at [] (filter (λ t. not (same_entries [] t.1)) ts) p ≡ at [] ts p
    kept [] o = refl
    kept (t ∷ ts) o = grind (arith, nat_tests, kept ts, at_above [] ts t.0, (entries_decide [] t.1).0)

-- One picture more

pub none_gathered : (table left : List (ℕ × List Entry)) (gs : List Fragment) (index : List (ℕ × ℕ)) → left ≡ table → gs ≡ [] → index ≡ [] → IsGathered table left gs index
none_gathered table left gs index all g n = grind arith

-- the group is there
pub group_grown : (p : ℕ) (v : List Entry) (gs more : List Fragment) (place : ℕ) → place < length gs → entries_at gs place ≡ v → more ≡ set gs place (record { pictures = pictures_at gs place ++ p ∷ []; entries = entries_at gs place }) → IsAdded p v gs more place
group_grown p v gs more place inside is grown = grind (arith, common_steps)

-- it begins at the end
pub group_begun : (p : ℕ) (v : List Entry) (gs more : List Fragment) (place : ℕ) → place ≡ length gs → more ≡ gs ++ of_one p v ∷ [] → IsAdded p v gs more place
group_begun p v gs more place end begun = grind (arith, common_steps)

range_wider : (n m : ℕ) (zs : List (ℕ × ℕ)) → n ≤ m → list_all (λ z. ltb z.1 n) zs ≡ true → list_all (λ z. ltb z.1 m) zs ≡ true
range_wider n m [] l h = refl
range_wider n m (z ∷ zs) l h = grind (arith, nat_tests, range_wider n m zs)

each_same : (f g : ℕ → List Entry) (n : ℕ) (zs : List (ℕ × ℕ)) → ((k : ℕ) → k < n → f k ≡ g k) → list_all (λ z. ltb z.1 n) zs ≡ true → each f zs ≡ each g zs
each_same f g n [] e h = refl
each_same f g n (z ∷ zs) e h = grind (arith, nat_tests, each_same f g n zs e, e z.1)

module _ {table now left : List (ℕ × List Entry)} {gs : List Fragment} {index : List (ℕ × ℕ)} {p : ℕ} {v : List Entry} (h : IsGathered table now gs index) (next : now ≡ (p, v) ∷ left) (order : in_order table ≡ true)
    (new : List Fragment) (place : ℕ) (more : List (ℕ × ℕ)) (a : IsAdded p v gs new place) (other : same_entries [] v ≡ false) (pushed : more ≡ index ++ (p, place + 1) ∷ []) where
  below : (k : ℕ) → k < length gs → first (pictures_at gs k) < p
  below k l =
      let all : keys_pass (λ q. ltb q p) index ≡ true = sym (each_keys (entries_at (nothing ∷ gs)) (λ q. ltb q p) index) ∙ order_below (each (entries_at (nothing ∷ gs)) index) (p, v) left (subst (λ ts. in_order ts ≡ true) (sym h.vectors ∙ ap (λ ts. each (entries_at (nothing ∷ gs)) index ++ ts) next) order) in
      let each_of : list_all (λ q. ltb q p) (pictures_of (suc k) index) ≡ true = list_all-map (λ q. ltb q p) (λ (z : ℕ × ℕ). z.0) (filter (λ z. eqb z.1 (suc k)) index) ∙ all_kept (λ z. ltb z.0 p) (λ z. eqb z.1 (suc k)) index all in
      grind (arith, nat_tests, h.pictures k, each_of, (h.some k l).0)

  stays : (n : ℕ) → n < suc (length gs) → entries_at (nothing ∷ new) n ≡ entries_at (nothing ∷ gs) n
  stays zero l = refl
  stays (suc n) l = a.kept n (omega (arith, l))

  pub one_gathered : IsGathered table left new more
  one_gathered = record {
    vectors = grind (arith, common_steps, each_append (entries_at (nothing ∷ new)) index ((p, suc place) ∷ []), each_same (entries_at (nothing ∷ new)) (entries_at (nothing ∷ gs)) (suc (length gs)) index stays h.range, h.vectors, a.vector);
    range = grind (arith, common_steps, range_wider (suc (length gs)) (suc (length new)) index (omega (arith, a.longer)) h.range, a.inside);
    pictures = λ k. let was = h.pictures k in let now = a.pictures k in grind (arith, common_steps);
    some = λ k l. grind (arith, common_steps, cases_lt k (length gs), a.pictures k, a.kept k, h.some k, a.new k, a.vector);
    order = λ j k l m. grind (arith, cases_lt k (length gs), cases_lt j (length gs), common_steps, h.order j k l, h.some j, h.some k, below j, a.pictures j, a.pictures k, a.new j, a.new k);
  }

-- The next picture of a table

pub left_is : {table now left : List (ℕ × List Entry)} {gs : List Fragment} {index : List (ℕ × ℕ)} → now ≡ left → IsGathered table now gs index → IsGathered table left gs index
left_is {table} {now} {left} {gs} {index} is h = subst (λ ts. IsGathered table ts gs index) is h

module _ (f : ℕ × ℕ → List Entry) {now rest : List (ℕ × (ℕ × ℕ))} {r : ℕ × (ℕ × ℕ)} (next : now ≡ r ∷ rest) where
  pub table_same : same_entries [] (f r.1) ≡ true → table_of [] f now ≡ table_of [] f rest
  table_same same = ap (table_of [] f) next ∙ rw same refl

  pub table_other : same_entries [] (f r.1) ≡ false → table_of [] f now ≡ (r.0, f r.1) ∷ table_of [] f rest
  table_other other = ap (table_of [] f) next ∙ rw other refl

-- What is gathered is a normal form

rise : {A : Type 0} (zs : List (ℕ × A)) → in_order zs ≡ true → rises (map (λ z. z.0) zs) ≡ true
rise [] h = refl
rise (z ∷ zs) h = grind (arith, rise zs, list_all-map (λ q. ltb z.0 q) (λ (y : ℕ × _). y.0) zs)

-- a picture is in the group of its number
number_lists : (k : ℕ) (zs : List (ℕ × ℕ)) (p : ℕ) → in_order zs ≡ true → lists (pictures_of (suc k) zs) p ≡ eqb (at 0 zs p) (suc k)
number_lists k [] p h = grind (arith, nat_tests)
number_lists k (z ∷ zs) p h = grind (arith, nat_tests, number_lists k zs p, at_above 0 zs z.0)

find_number : (gs : List Fragment) (n p : ℕ) → ((k : ℕ) → k < length gs → lists (get_or gs k nothing).pictures p ≡ eqb n (suc k)) → or_star [] (find gs p) ≡ entries_at (nothing ∷ gs) n
find_number [] n p is = grind arith
find_number (g ∷ gs) (suc zero) p is = ap (or_star []) (find_here g gs p (is 0 (omega arith)))
find_number (g ∷ gs) zero p is = ap (or_star []) (find_later g gs p (is 0 (omega arith))) ∙ find_number gs zero p (λ k l. is (suc k) (omega (arith, l)) ∙ (grind (arith, nat_tests)))
find_number (g ∷ gs) (suc (suc n)) p is = ap (or_star []) (find_later g gs p (is 0 (omega arith) ∙ (grind (arith, nat_tests)))) ∙ find_number gs (suc n) p (λ k l. is (suc k) (omega (arith, l)) ∙ (grind (arith, nat_tests)))

groups_from : (gs : List Fragment) → ((k : ℕ) → k < length gs → is_group [] (get_or gs k nothing) ≡ true) → ((j k : ℕ) → j < k → k < length gs → goes_before (get_or gs j nothing) (get_or gs k nothing) ≡ true) → are_groups [] gs ≡ true
groups_from [] each before = refl
groups_from (g ∷ gs) each before =
    and_from _ _ (and_from _ _ (each 0 (omega arith)) (all_from (λ (h : Fragment). goes_before g h) gs nothing (λ k l. before 0 (suc k) (omega arith) (omega (arith, l)))))
    (groups_from gs (λ k l. each (suc k) (omega (arith, l))) (λ j k l m. before (suc j) (suc k) (omega (arith, l)) (omega (arith, m))))

all_listed : (test : ℕ → Bool) (ps : List ℕ) → ((p : ℕ) → lists ps p ≡ true → test p ≡ true) → list_all test ps ≡ true
all_listed test [] h = refl
all_listed test (p ∷ ps) h = and_from _ _ (h p (lists_head p ps)) (all_listed test ps (λ q l. h q (or_right (eqb p q) (lists ps q) l)))

module _ {table : List (ℕ × List Entry)} {gs : List Fragment} {index : List (ℕ × ℕ)} (h : IsGathered table [] gs index) (differ : AllDiffer gs) (order : in_order table ≡ true) (positive : keys_pass (λ p. ltb 0 p) table ≡ true) (vectors : (p : ℕ) → is_vector (at [] table p) ≡ true) where
  abbrev us : List Fragment
  us = star_first [] gs

  reads : each (entries_at us) index ≡ table
  reads = sym (append-nil (each (entries_at us) index)) ∙ h.vectors

  index_order : in_order index ≡ true
  index_order = sym (each_order (entries_at us) index) ∙ ap in_order reads ∙ order

  index_positive : keys_pass (λ p. ltb 0 p) index ≡ true
  index_positive = sym (each_keys (entries_at us) (λ p. ltb 0 p) index) ∙ ap (keys_pass (λ p. ltb 0 p)) reads ∙ positive

  vector_at : (p : ℕ) → entries_at us (at 0 index p) ≡ at [] table p
  vector_at p = sym (each_at (entries_at us) 0 index p) ∙ ap (λ ts. at [] ts p) reads

  listed_at : (k p : ℕ) → lists (pictures_at gs k) p ≡ eqb (at 0 index p) (suc k)
  listed_at k p = ap (λ ps. lists ps p) (h.pictures k) ∙ number_lists k index p index_order

  number_is : (k p : ℕ) → lists (pictures_at gs k) p ≡ true → at 0 index p ≡ suc k
  number_is k p l = eqb-true (at 0 index p) (suc k) (sym (listed_at k p) ∙ l)

  pub gathered_named : (k : ℕ) → k < length gs → entries_at gs k ≡ at [] table (first (pictures_at gs k))
  gathered_named k l = ap (entries_at us) (sym (number_is k (first (pictures_at gs k)) (first_listed (pictures_at gs k) (h.some k l).0))) ∙ vector_at (first (pictures_at gs k))

  is_one : (k : ℕ) → k < length gs → is_group [] (get_or gs k nothing) ≡ true
  is_one k l =
      let rising = rise (filter (λ z. eqb z.1 (suc k)) index) (order_kept (λ z. eqb z.1 (suc k)) index index_order) in
      let above = list_all-map (λ p. ltb 0 p) (λ (z : ℕ × ℕ). z.0) (filter (λ z. eqb z.1 (suc k)) index) ∙ all_kept (λ z. ltb 0 z.0) (λ z. eqb z.1 (suc k)) index index_positive in
      grind (arith, h.some k l, h.pictures k, rising, above, ap is_vector (gathered_named k l) ∙ vectors (first (pictures_at gs k)))

  are_apart : (j k : ℕ) → j < k → k < length gs → goes_before (get_or gs j nothing) (get_or gs k nothing) ≡ true
  are_apart j k l m =
      let none : (p : ℕ) → lists (pictures_at gs k) p ≡ true → not (lists (pictures_at gs j) p) ≡ true = λ p there. grind (arith, nat_tests, number_is k p there, listed_at j p) in
      let other : not (same_entries (entries_at gs j) (entries_at gs k)) ≡ true = grind (arith, nat_tests, (entries_decide (entries_at gs j) (entries_at gs k)).0, differ j k l m) in
      and_from _ _ (lt-ltb _ _ (h.order j k l m)) (and_from _ _ other (all_listed _ (pictures_at gs k) none))

  pub gathered_normal : is_normal us ≡ true
  gathered_normal = and_from _ _ refl (groups_from gs is_one are_apart)

  known_is : (p : ℕ) → known us p ≡ entries_at us (at 0 index p)
  known_is p = find_number gs (at 0 index p) p (λ k l. listed_at k p)

  pub gathered_index : IsIndex index us
  gathered_index = record { order = index_order; positive = index_positive; range = h.range; vectors = λ p. sym (known_is p) }

  pub gathered_known : (p : ℕ) → known us p ≡ at [] table p
  gathered_known p = known_is p ∙ vector_at p

-- Every table is gathered

pub groups_of : (table left : List (ℕ × List Entry)) (gs : List Fragment) (index : List (ℕ × ℕ)) → in_order table ≡ true → list_all (λ t. not (same_entries [] t.1)) left ≡ true → IsGathered table left gs index → AllDiffer gs
    → (us : List Fragment) × (zs : List (ℕ × ℕ)) × IsGathered table [] us zs × AllDiffer us
groups_of table [] gs index order others h differ = (gs, index, h, differ)
groups_of table (t ∷ left) gs index order others h differ = elim (cases_lt place (length gs)) [
  | inl there ↦
      let here = (entries_decide (entries_at gs place) t.1).0 (passes_at_first (λ g. same_entries g.entries t.1) gs nothing there) in
      let added = group_grown t.0 t.1 gs _ place there here refl in
      let long = length-set gs place (record { pictures = pictures_at gs place ++ t.0 ∷ []; entries = entries_at gs place }) in
      groups_of table left _ (index ++ (t.0, place + 1) ∷ []) order (and_parts _ _ others).1 (one_gathered h refl order _ place _ added other refl)
      (λ j k l m e. differ j k l (omega (arith, long, m)) (sym (added.kept j (omega (arith, long, l, m))) ∙ e ∙ added.kept k (omega (arith, long, m))))
  | inr past ↦
      groups_of table left (gs ++ of_one t.0 t.1 ∷ []) (index ++ (t.0, length gs + 1) ∷ []) order (and_parts _ _ others).1 (one_gathered h refl order _ (length gs) _ (group_begun t.0 t.1 gs _ (length gs) refl refl) other refl)
      (λ j k l m e. grind (arith, common_steps, differ j k l, fails_before_first (λ g. same_entries g.entries t.1) gs j nothing, (entries_decide (entries_at gs j) t.1).1))
]
  where
    place : ℕ
    place = position_or_len (λ g. same_entries g.entries t.1) gs

    other : same_entries [] t.1 ≡ false
    other = not-true _ (and_parts _ _ others).0
