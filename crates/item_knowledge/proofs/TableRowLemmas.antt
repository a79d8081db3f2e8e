-- What is told of pictures, as rows.
use Rattle.std.proofs.Common.{◌≡◌, ℕ, suc, ◌+◌, ◌<◌, ◌≤◌, Bool, true, false, ltb, ◌&&◌, ◌||◌, List, [], ◌∷◌, ◌++◌, length, take, refl, sym, subst, ap, ◌∙◌, arith, append_assoc, append-nil, Some}
use Rattle.std.specs.List.{list_all, list_any, slice_get}
use Rattle.std.proofs.lemmas.List.{length-append, length-map, map-append, take_more}
use Rattle.std.proofs.lemmas.List.Folds.{list_all-append, list_all-map}
use Rattle.std.proofs.lemmas.Option.{slice_get_within, get_or_from_slice_get}
use Rattle.std.proofs.Math.ListN.{get_or-append}
use Rattle.std.proofs.Math.Seq.{get_or-append_seam}
use Rattle.std.proofs.lemmas.Bool.{and_from, lt-ltb}
use Rattle.std.proofs.lemmas.Bool.Decides.{nat_tests}
use Rattle.photo_version.specs.Author.{author_word, author_before}
use Rattle.photo_version.specs.Version.{Version}
use Rattle.photo_version.specs.Vector as versions
use Rattle.photo_version.specs.Vector.{Bound}
use Rattle.item_knowledge.specs.Tables.{keys_pass, in_order, at}
use Rattle.item_knowledge.specs.DistinctUnion.{numbered}
use Rattle.item_knowledge.specs.Entries.{Entry, denotes, is_entry, is_vector}
use Rattle.item_knowledge.specs.Fragments.{Fragment, reaches, knows, nothing, entries_at}
use Rattle.item_knowledge.specs.Rows.{flat, fragments_of, rows_of, AreRows}
use Rattle.item_knowledge.specs.Gathering.{is_above, IsOperand, star_first}
use Rattle.item_knowledge.specs.TableRows.{entries_of, told_one, told, IsTold, IsTelling}
use Rattle.item_knowledge.proofs.DistinctUnionLemmas.{rows_snoc, numbered_snoc}
use Rattle.item_knowledge.proofs.RowLemmas.{fragments_rows, rows_rows}

pub got_take : {X : Type 0} (xs : List X) (i : ℕ) (x : X) → slice_get xs i ≡ Some x → take (i + 1) xs ≡ take i xs ++ x ∷ []
got_take xs i x h = take_more xs i x (slice_get_within xs i x h) ∙ ap (λ y. take i xs ++ y ∷ []) (get_or_from_slice_get xs i x x h)

-- A vector's bounds

words_above : (b : Bound) (bs : List Bound) → keys_pass (λ k. ltb (author_word b.0) k) (entries_of bs) ≡ list_all (λ (c : Bound). author_before b.0 c.0) bs
words_above b bs = list_all-map (λ (e : Entry). ltb (author_word b.0) e.0) (λ (c : Bound). (author_word c.0, c.1)) bs

words_order : (bs : List Bound) → versions.is_vector bs ≡ true → in_order (entries_of bs) ≡ true
words_order [] h = refl
words_order (b ∷ bs) h = grind (arith, nat_tests, words_above b bs, words_order bs)

pub bounds_vector : (bs : List Bound) → is_vector (entries_of bs) ≡ true → versions.is_vector bs ≡ true
bounds_vector [] h = refl
bounds_vector (b ∷ bs) h = grind (arith, nat_tests, words_above b bs, bounds_vector bs)

pub entries_denote : (bs : List Bound) (v : Version) → denotes (entries_of bs) v ≡ versions.denotes bs v
entries_denote [] v = refl
entries_denote (b ∷ bs) v = ap (λ r. versions.reaches b v || r) (entries_denote bs v)

-- A row of all entries

pub record IsRowOf (bs : List Bound) (row : List ℕ) : Type 0 where
  pub row_is : row ≡ flat (entries_of bs)
  pub entries : list_all (λ (e : Entry). is_entry e) (entries_of bs) ≡ true

pub row_vector : {bs : List Bound} {row : List ℕ} → IsRowOf bs row → versions.is_vector bs ≡ true → is_vector (entries_of bs) ≡ true
row_vector {bs} h v = and_from _ _ (words_order bs v) h.entries

pub row_more : (bs : List Bound) (b : Bound) (row new : List ℕ) → IsRowOf bs row → new ≡ (row ++ author_word b.0 ∷ []) ++ b.1 ∷ [] → is_entry (author_word b.0, b.1) ≡ true → IsRowOf (bs ++ b ∷ []) new
row_more bs b row new h is e = record {
  row_is = is ∙ ap (λ ws. (ws ++ author_word b.0 ∷ []) ++ b.1 ∷ []) h.row_is ∙ snoc bs;
  entries = ap (list_all (λ (f : Entry). is_entry f)) (map-append (λ (c : Bound). (author_word c.0, c.1)) bs (b ∷ [])) ∙ list_all-append (λ (f : Entry). is_entry f) (entries_of bs) ((author_word b.0, b.1) ∷ []) ∙ and_from _ _ h.entries (and_from _ _ e refl);
}
  where
    snoc : (cs : List Bound) → (flat (entries_of cs) ++ author_word b.0 ∷ []) ++ b.1 ∷ [] ≡ flat (entries_of (cs ++ b ∷ []))
    snoc [] = refl
    snoc (c ∷ cs) = ap (λ ws. author_word c.0 ∷ c.1 ∷ ws) (snoc cs)

-- The rows of what is told

pub none_told : (rows : List (List ℕ)) (numbers : List (ℕ × ℕ)) → rows ≡ [] ∷ [] ∷ [] → numbers ≡ [] → IsTold [] rows numbers
none_told rows numbers e n = record { rows_are = e; index_is = n; positive = refl; vectors = refl }

pub one_told : (ts : List (ℕ × List Bound)) (t : ℕ × List Bound) (rows new : List (List ℕ)) (numbers more : List (ℕ × ℕ)) (n : ℕ) → IsTold ts rows numbers → new ≡ (rows ++ (t.0 ∷ []) ∷ []) ++ flat (entries_of t.1) ∷ [] → more ≡ numbers ++ (t.0, n) ∷ [] → n ≡ length ts + 1 → 0 < t.0 → is_vector (entries_of t.1) ≡ true → IsTold (ts ++ t ∷ []) new more
one_told ts t rows new numbers more n h is pushed number z v =
    let groups : told ts ++ told_one t ∷ [] ≡ told (ts ++ t ∷ []) = sym (map-append (λ (u : ℕ × List Bound). told_one u) ts (t ∷ [])) in
    let next : n ≡ 1 + length (told ts) = omega (arith, length-map ts (λ (u : ℕ × List Bound). told_one u)) in
    record {
      rows_are = is ∙ (λ i. (h.rows_are i ++ (t.0 ∷ []) ∷ []) ++ flat (entries_of t.1) ∷ []) ∙ sym (rows_snoc (star_first [] (told ts)) t.0 (entries_of t.1)) ∙ ap (λ gs. rows_of (star_first [] gs)) groups;
      index_is = pushed ∙ (λ i. h.index_is i ++ (t.0, next i) ∷ []) ∙ sym (numbered_snoc 1 (told ts) t.0 (entries_of t.1)) ∙ ap (numbered 1) groups;
      positive = list_all-append (λ (u : ℕ × List Bound). ltb 0 u.0) ts (t ∷ []) ∙ and_from _ _ h.positive (and_from _ _ (lt-ltb 0 t.0 z) refl);
      vectors = list_all-append (λ (u : ℕ × List Bound). is_vector (entries_of u.1)) ts (t ∷ []) ∙ and_from _ _ h.vectors (and_from _ _ v refl);
    }

numbered_pass : (test : ℕ → Bool) (n : ℕ) (table : List (ℕ × List Bound)) → keys_pass test table ≡ true → keys_pass test (numbered n (told table)) ≡ true
numbered_pass test n [] h = refl
numbered_pass test n (t ∷ table) h = grind (arith, nat_tests, numbered_pass test (suc n) table)

numbered_order : (n : ℕ) (table : List (ℕ × List Bound)) → in_order table ≡ true → in_order (numbered n (told table)) ≡ true
numbered_order n [] h = refl
numbered_order n (t ∷ table) h = grind (arith, nat_tests, numbered_pass (λ k. ltb t.0 k) (suc n) table, numbered_order (suc n) table)

numbered_range : (n m : ℕ) (gs : List Fragment) → n + length gs ≤ m → list_all (λ (r : ℕ × ℕ). ltb r.1 m) (numbered n gs) ≡ true
numbered_range n m [] l = refl
numbered_range n m (g ∷ gs) l = grind (arith, nat_tests, numbered_range (suc n) m gs)

-- the vector of a picture that is told, which has none where it isn't
found_told : (gs : List Fragment) (n : ℕ) (table : List (ℕ × List Bound)) (p : ℕ) → n ≡ length gs → 0 < n → entries_at gs 0 ≡ [] → entries_at (gs ++ told table) (at 0 (numbered n (told table)) p) ≡ entries_of (at [] table p)
found_told gs n [] p e z s = ap (λ hs. entries_at hs 0) (append-nil gs) ∙ s
found_told gs n (t ∷ table) p e z s =
    let one = told_one t in
    let first = ap (λ (f : Fragment). f.entries) (get_or-append gs (one ∷ []) nothing 0 (omega arith)) ∙ s in
    grind (arith, nat_tests, append_assoc gs (one ∷ []) (told table), ap (λ (f : Fragment). f.entries) (get_or-append_seam gs one (told table) nothing), found_told (gs ++ one ∷ []) (suc n) table p (omega (arith, length-append gs (one ∷ []))) (omega arith) first)

-- What is told of a picture, found by the picture

-- whether fragments have a version for a picture
abbrev tells_of : ℕ → Version → Fragment → Bool
tells_of p v f = reaches f p && denotes f.entries v

none_behind : (p : ℕ) (v : Version) (table : List (ℕ × List Bound)) → keys_pass (λ k. ltb p k) table ≡ true → list_any (tells_of p v) (told table) ≡ false
none_behind p v [] h = refl
none_behind p v (t ∷ table) h = grind (arith, nat_tests, none_behind p v table)

any_told : (p : ℕ) (v : Version) (table : List (ℕ × List Bound)) → in_order table ≡ true → list_any (tells_of p v) (told table) ≡ versions.denotes (at [] table p) v
any_told p v [] h = refl
any_told p v (t ∷ table) h = grind (arith, nat_tests, any_told p v table, none_behind t.0 v table, entries_denote t.1 v)

module _ {table : List (ℕ × List Bound)} {rows : List (List ℕ)} {numbers : List (ℕ × ℕ)} (h : IsTold table rows numbers) where
  made : fragments_of rows ≡ star_first [] (told table)
  made = ap fragments_of h.rows_are ∙ fragments_rows (star_first [] (told table))

  pub told_are_rows : AreRows rows
  told_are_rows = subst AreRows (sym h.rows_are) (rows_rows (star_first [] (told table)))

  pub told_star : entries_at (fragments_of rows) 0 ≡ []
  told_star = ap (λ fs. entries_at fs 0) made

  vectors : list_all (λ (f : Fragment). is_vector f.entries) (told table) ≡ true
  vectors = list_all-map (λ (f : Fragment). is_vector f.entries) (λ (t : ℕ × List Bound). told_one t) table ∙ h.vectors

  pub told_are_vectors : list_all (λ (f : Fragment). is_vector f.entries) (fragments_of rows) ≡ true
  told_are_vectors = ap (list_all (λ (f : Fragment). is_vector f.entries)) made ∙ vectors

  pub told_operand : (xs : List (ℕ × ℕ)) → xs ≡ numbers → in_order table ≡ true → IsOperand (fragments_of rows) xs
  told_operand xs same o = subst (λ fs. IsOperand fs xs) (sym made) (subst (IsOperand (star_first [] (told table))) (sym (same ∙ h.index_is)) (grind (arith, nat_tests, above (told table) vectors, numbered_order 1 table o, numbered_pass (λ q. ltb 0 q) 1 table h.positive, numbered_range 1 (suc (length (told table))) (told table) (omega arith))))
    where
      above : (gs : List Fragment) → list_all (λ (f : Fragment). is_vector f.entries) gs ≡ true → list_all (λ (f : Fragment). is_above [] f) gs ≡ true
      above [] v = refl
      above (g ∷ gs) v = grind (arith, nat_tests, above gs)

  told_knows : (p : ℕ) (v : Version) → in_order table ≡ true → knows (fragments_of rows) p v ≡ versions.denotes (at [] table p) v
  told_knows p v o = ap (λ fs. knows fs p v) made ∙ any_told p v table o

  pub telling : (xs : List (ℕ × ℕ)) → xs ≡ numbers → in_order table ≡ true → IsTelling rows xs
  telling xs same o = grind (arith, told_are_rows, told_operand xs same o, told_star, made, same, h.index_is, λ (p : ℕ) (v : Version). told_knows p v o, λ (p : ℕ) (v : Version). entries_denote (at [] table p) v, λ (p : ℕ). found_told (nothing ∷ []) 1 table p refl (omega arith) refl)

  pub telling_pairs : (fs : List Fragment) → fs ≡ fragments_of rows → in_order table ≡ true → (p : ℕ) (v : Version) → 0 < p → knows fs p v ≡ versions.denotes (at [] table p) v
  telling_pairs fs is o p v z = ap (λ gs. knows gs p v) is ∙ told_knows p v o
