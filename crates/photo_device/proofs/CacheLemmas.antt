-- What is cached, once one more is inserted or places are reserved.
use Rattle.std.proofs.Common.{◌≡◌, ℕ, zero, suc, ◌<◌, ◌≤◌, true, List, [], ◌∷◌, ◌++◌, length, get_or, set, replicate, Vec, refl, sym, ◌∙◌, inl, inr, subst, arith, length-append}
use Rattle.std.specs.declared.alloc.Global.{Global}
use Rattle.std.proofs.Math.ListN.{length-set, get_or-append}
use Rattle.std.proofs.Math.Seq.{get_or-append_seam}
use Rattle.std.proofs.lemmas.Bool.{cases_lt}
use Rattle.std.proofs.lemmas.List.{get_or_default, get_or-set_same, get_or-set_other}
use Rattle.photo_version.specs.Version.{Version, version}
use Rattle.item_knowledge.specs.Fragments.{Fragment, knows}
use Rattle.photo_device.specs.Cached.{author_of_row, IsRow, AreKnown, IsSmall}

-- another row, and a row with one place written, with places behind it, and a new one

known_set : (known : List Fragment) (rows : List (Vec ℕ Global)) (a : ℕ) (new : Vec ℕ Global) → AreKnown known rows → IsRow known a new.items → AreKnown known (set rows a new)
known_set known rows a new old row b d within = let was = old b d in grind (arith, get_or-set_same, get_or-set_other, length-set)

row_set : (known : List Fragment) (a i picture : ℕ) (row : List ℕ) → i < length row → IsRow known a row → knows known picture (version (author_of_row a) i) ≡ true → IsRow known a (set row i picture)
row_set known a i picture row inside old there n = let was = old n in grind (arith, get_or-set_same, get_or-set_other)

nothing_behind : (row : List ℕ) (k n : ℕ) → get_or (row ++ replicate k 0) n 0 ≡ get_or row n 0
nothing_behind [] zero n = refl
nothing_behind [] (suc k) zero = refl
nothing_behind [] (suc k) (suc n) = nothing_behind [] k n
nothing_behind (x ∷ xs) k zero = refl
nothing_behind (x ∷ xs) k (suc n) = nothing_behind xs k n

pub known_behind : (known : List Fragment) (rows : List (Vec ℕ Global)) (new : Vec ℕ Global) → new.items ≡ [] → AreKnown known rows → AreKnown known (rows ++ new ∷ [])
known_behind known rows new empty old a d within = elim (cases_lt a (length rows)) [
  | inl before ↦ rw (get_or-append rows (new ∷ []) d a before) (old a d before)
  | inr last ↦
      let here : a ≡ length rows = omega (arith, length-append rows (new ∷ [])) in
      rw (here, get_or-append_seam rows new [] d, empty) (λ n some. absurd (omega arith))
]

-- what a look-up, an insertion and more places come to

is_row : (known : List Fragment) (rows : List (Vec ℕ Global)) (a : ℕ) (row : Vec ℕ Global) → a < length rows → row ≡ get_or rows a row → AreKnown known rows → IsRow known a row.items
is_row known rows a row within is all = rw is (all a row within)

pub known_here : (known : List Fragment) (rows : List (Vec ℕ Global)) (a n at picture : ℕ) (row : Vec ℕ Global) (v : Version) → a < length rows → row ≡ get_or rows a row → n < length row.items → at ≡ get_or row.items n at → at ≡ picture → 0 < picture → author_of_row a ≡ v.author → n ≡ v.number → AreKnown known rows → knows known picture v ≡ true
known_here known rows a n at picture row v within of_rows inside of_row is above of_author of_number all = grind (arith, get_or_default, is_row)

pub cached_more : (known : List Fragment) (rows : List (Vec ℕ Global)) (a n q picture : ℕ) (row new : Vec ℕ Global) (v : Version) → a < length rows → row ≡ get_or rows a row → n < length row.items → new.items ≡ set row.items n q → q ≡ picture → author_of_row a ≡ v.author → n ≡ v.number → knows known picture v ≡ true → AreKnown known rows → AreKnown known (set rows a new)
cached_more known rows a n q picture row new v within of_rows inside is of_picture of_author of_number there all =
    let known_there : knows known q (version (author_of_row a) n) ≡ true = (λ i. knows known (of_picture i) (version (of_author i) (of_number i))) ∙ there in
    known_set known rows a new all (subst (IsRow known a) (sym is) (row_set known a n q row.items inside (is_row known rows a row within of_rows all) known_there))

pub known_still : (known : List Fragment) (rows : List (Vec ℕ Global)) (a k : ℕ) (row new : Vec ℕ Global) → a < length rows → row ≡ get_or rows a row → new.items ≡ row.items ++ replicate k 0 → AreKnown known rows → AreKnown known (set rows a new)
known_still known rows a k row new within of_rows is all =
    known_set known rows a new all (subst (IsRow known a) (sym is) (λ n. rw (nothing_behind row.items k n) (is_row known rows a row within of_rows all n)))

-- the cache stays small with one row more, and with another short row

pub small_behind : (rows : List (Vec ℕ Global)) (new : Vec ℕ Global) → new.items ≡ [] → length rows < 8192 → IsSmall rows → IsSmall (rows ++ new ∷ [])
small_behind rows new empty room small = record {
  few = omega (arith, small.few, length-append rows (new ∷ []));
  short = λ a d within. elim (cases_lt a (length rows)) [
    | inl before ↦ rw (get_or-append rows (new ∷ []) d a before) (small.short a d before)
    | inr last ↦
        let here : a ≡ length rows = omega (arith, length-append rows (new ∷ [])) in
        rw (here, get_or-append_seam rows new [] d, empty) (omega arith)
  ];
}

pub small_still : (rows : List (Vec ℕ Global)) (a : ℕ) (new : Vec ℕ Global) → length new.items ≤ 1250030 → IsSmall rows → IsSmall (set rows a new)
small_still rows a new short small = record {
  few = rw (length-set rows a new) small.few;
  short = λ b d within. let was = small.short b d in grind (arith, get_or-set_same, get_or-set_other, length-set);
}

pub short_here : (rows : List (Vec ℕ Global)) (a : ℕ) (row : Vec ℕ Global) → a < length rows → row ≡ get_or rows a row → IsSmall rows → length row.items ≤ 1250030
short_here rows a row within is small = rw is (small.short a row within)
