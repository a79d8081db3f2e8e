-- An author's next version, raised in place: where no fragment has the author above the star, that keeps the normal form.
use Rattle.std.proofs.Common.{◌≡◌, ℕ, ◌+◌, ◌<◌, ◌≤◌, true, leb, ltb, List, [], ◌∷◌, length, refl, sym, subst, ap, ◌∙◌, arith}
use Rattle.std.proofs.lemmas.Bool.{and_from, false≢true, or_right}
use Rattle.std.proofs.lemmas.Bool.Decides.{nat_tests}
use Rattle.photo_version.specs.Author.{Author, author_word, is_author_word}
use Rattle.photo_version.specs.Version.{Version, version}
use Rattle.item_knowledge.specs.Entries.{Entry, denotes, most_number, is_vector, bound, joined}
use Rattle.item_knowledge.specs.Fragments.{Fragment, first, reaches, knows, are_groups, is_normal, nothing, entries_at}
use Rattle.item_knowledge.specs.Gathering.{vector_of, IsIndex, IsUnion}
use Rattle.item_knowledge.specs.Kept.{IsKept, star_bound}
use Rattle.item_knowledge.specs.Raising.{IsWaiting, are_level, all_raised, star_of_one}
use Rattle.item_knowledge.specs.Spare.{IsJoined, HasNext}
use Rattle.item_knowledge.specs.Rows.{fragments_of, rows_of}
use Rattle.item_knowledge.proofs.EntryLemmas.{denotes-bound, one_by_bounds}
use Rattle.item_knowledge.proofs.ExcessLemmas.{entries_wholes, joined_normal, wholes_known, wholes_index}
use Rattle.item_knowledge.proofs.FragmentLemmas.{groups_parts, normal_parts, leq_at}
use Rattle.item_knowledge.proofs.JoinLemmas.{joined_bound, joined_denotes}
use Rattle.item_knowledge.proofs.KeptLemmas.{joins, next_known, star_next}
use Rattle.item_knowledge.proofs.MergeLemmas.{all_at}
use Rattle.item_knowledge.proofs.PictureLemmas.{listed, first_listed}
use Rattle.item_knowledge.proofs.RowLemmas.{fragments_rows}
use Rattle.item_knowledge.proofs.UnionLemmas.{above, knows_vector, normal_operand, operand_vector}

-- Raised fragments are the union with the star of one entry

-- vectors with the same bound of the author stay apart
apart : (xs ys : List Entry) (e : Entry) → is_vector xs ≡ true → is_vector ys ≡ true → is_vector (e ∷ []) ≡ true → bound xs e.0 ≡ bound ys e.0 → joined xs (e ∷ []) ≡ joined ys (e ∷ []) → xs ≡ ys
apart xs ys e hx hy he level h = one_by_bounds xs ys hx hy (λ c.
    grind (arith, nat_tests, joined_bound xs (e ∷ []) c hx he, joined_bound ys (e ∷ []) c hy he, ap (λ es. bound es c) h))

raised_union : (e : Entry) (fs : List Fragment) (xs : List (ℕ × ℕ)) → IsIndex xs fs → IsWaiting e fs → IsUnion fs xs (star_of_one e) [] (all_raised e fs) xs
raised_union e fs xs i w =
    let h = w.normal in
    let one : is_vector (e ∷ []) ≡ true = and_from _ _ refl (and_from _ _ w.entry refl) in
    let operand = normal_operand fs xs h i in
    let level : (k : ℕ) → k < length fs → bound (entries_at fs k) e.0 ≡ bound (entries_at fs 0) e.0 = λ k l.
    grind (arith, nat_tests, leq_at (entries_at fs 0) (entries_at fs k) e.0 (above fs xs k operand l).above, all_at (λ (f : Fragment). leb (bound f.entries e.0) (bound (entries_at fs 0) e.0)) fs k nothing w.level l) in
    let normal = joined_normal (λ es. bound es e.0 ≡ bound (entries_at fs 0) e.0) (e ∷ []) one (λ xs ys f g p q. apart xs ys e f g one (p ∙ sym q)) fs h level in
    grind (
      arith,
      normal,
      wholes_index (e ∷ []) fs xs h i,
      entries_wholes (e ∷ []) fs 0 operand.star,
      λ (a : ℕ). joined_bound (entries_at fs 0) (e ∷ []) a (above fs xs 0 operand operand.star).vector one,
      λ (p : ℕ) (v : Version). knows_vector (all_raised e fs) p v normal,
      λ (p : ℕ). wholes_known (e ∷ []) fs p h,
      i.vectors,
      λ (p : ℕ) (v : Version). joined_denotes (vector_of fs xs p) (e ∷ []) v (operand_vector fs xs p operand) one,
    )

-- Where no version that is known has a number above b, no bound is above b

-- what is denoted by a fragment of a picture is known of it
pub reached : (f : Fragment) (fs : List Fragment) (p : ℕ) (v : Version) → reaches f p ≡ true → denotes f.entries v ≡ true → knows (f ∷ fs) p v ≡ true
reached f fs p v here denoted = rw (here, denoted) refl

-- no picture above 0 has a version of the author above b
abbrev pub Within : List Fragment → Author → ℕ → Type 0
Within fs a b = (p n : ℕ) → 0 < p → knows fs p (version a n) ≡ true → n ≤ b

level_one : (f : Fragment) (fs : List Fragment) (p : ℕ) (a : Author) (b : ℕ) → is_vector f.entries ≡ true → 0 < p → reaches f p ≡ true → Within (f ∷ fs) a b → leb (bound f.entries (author_word a)) b ≡ true
level_one f fs p a b vector z here each =
    let n = bound f.entries (author_word a) in
    grind (arith, nat_tests, reached f fs p (version a n) here, each p n z, denotes-bound f.entries (version a n) vector)

level_groups : (star : List Entry) (gs : List Fragment) (a : Author) (b : ℕ) → are_groups star gs ≡ true → Within gs a b → are_level gs (author_word a) b ≡ true
level_groups star [] a b groups each = refl
level_groups star (g ∷ gs) a b groups each =
    let parts = groups_parts star g gs groups in
    grind (arith, nat_tests, λ (n : ℕ). each (first g.pictures) n, level_one g gs (first g.pictures) a b parts.group.vector, listed (λ q. ltb 0 q) g.pictures (first g.pictures), first_listed g.pictures parts.group.some, level_groups star gs a b parts.rest (λ p n z h. each p n z (or_right _ _ h)))

level_known : (fs : List Fragment) (a : Author) (b : ℕ) → is_normal fs ≡ true → Within fs a b → are_level fs (author_word a) b ≡ true
level_known [] a b normal each = absurd (false≢true normal)
level_known (s ∷ gs) a b normal each =
    let parts = normal_parts s gs normal in
    and_from _ _ (level_one s gs 1 a b parts.vector (omega arith) (rw parts.star refl) each) (level_groups s.entries gs a b parts.groups (λ p n z h. each p n z (or_right _ _ h)))

-- what a knowledge is that learned it
pub record IsOwned (w : Version) (fs : List Fragment) (xs : List (ℕ × ℕ)) (out : List (List ℕ)) : Type 0 where
  pub kept : IsKept out xs
  pub next : HasNext w fs (fragments_of out)

-- what is learned with the star of an author's next version
pub next_joined : (w : Version) (before fs gs new : List Fragment) (ys : List (ℕ × ℕ)) → before ≡ fs → is_normal fs ≡ true → w.number ≡ star_bound fs w.author + 1 → gs ≡ star_of_one (author_word w.author, w.number) → ys ≡ [] → IsJoined before gs ys new → HasNext w fs new
next_joined w before fs gs new ys known normal next is none j = grind (arith, j.star, j.pairs, λ (a : Author). star_next fs w.author a w.number next, λ (p : ℕ) (v : Version). next_known fs w p v normal)

-- the bound may be raised, and then the version is known
module _ (w : Version) (rows : List (List ℕ)) (xs : List (ℕ × ℕ)) (fs : List Fragment) (a n : ℕ) (h : IsKept rows xs) (same : fragments_of rows ≡ fs) (word : a ≡ author_word w.author) (number : n ≡ w.number) (author : is_author_word a ≡ true) (above : 0 < n) (fits : n ≤ most_number)
    (some : 0 < star_bound fs w.author) (next : w.number ≡ star_bound fs w.author + 1) (level : Within fs w.author (star_bound fs w.author)) where
  normal : is_normal fs ≡ true
  normal = subst (λ gs. is_normal gs ≡ true) same h.normal

  pub own_waiting : IsWaiting (a, n) (fragments_of rows)
  own_waiting = grind (arith, nat_tests, same, word, level_known fs w.author (star_bound fs w.author) normal level)

  pub owned : (out : List (List ℕ)) → out ≡ rows_of (all_raised (a, n) (fragments_of rows)) → IsOwned w fs xs out
  owned out is =
      let fragments : fragments_of out ≡ all_raised (a, n) (fragments_of rows) = ap fragments_of is ∙ fragments_rows (all_raised (a, n) (fragments_of rows)) in
      let made : IsUnion (fragments_of rows) xs (star_of_one (a, n)) [] (fragments_of out) xs = subst (λ us. IsUnion (fragments_of rows) xs (star_of_one (a, n)) [] us xs) (sym fragments) (raised_union (a, n) (fragments_of rows) xs h.index own_waiting) in
      record {
        kept = record { rows = ap rows_of fragments ∙ sym is; normal = made.normal; index = made.index };
        next = next_joined w fs fs (star_of_one (a, n)) (fragments_of out) [] refl normal next (λ i. star_of_one (word i, number i)) refl (joins rows xs fs (star_of_one (a, n)) (fragments_of out) [] xs h same made);
      }
