-- What exceeds a star, and with the star is a whole vector.
use Rattle.std.proofs.Common.{◌≡◌, ℕ, zero, suc, ◌<◌, ◌≤◌, Bool, true, ltb, cond, max, List, [], ◌∷◌, length, get_or, refl, ap, arith}
use Rattle.std.specs.List.{list_all}
use Rattle.std.proofs.lemmas.List.{length-map, get_or-map}
use Rattle.std.proofs.lemmas.Bool.{and_from, false≢true}
use Rattle.std.proofs.lemmas.Bool.Decides.{nat_tests}
use Rattle.item_knowledge.specs.Tables.{in_order, at}
use Rattle.item_knowledge.specs.Entries.{Entry, is_entry, is_vector, bound, joined}
use Rattle.item_knowledge.specs.Excess.{exceeding, exceeds_all, is_covered, whole, wholes, AllDiffer}
use Rattle.item_knowledge.specs.Fragments.{Fragment, nothing, goes_before, are_groups, is_normal, find, or_star, known, entries_at}
use Rattle.item_knowledge.specs.Gathering.{is_above, IsOperand, IsIndex}
use Rattle.item_knowledge.proofs.EntryLemmas.{bound_below, one_by_bounds}
use Rattle.item_knowledge.proofs.FragmentLemmas.{entries_decide, groups_parts, before_parts, normal_parts}
use Rattle.item_knowledge.proofs.JoinLemmas.{vector_order, joined_bound, joined_vector, joined_leq, leq_self}
use Rattle.item_knowledge.proofs.MergeLemmas.{all_at}

-- Entries

-- each bound is above the star's
abbrev pub Exceeds : List Entry → List Entry → Type 0
Exceeds star es = (a : ℕ) → 0 < bound es a → bound star a < bound es a

exceeding_all : (test : Entry → Bool) (star es : List Entry) → list_all test es ≡ true → list_all test (exceeding star es) ≡ true
exceeding_all test star [] h = refl
exceeding_all test star (e ∷ es) h = grind (arith, nat_tests, exceeding_all test star es)

pub exceeding_bound : (star es : List Entry) (a : ℕ) → in_order es ≡ true → bound (exceeding star es) a ≡ cond (ltb (bound star a) (bound es a)) (bound es a) 0
exceeding_bound star [] a h = grind (arith, nat_tests)
exceeding_bound star (e ∷ es) a h = grind (arith, nat_tests, exceeding_bound star es a, bound_below es e.0 a)

pub exceeding_order : (star es : List Entry) → in_order es ≡ true → in_order (exceeding star es) ≡ true
exceeding_order star [] h = refl
exceeding_order star (e ∷ es) h = grind (arith, nat_tests, exceeding_order star es, exceeding_all (λ (f : Entry). ltb e.0 f.0) star es)

pub exceeding_vector : (star es : List Entry) → is_vector es ≡ true → is_vector (exceeding star es) ≡ true
exceeding_vector star es h = grind (arith, nat_tests, exceeding_order star es, exceeding_all (λ (e : Entry). is_entry e) star es)

-- what is above an old star and above what has risen since is above the star
pub above_risen : (old star es : List Entry) → in_order star ≡ true → Exceeds old es → Exceeds (exceeding old star) es → Exceeds star es
above_risen old star es order above risen a z = grind (arith, nat_tests, exceeding_bound old star a order, above a, risen a)

-- above nothing are all
pub exceeding_none : (es : List Entry) → is_vector es ≡ true → exceeding [] es ≡ es
exceeding_none [] h = refl
exceeding_none (e ∷ es) h = grind (arith, nat_tests, exceeding_none es)

pub exceeding_exceeds : (star es : List Entry) → is_vector es ≡ true → Exceeds star (exceeding star es)
exceeding_exceeds star es h = λ a z. grind (arith, nat_tests, exceeding_bound star es a (vector_order es h))

-- with the star nothing is lost
pub exceeding_joined : (star es : List Entry) → is_vector star ≡ true → is_vector es ≡ true → joined (exceeding star es) star ≡ joined es star
exceeding_joined star es s h =
    let v = exceeding_vector star es h in
    one_by_bounds (joined (exceeding star es) star) (joined es star) (joined_vector (exceeding star es) star v s) (joined_vector es star h s)
    (λ a. grind (arith, nat_tests, joined_bound (exceeding star es) star a v s, exceeding_bound star es a (vector_order es h), joined_bound es star a h s))

-- what exceeds the star is known by the whole
one_excess : (star xs ys : List Entry) → is_vector star ≡ true → is_vector xs ≡ true → is_vector ys ≡ true → Exceeds star xs → Exceeds star ys → joined xs star ≡ joined ys star → xs ≡ ys
one_excess star xs ys s h g e f same = one_by_bounds xs ys h g
    (λ a. grind (arith, joined_bound xs star a h s, joined_bound ys star a g s, ap (λ es. bound es a) same, e a, f a))

pub all_exceed : (star es : List Entry) → exceeds_all star es ≡ true → Exceeds star es
all_exceed star [] x a z = absurd (omega arith)
all_exceed star (e ∷ es) x a z = grind (arith, nat_tests, all_exceed star es)

covered_at : (star xs ys : List Entry) (a : ℕ) → is_covered star xs ys ≡ true → bound ys a ≤ max (bound xs a) (bound star a)
covered_at star xs [] a h = omega arith
covered_at star xs (y ∷ ys) a h = grind (arith, nat_tests, covered_at star xs ys a)

-- what is covered adds nothing
pub covered_joined : (star xs ys : List Entry) → is_vector xs ≡ true → is_vector ys ≡ true → Exceeds star xs → is_covered star xs ys ≡ true → exceeding star (joined xs ys) ≡ xs
covered_joined star xs ys h g e covered =
    let v = joined_vector xs ys h g in
    one_by_bounds (exceeding star (joined xs ys)) xs (exceeding_vector star (joined xs ys) v) h
    (λ a. grind (arith, nat_tests, exceeding_bound star (joined xs ys) a (vector_order (joined xs ys) v), joined_bound xs ys a h g, e a, covered_at star xs ys a covered))

-- Fragments with their whole vectors

pub length_wholes : (star : List Entry) (fs : List Fragment) → length (wholes star fs) ≡ length fs
length_wholes star fs = length-map fs (λ f. whole star f)

pub entries_wholes : (star : List Entry) (fs : List Fragment) (k : ℕ) → k < length fs → entries_at (wholes star fs) k ≡ joined (entries_at fs k) star
entries_wholes star fs k l = ap (λ (f : Fragment). f.entries) (get_or-map (λ f. whole star f) fs k nothing nothing l)

-- joining leaves vectors apart that all have P
module _ (P : List Entry → Type 0) (more : List Entry) (v : is_vector more ≡ true) (apart : (xs ys : List Entry) → is_vector xs ≡ true → is_vector ys ≡ true → P xs → P ys → joined xs more ≡ joined ys more → xs ≡ ys) where
  all_before : (star : List Entry) (g : Fragment) (hs : List Fragment) → are_groups star hs ≡ true → ((k : ℕ) → k < length hs → P (entries_at hs k)) → is_vector g.entries ≡ true → P g.entries → list_all (λ (h : Fragment). goes_before g h) hs ≡ true → list_all (λ (h : Fragment). goes_before (whole more g) h) (wholes more hs) ≡ true
  all_before star g [] a each w here b = refl
  all_before star g (h ∷ hs) a each w here b =
      let p = groups_parts star h hs a in
      grind (arith, nat_tests, (entries_decide (joined g.entries more) (joined h.entries more)).0, (entries_decide g.entries h.entries).1, apart g.entries h.entries w p.group.vector here (each 0 (omega arith)), all_before star g hs p.rest (λ k l. each (suc k) (omega (arith, l))) w here)

  groups_joined : (star : List Entry) (gs : List Fragment) → are_groups star gs ≡ true → is_vector star ≡ true → P star → ((k : ℕ) → k < length gs → P (entries_at gs k)) → are_groups (joined star more) (wholes more gs) ≡ true
  groups_joined star [] a s beside each = refl
  groups_joined star (g ∷ gs) a s beside each =
      let p = groups_parts star g gs a in
      let here = each 0 (omega arith) in
      let vector = joined_vector g.entries more p.group.vector v in
      let above = joined_leq star more g.entries more s v p.group.vector v p.group.above (leq_self more v) in
      let before = all_before star g gs p.rest (λ k l. each (suc k) (omega (arith, l))) p.group.vector here p.before in
      grind (arith, nat_tests, (entries_decide (joined star more) (joined g.entries more)).0, apart star g.entries s p.group.vector beside here, groups_joined star gs p.rest s beside (λ k l. each (suc k) (omega (arith, l))))

  pub joined_normal : (fs : List Fragment) → is_normal fs ≡ true → ((k : ℕ) → k < length fs → P (entries_at fs k)) → is_normal (wholes more fs) ≡ true
  joined_normal [] h each = absurd (false≢true h)
  joined_normal (s ∷ gs) h each =
      let p = normal_parts s gs h in
      and_from _ _ (and_from _ _ p.star (joined_vector s.entries more p.vector v))
      (groups_joined s.entries gs p.groups p.vector (each 0 (omega arith)) (λ k l. each (suc k) (omega (arith, l))))

-- whole vectors above an empty star's stay apart
pub wholes_normal : (star : List Entry) (fs : List Fragment) → is_vector star ≡ true → is_normal fs ≡ true → entries_at fs 0 ≡ [] → ((k : ℕ) → Exceeds star (entries_at fs k)) → is_normal (wholes star fs) ≡ true
wholes_normal star fs s h first e = joined_normal (Exceeds star) star s (λ xs ys g i. one_excess star xs ys s g i) fs h (λ k l. e k)

pub wholes_known : (star : List Entry) (fs : List Fragment) (p : ℕ) → is_normal fs ≡ true → known (wholes star fs) p ≡ joined (known fs p) star
wholes_known star [] p h = absurd (false≢true h)
wholes_known star (s ∷ gs) p h = found gs where
  found : (gs : List Fragment) → or_star (joined s.entries star) (find (wholes star gs) p) ≡ joined (or_star s.entries (find gs p)) star
  found [] = refl
  found (g ∷ gs) = let rest = found gs in grind (arith, nat_tests)

pub at_number : (xs : List (ℕ × ℕ)) (n p : ℕ) → 0 < n → list_all (λ r. ltb r.1 n) xs ≡ true → at 0 xs p < n
at_number [] n p z h = omega arith
at_number (x ∷ xs) n p z h = grind (arith, nat_tests, at_number xs n p)

pub normal_some : (fs : List Fragment) → is_normal fs ≡ true → 0 < length fs
normal_some [] h = absurd (false≢true h)
normal_some (s ∷ gs) h = omega arith

pub wholes_index : (star : List Entry) (fs : List Fragment) (xs : List (ℕ × ℕ)) → is_normal fs ≡ true → IsIndex xs fs → IsIndex xs (wholes star fs)
wholes_index star fs xs h i =
    grind (arith, nat_tests, length_wholes star fs, i.vectors, λ (p : ℕ). entries_wholes star fs (at 0 xs p) (at_number xs (length fs) p (normal_some fs h) i.range), λ (p : ℕ). wholes_known star fs p h)

-- Vectors of a normal form differ

groups_differ : (s : Fragment) (gs : List Fragment) (a b : ℕ) → are_groups s.entries gs ≡ true → a < b → b < length (s ∷ gs) → entries_at (s ∷ gs) a ≡ entries_at (s ∷ gs) b → ⊥
groups_differ s (g ∷ gs) zero (suc zero) h l m e = (groups_parts s.entries g gs h).group.other e
groups_differ s (g ∷ gs) zero (suc (suc b)) h l m e = groups_differ s gs zero (suc b) (groups_parts s.entries g gs h).rest (omega arith) (omega (arith, m)) e
groups_differ s (g ∷ gs) (suc zero) (suc (suc b)) h l m e = (before_parts g (get_or gs b nothing) (all_at (λ (x : Fragment). goes_before g x) gs b nothing (groups_parts s.entries g gs h).before (omega (arith, m)))).other e
groups_differ s (g ∷ gs) (suc (suc a)) (suc (suc b)) h l m e = groups_differ s gs (suc a) (suc b) (groups_parts s.entries g gs h).rest (omega (arith, l)) (omega (arith, m)) e
groups_differ s gs a b h l m e = absurd (omega (arith, l, m))

normal_differ : (fs : List Fragment) → is_normal fs ≡ true → AllDiffer fs
normal_differ [] h = absurd (false≢true h)
normal_differ (s ∷ gs) h = λ a b. groups_differ s gs a b (normal_parts s gs h).groups

pub wholes_differ : (star : List Entry) (fs : List Fragment) → is_normal (wholes star fs) ≡ true → AllDiffer fs
wholes_differ star fs h a b l m e = grind (arith, length_wholes star fs, normal_differ (wholes star fs) h a b l, entries_wholes star fs a, entries_wholes star fs b)

none_below : (fs : List Fragment) → ((k : ℕ) → is_vector (entries_at fs k) ≡ true) → list_all (λ (f : Fragment). is_above [] f) fs ≡ true
none_below [] v = refl
none_below (f ∷ fs) v = and_from _ _ (and_from _ _ (v 0) refl) (none_below fs (λ k. v (suc k)))

-- an operand of whole vectors is one of what exceeds the star
pub wholes_operand : (star : List Entry) (fs : List Fragment) (xs : List (ℕ × ℕ)) → entries_at fs 0 ≡ [] → ((k : ℕ) → is_vector (entries_at fs k) ≡ true) → IsOperand (wholes star fs) xs → IsOperand fs xs
wholes_operand star fs xs first vectors h = grind (arith, nat_tests, length_wholes star fs, none_below fs vectors)
