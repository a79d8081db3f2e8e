-- The join of two vectors.
use Rattle.std.proofs.Common.{◌≡◌, ℕ, zero, suc, ◌<◌, ◌≤◌, ◌+◌, ◌*◌, true, max, ◌||◌, List, [], ◌∷◌, ◌++◌, length, get_or, set, drop, refl, sym, subst, ap, ◌∙◌, arith, append-nil}
use Rattle.std.specs.List.{list_all}
use Rattle.std.proofs.lemmas.Bool.{and_parts, and_from}
use Rattle.std.proofs.lemmas.Bool.Decides.{nat_tests}
use Rattle.std.proofs.Math.Nat.{max-zero, zero-max}
use Rattle.photo_version.specs.Author.{author_word}
use Rattle.photo_version.specs.Version.{Version}
use Rattle.item_knowledge.specs.Tables.{in_order}
use Rattle.item_knowledge.specs.Entries.{Entry, denotes, is_entry, is_vector, bound, leq, joined}
use Rattle.item_knowledge.specs.declared.pair_cursor.PairCursor.{PairCursor}
use Rattle.item_knowledge.specs.Excess.{exceeding, IsLent}
use Rattle.item_knowledge.specs.PairCursor.{entries_left}
use Rattle.item_knowledge.specs.Rows.{pairs, flat}
use Rattle.item_knowledge.proofs.TableLemmas.{put_length, merge_at, merge_order, merge_all, merge_left, merge_both}
use Rattle.item_knowledge.proofs.EntryLemmas.{vector_parts, bound_below, denotes-bound}
use Rattle.item_knowledge.proofs.FragmentLemmas.{leq_at}
use Rattle.item_knowledge.proofs.MergeLemmas.{drop_next}
use Rattle.item_knowledge.specs.Searching.{IsUpTo, IsBetween}
use Rattle.item_knowledge.proofs.SearchLemmas.{first_below, rise, order_from, up_to_more}

pub vector_order : (es : List Entry) → is_vector es ≡ true → in_order es ≡ true
vector_order es h = (and_parts (in_order es) (list_all (λ (e : Entry). is_entry e) es) h).0

pub joined_bound : (xs ys : List Entry) (a : ℕ) → is_vector xs ≡ true → is_vector ys ≡ true → bound (joined xs ys) a ≡ max (bound xs a) (bound ys a)
joined_bound xs ys a h g = merge_at (λ n. n) (λ n m. max n m) (λ m. m) 0 0 (λ n. sym (max-zero n)) (λ m. sym (zero-max m)) xs ys (vector_order xs h) (vector_order ys g) a

pub joined_length : (xs ys : List Entry) → length (joined xs ys) ≤ length xs + length ys
joined_length [] [] = omega arith
joined_length [] (y ∷ ys) = omega (arith, joined_length [] ys)
joined_length (x ∷ xs) ys = omega (arith, joined_length xs ys, put_length (λ n. n) (λ n m. max n m) x (joined xs ys))

pub joined_vector : (xs ys : List Entry) → is_vector xs ≡ true → is_vector ys ≡ true → is_vector (joined xs ys) ≡ true
joined_vector xs ys h g =
    let entry = λ (e : Entry). is_entry e in
    let a = and_parts (in_order xs) (list_all entry xs) h in
    let b = and_parts (in_order ys) (list_all entry ys) g in
    and_from _ _ (merge_order (λ n. n) (λ n m. max n m) (λ m. m) xs ys b.0)
    (merge_all (λ n. n) (λ n m. max n m) (λ m. m) entry entry entry (λ x e. e) (λ x t p q. grind (arith, nat_tests)) (λ y e. e) xs ys a.1 b.1)

pub joined_denotes : (xs ys : List Entry) (v : Version) → is_vector xs ≡ true → is_vector ys ≡ true → denotes (joined xs ys) v ≡ (denotes xs v || denotes ys v)
joined_denotes xs ys v h g =
    grind (arith, nat_tests, denotes-bound (joined xs ys) v (joined_vector xs ys h g), joined_bound xs ys (author_word v.author) h g, denotes-bound xs v h, denotes-bound ys v g)

pub leq_from : (es fs : List Entry) → is_vector es ≡ true → ((a : ℕ) → bound es a ≤ bound fs a) → leq es fs ≡ true
leq_from [] fs h f = refl
leq_from (e ∷ es) fs h f =
    let p = vector_parts e es h in
    grind (arith, nat_tests, f e.0, leq_from es fs p.rest (λ a. grind (arith, nat_tests, f a, bound_below es e.0 a)))

pub joined_leq : (s t x y : List Entry) → is_vector s ≡ true → is_vector t ≡ true → is_vector x ≡ true → is_vector y ≡ true → leq s x ≡ true → leq t y ≡ true → leq (joined s t) (joined x y) ≡ true
joined_leq s t x y hs ht hx hy l m = leq_from (joined s t) (joined x y) (joined_vector s t hs ht)
    (λ a. omega (arith, leq_at s x a l, leq_at t y a m, joined_bound s t a hs ht, joined_bound x y a hx hy))

pub leq_self : (es : List Entry) → is_vector es ≡ true → leq es es ≡ true
leq_self es h = leq_from es es h (λ a. omega arith)

-- the join with nothing

pub joined_left : (xs : List Entry) → in_order xs ≡ true → joined xs [] ≡ xs
joined_left [] h = refl
joined_left (x ∷ xs) h = grind (arith, nat_tests, joined_left xs, merge_left (λ a. a) (λ a b. max a b) (λ b. b) x xs [])

pub joined_right : (ys : List Entry) → joined [] ys ≡ ys
joined_right [] = refl
joined_right (y ∷ ys) = ap (λ zs. y ∷ zs) (joined_right ys)

-- a bound that is raised in place in a row is the join with the one entry
pub row_put : (es : List Entry) (i a n : ℕ) → in_order es ≡ true → i < length es → (get_or es i (0, 0)).0 ≡ a → bound es a ≤ n → set (flat es) (2 * i + 1) n ≡ flat (joined es ((a, n) ∷ []))
row_put [] i a n h l e m = absurd (omega arith)
row_put (x ∷ es) zero a n h l e m = grind (arith, nat_tests, joined_left es, merge_both (λ k. k) (λ k j. max k j) (λ j. j) x es (a, n) [])
row_put (x ∷ es) (suc i) a n h l e m =
    let two : 2 * suc i + 1 ≡ suc (suc (2 * i + 1)) = omega arith in
    rw two (grind (arith, nat_tests, row_put es i a n, first_below x.0 es i (0, 0), merge_left (λ k. k) (λ k j. max k j) (λ j. j) x es ((a, n) ∷ [])))

-- Two rows that are gone along together

pub at_first : (at : PairCursor) (xs ys : List ℕ) → at.left ≡ 0 → at.right ≡ 0 → entries_left at xs ys ≡ joined (pairs xs) (pairs ys)
at_first at xs ys l r = λ i. joined (drop (l i) (pairs xs)) (drop (r i) (pairs ys))

-- a place in a list up to which the first author's keys are smaller is one for the authors behind it
pub up_to_behind : (at new : PairCursor) (xs ys : List ℕ) (zs : List Entry) (place : ℕ) (d e : Entry) (es : List Entry) → in_order (pairs ys) ≡ true
    → entries_left at xs ys ≡ d ∷ entries_left new xs ys → entries_left new xs ys ≡ e ∷ es → IsBetween d.0 zs place place → IsUpTo e.0 zs place
up_to_behind at new xs ys zs place d e es order first next there =
    let all : d ∷ e ∷ es ≡ entries_left at xs ys = ap (λ fs. d ∷ fs) (sym next) ∙ sym first in
    let rising = subst (λ fs. in_order fs ≡ true) (sym all) (merge_order (λ n. n) (λ n m. max n m) (λ m. m) (drop at.left (pairs xs)) (drop at.right (pairs ys)) (order_from (pairs ys) at.right order)) in
    up_to_more zs d.0 e.0 place (omega (arith, rise (d ∷ e ∷ es) rising 0 1 (0, 0) (omega arith) (omega arith))) there

-- all of it is written
pub exceeding_done : (star now all : List Entry) (out : List ℕ) → now ≡ [] → out ++ flat (exceeding star now) ≡ flat all → out ≡ flat all
exceeding_done star now all out none done = sym (append-nil out) ∙ ap (λ es. out ++ flat (exceeding star es)) (sym none) ∙ done

-- A fragment that is lent

pub lent_vector : (row star : List ℕ) → IsLent row star → is_vector (joined (pairs row) (pairs star)) ≡ true
lent_vector row star h = joined_vector (pairs row) (pairs star) h.vector h.star

-- what comes of entries from a place on
pub entry_next : (es : List Entry) (i : ℕ) → i < length es → drop i es ≡ get_or es i (0, 0) ∷ drop (i + 1) es
entry_next es i l = drop_next es i (0, 0) l
