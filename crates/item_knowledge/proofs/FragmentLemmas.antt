-- Normal forms are determined by the pairs that they denote.
use Rattle.std.proofs.Common.{◌≡◌, ℕ, ◌+◌, ◌<◌, ◌≤◌, Bool, true, false, not, ltb, ◌||◌, List, [], ◌∷◌, refl, sym, subst, ap, ◌∙◌, arith, Option, None, Some}
use Rattle.std.specs.List.{list_all}
use Rattle.std.specs.Bool.{Decides}
use Rattle.std.specs.Cmp.{both_ways}
use Rattle.std.proofs.lemmas.Bool.{false≢true}
use Rattle.std.proofs.lemmas.Bool.Decides.{nat_tests, Decides-and, Decides-eqb, Decides-like}
use Rattle.std.proofs.lemmas.Slice.Eq.{slice_eq-Decides}
use Rattle.photo_version.specs.Author.{author_word}
use Rattle.photo_version.specs.Version.{Version}
use Rattle.item_knowledge.specs.Entries.{Entry, denotes, is_vector, leq, same_entries, bound}
use Rattle.item_knowledge.specs.Fragments.{Fragment, is_empty, first, lists, knows, rises, goes_before, are_groups, is_normal, find, or_star, known, entries_at}
use Rattle.item_knowledge.proofs.EntryLemmas.{one_vector, denotes-bound}
use Rattle.item_knowledge.proofs.PictureLemmas.{listed, first_listed, first_least, same_pictures, beyond, beyond_none}

pub entries_decide : (xs ys : List Entry) → Decides (same_entries xs ys) (xs ≡ ys)
entries_decide xs ys = slice_eq-Decides {A = Entry} (λ a b. Decides-like _ (λ (h : (a.0 ≡ b.0) × (a.1 ≡ b.1)) i. (h.0 i, h.1 i)) (λ e. (ap (λ (x : Entry). x.0) e, ap (λ (x : Entry). x.1) e)) (Decides-and _ _ (Decides-eqb a.0 b.0) (Decides-eqb a.1 b.1))) xs ys (same_entries xs ys) refl

-- The parts of the tests

pub record GroupParts (star : List Entry) (g : Fragment) : Type 0 where
  pub some : is_empty g.pictures ≡ false
  pub positive : list_all (λ p. ltb 0 p) g.pictures ≡ true
  pub rising : rises g.pictures ≡ true
  pub vector : is_vector g.entries ≡ true
  pub above : leq star g.entries ≡ true
  pub other : star ≡ g.entries → ⊥

pub record BeforeParts (g h : Fragment) : Type 0 where
  pub order : first g.pictures < first h.pictures
  pub other : g.entries ≡ h.entries → ⊥
  pub apart : (p : ℕ) → lists h.pictures p ≡ true → lists g.pictures p ≡ false

pub before_parts : (g h : Fragment) → goes_before g h ≡ true → BeforeParts g h
before_parts g h b = grind (arith, nat_tests, (entries_decide g.entries h.entries).1, listed (λ q. not (lists g.pictures q)) h.pictures)

pub record GroupsParts (star : List Entry) (g : Fragment) (gs : List Fragment) : Type 0 where
  pub group : GroupParts star g
  pub before : list_all (λ (h : Fragment). goes_before g h) gs ≡ true
  pub rest : are_groups star gs ≡ true

pub groups_parts : (star : List Entry) (g : Fragment) (gs : List Fragment) → are_groups star (g ∷ gs) ≡ true → GroupsParts star g gs
groups_parts star g gs h = grind (arith, nat_tests, (entries_decide star g.entries).1)

-- The vector of the group that lists a picture

pub find_here : (g : Fragment) (gs : List Fragment) (p : ℕ) → lists g.pictures p ≡ true → find (g ∷ gs) p ≡ Some g.entries
find_here g gs p l = rw l refl

pub find_later : (g : Fragment) (gs : List Fragment) (p : ℕ) → lists g.pictures p ≡ false → find (g ∷ gs) p ≡ find gs p
find_later g gs p l = rw l refl

-- what is known of a picture that a later group lists
pub record Later (g : Fragment) (p : ℕ) (e : List Entry) : Type 0 where
  pub order : first g.pictures < p
  pub other : g.entries ≡ e → ⊥
  pub apart : lists g.pictures p ≡ false

pub later : (star : List Entry) (g : Fragment) (gs : List Fragment) (p : ℕ) (e : List Entry) → list_all (λ (h : Fragment). goes_before g h) gs ≡ true → are_groups star gs ≡ true → find gs p ≡ Some e → Later g p e
later star g [] p e b a f = absurd (cc)
later star g (h ∷ gs) p e b a f =
    let parts = groups_parts star h gs a in
    grind (arith, nat_tests, later star g gs p e, first_least h.pictures p, (entries_decide g.entries h.entries).1, listed (λ q. not (lists g.pictures q)) h.pictures p)

-- a group's picture is in no later group
none_later : (g : Fragment) (gs : List Fragment) (p : ℕ) → list_all (λ (h : Fragment). goes_before g h) gs ≡ true → lists g.pictures p ≡ true → find gs p ≡ None
none_later g [] p b l = refl
none_later g (h ∷ gs) p b l = grind (arith, nat_tests, none_later g gs p, listed (λ q. not (lists g.pictures q)) h.pictures p)

-- the pictures of the first group are those with its vector, and none is before its first one
record IsFirst (g : Fragment) (p : ℕ) (e : List Entry) : Type 0 where
  order : first g.pictures ≤ p
  listed : g.entries ≡ e → lists g.pictures p ≡ true

is_first : (star : List Entry) (g : Fragment) (gs : List Fragment) (p : ℕ) (e : List Entry) → are_groups star (g ∷ gs) ≡ true → find (g ∷ gs) p ≡ Some e → IsFirst g p e
is_first star g gs p e a f =
    let parts = groups_parts star g gs a in
    grind (arith, nat_tests, later star g gs p e parts.before parts.rest, first_least g.pictures p)

find_first : (star : List Entry) (g : Fragment) (gs : List Fragment) → are_groups star (g ∷ gs) ≡ true → find (g ∷ gs) (first g.pictures) ≡ Some g.entries
find_first star g gs a = find_here g gs (first g.pictures) (first_listed g.pictures (groups_parts star g gs a).group.some)

-- two lists of groups that give each picture the same vector are one
one_grouping : (star : List Entry) (gs hs : List Fragment) → are_groups star gs ≡ true → are_groups star hs ≡ true → ((p : ℕ) → find gs p ≡ find hs p) → gs ≡ hs
one_grouping star [] [] a b f = refl
one_grouping star [] (h ∷ hs) a b f = let e = f (first h.pictures) ∙ find_first star h hs b in absurd (cc)
one_grouping star (g ∷ gs) [] a b f = let e = sym (f (first g.pictures)) ∙ find_first star g gs a in absurd (cc)
one_grouping star (g ∷ gs) (h ∷ hs) a b f =
    let x = groups_parts star g gs a in
    let y = groups_parts star h hs b in
    let at : first g.pictures ≡ first h.pictures =
    omega (arith, (is_first star g gs (first h.pictures) h.entries a (f (first h.pictures) ∙ find_first star h hs b)).order, (is_first star h hs (first g.pictures) g.entries b (sym (f (first g.pictures)) ∙ find_first star g gs a)).order) in
    let entries : g.entries ≡ h.entries = grind (arith, at, f (first g.pictures), find_first star g gs a, find_first star h hs b) in
    let members : (p : ℕ) → lists g.pictures p ≡ lists h.pictures p = λ p. both_ways _ _
    (λ l. (is_first star h hs p g.entries b (sym (f p) ∙ find_here g gs p l)).listed (sym entries))
    (λ l. (is_first star g gs p h.entries a (f p ∙ find_here h hs p l)).listed entries) in
    let pictures = same_pictures g.pictures h.pictures x.group.rising y.group.rising members in
    let tails : (p : ℕ) → find gs p ≡ find hs p = λ p. grind (arith, nat_tests, f p, members p, none_later g gs p x.before, none_later h hs p y.before) in
    λ i. record { pictures = pictures i; entries = entries i } ∷ one_grouping star gs hs x.rest y.rest tails i

-- What is denoted at a picture

abbrev in_found : Option (List Entry) → Version → Bool
in_found None v = false
in_found (Some e) v = denotes e v

knows_found : (star : List Entry) (gs : List Fragment) (p : ℕ) (v : Version) → are_groups star gs ≡ true → knows gs p v ≡ in_found (find gs p) v
knows_found star [] p v a = refl
knows_found star (g ∷ gs) p v a =
    let parts = groups_parts star g gs a in
    grind (arith, nat_tests, knows_found star gs p v parts.rest, none_later g gs p parts.before)

-- what the one denotes, the other that is not below it denotes too
pub leq_at : (es fs : List Entry) (a : ℕ) → leq es fs ≡ true → bound es a ≤ bound fs a
leq_at [] fs a h = omega arith
leq_at (e ∷ es) fs a h = grind (arith, nat_tests, leq_at es fs a)

pub leq_denotes : (es fs : List Entry) (v : Version) → is_vector es ≡ true → is_vector fs ≡ true → leq es fs ≡ true → (denotes es v || denotes fs v) ≡ denotes fs v
leq_denotes es fs v x y h = grind (arith, nat_tests, denotes-bound es v x, denotes-bound fs v y, leq_at es fs (author_word v.author) h)

-- what the vector of a group that lists a picture is
record IsIndexed (star e : List Entry) (p : ℕ) : Type 0 where
  vector : is_vector e ≡ true
  above : leq star e ≡ true
  other : star ≡ e → ⊥
  positive : 0 < p

is_found : (star : List Entry) (gs : List Fragment) (p : ℕ) (e : List Entry) → are_groups star gs ≡ true → find gs p ≡ Some e → IsIndexed star e p
is_found star [] p e a f = absurd (cc)
is_found star (g ∷ gs) p e a f =
    let parts = groups_parts star g gs a in
    grind (arith, nat_tests, is_found star gs p e parts.rest, listed (λ q. ltb 0 q) g.pictures p)

pub record Known (s : Fragment) (gs : List Fragment) : Type 0 where
  pub star : is_empty s.pictures ≡ true
  pub vector : is_vector s.entries ≡ true
  pub groups : are_groups s.entries gs ≡ true

pub normal_parts : (s : Fragment) (gs : List Fragment) → is_normal (s ∷ gs) ≡ true → Known s gs
normal_parts s gs h = grind (arith, nat_tests)

known_vector : (s : Fragment) (gs : List Fragment) (p : ℕ) → Known s gs → is_vector (known (s ∷ gs) p) ≡ true
known_vector s gs p k = grind (arith, nat_tests, is_found s.entries gs p)

pub knows_known : (s : Fragment) (gs : List Fragment) (p : ℕ) (v : Version) → Known s gs → knows (s ∷ gs) p v ≡ denotes (known (s ∷ gs) p) v
knows_known s gs p v k = grind (arith, nat_tests, k.star, knows_found s.entries gs p v k.groups, is_found s.entries gs p, leq_denotes s.entries)

-- What is known of every picture

-- a picture that no group lists
abbrev beyond_all : List Fragment → ℕ
beyond_all [] = 0
beyond_all (g ∷ gs) = beyond g.pictures + beyond_all gs

find_beyond : (gs : List Fragment) (p : ℕ) → beyond_all gs ≤ p → find gs p ≡ None
find_beyond [] p h = refl
find_beyond (g ∷ gs) p h = find_later g gs p (beyond_none g.pictures p (omega arith)) ∙ find_beyond gs p (omega arith)

pub star_of_every : (fs : List Fragment) → is_normal fs ≡ true → (v : Version) → (denotes (entries_at fs 0) v ≡ true → (p : ℕ) → 0 < p → knows fs p v ≡ true) × (((p : ℕ) → 0 < p → knows fs p v ≡ true) → denotes (entries_at fs 0) v ≡ true)
star_of_every [] h v = absurd (false≢true h)
star_of_every (s ∷ gs) h v =
    let k = normal_parts s gs h in
    let far = beyond_all gs + 1 in (
      λ d p z. rw (k.star, d) refl,
      λ all. ap (λ o. denotes (or_star s.entries o) v) (sym (find_beyond gs far (omega arith))) ∙ (sym (knows_known s gs far v k) ∙ all far (omega arith)),
    )

-- the pairs that a normal form denotes determine it
pub one_normal : (fs gs : List Fragment) → is_normal fs ≡ true → is_normal gs ≡ true → ((p : ℕ) (v : Version) → 0 < p → knows fs p v ≡ knows gs p v) → fs ≡ gs
one_normal [] gs a b h = absurd (false≢true a)
one_normal (s ∷ gs) [] a b h = absurd (false≢true b)
one_normal (s ∷ gs) (t ∷ hs) a b h = λ i. record { pictures = pictures i; entries = star i } ∷ groups i
  where
    k : Known s gs
    k = normal_parts s gs a

    l : Known t hs
    l = normal_parts t hs b

    pictures : s.pictures ≡ t.pictures
    pictures = grind (arith, k.star, l.star)

    star : s.entries ≡ t.entries
    star = one_vector s.entries t.entries k.vector l.vector (λ v. both_ways _ _
        (λ d. (star_of_every (t ∷ hs) b v).1 (λ p z. sym (h p v z) ∙ (star_of_every (s ∷ gs) a v).0 d p z))
        (λ d. (star_of_every (s ∷ gs) a v).1 (λ p z. h p v z ∙ (star_of_every (t ∷ hs) b v).0 d p z)))

    by : (p : ℕ) (x y : Option (List Entry)) → find gs p ≡ x → find hs p ≡ y → (0 < p → or_star s.entries x ≡ or_star t.entries y) → x ≡ y
    by p None None f g e = refl
    by p None (Some y) f g e = let d = is_found t.entries hs p y l.groups g in absurd (d.other (sym star ∙ e d.positive))
    by p (Some x) None f g e = let d = is_found s.entries gs p x k.groups f in absurd (d.other (star ∙ sym (e d.positive)))
    by p (Some x) (Some y) f g e = ap (λ z. Some z) (e (is_found s.entries gs p x k.groups f).positive)

    same_find : (p : ℕ) → find gs p ≡ find hs p
    same_find p = by p (find gs p) (find hs p) refl refl (λ z. one_vector _ _ (known_vector s gs p k) (known_vector t hs p l)
        (λ v. sym (knows_known s gs p v k) ∙ (h p v z ∙ knows_known t hs p v l)))

    groups : gs ≡ hs
    groups = one_grouping s.entries gs hs k.groups (subst (λ es. are_groups es hs ≡ true) (sym star) l.groups) same_find
