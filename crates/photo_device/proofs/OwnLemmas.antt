-- What a device knows of its own versions, after it made one more.
use Rattle.std.proofs.Common.{◌≡◌, ℕ, ◌+◌, ◌<◌, Bool, true, false, eqb, leb, ◌&&◌, ◌||◌, List, [], ◌∷◌, refl, sym, ap, ◌∙◌, arith, subst, ◌≤◌}
use Rattle.std.specs.Prelude.{None, max}
use Rattle.std.specs.List.{AllByRecursion}
use Rattle.std.proofs.lemmas.Bool.{leb-true, and_parts, false≢true}
use Rattle.std.proofs.lemmas.Bool.Decides.{nat_tests}
use Rattle.photo_version.specs.Author.{Author}
use Rattle.photo_version.specs.Version.{Version, version}
use Rattle.item_knowledge.specs.Fragments.{Fragment, knows, is_normal, is_empty, are_groups, entries_at}
use Rattle.item_knowledge.specs.Kept.{star_bound}
use Rattle.item_knowledge.specs.Entries.{Entry, denotes, is_vector}
use Rattle.item_knowledge.proofs.EntryLemmas.{denotes-bound}
use Rattle.item_knowledge.proofs.FragmentLemmas.{star_of_every}
use Rattle.photo_device.specs.declared.held.Held.{Held}
use Rattle.photo_model.specs.declared.place.Place.{Place}
use Rattle.photo_device.specs.Held.{find_version}
use Rattle.photo_device.specs.Device.{Kept, held_at, unstaged}
use Rattle.photo_device.specs.Own.{KnowsItsOwn, KnowsNoMore, IsKnownBy, IsNext, HasMade}
use Rattle.photo_device.specs.Learning.{IsNextKnown, IsOwnLearned}
use Rattle.photo_device.proofs.Counts.{same_version_is}

-- the numbers from 1 to k, with k + 1
pub one_more : (n k : ℕ) → ((leb 1 n && leb n k) || eqb (k + 1) n) ≡ (leb 1 n && leb n (k + 1))
one_more n k = grind (arith, nat_tests)

-- there is no number from 1 to 0
pub none_up_to : (n : ℕ) → false ≡ (leb 1 n && leb n 0)
none_up_to n = grind (arith, nat_tests)

-- of a device one version was made: what a star up to 1 knows, and what was told of that version
pub up_to_one : (b : Bool) (n : ℕ) → (((b && (leb 1 n && leb n 1)) || false) || false) ≡ ((false || (b && eqb 1 n)) || false)
up_to_one b n = grind (arith, nat_tests)

-- who knows no more than another, knows no more of an author's versions either
pub no_more_of : (a : Author) (k : ℕ) (gain fs : List Fragment) → ((p : ℕ) (v : Version) → 0 < p → knows gain p v ≡ true → knows fs p v ≡ true) → KnowsNoMore a k fs → KnowsNoMore a k gain
no_more_of a k gain fs within no_more = record {
  own = λ p n above here. no_more.own p n above (within p (version a n) above here);
  later = λ p v above later. (let none = no_more.later p v above later in let here = within p v above in grind arith);
}

-- the next version is known of every picture
pub own_learned : (a : Author) (k : ℕ) (v : Version) (old new : List Fragment) → v ≡ version a (k + 1) → IsOwnLearned v old new → KnowsItsOwn a k old → KnowsItsOwn a (k + 1) new
own_learned a k v old new v_is learned own =
    let next = rw v_is at learned in
    record {
      star = grind (arith, nat_tests, next.star a);
      own = λ p n above. grind (arith, nat_tests, next.learned p (version a n) above, own.own p n above);
      later = λ p w above later. grind (arith, nat_tests, next.learned p w above, own.later p w above later);
    }

-- what a device knows of its own versions, before it makes the next one

own_within : (a : Author) (k n : ℕ) (fs : List Fragment) (p : ℕ) → KnowsItsOwn a k fs → 0 < p → knows fs p (version a n) ≡ true → n ≤ k
own_within a k n fs p own above here = leb-true n k (and_parts (leb 1 n) (leb n k) (sym (own.own p n above) ∙ here)).1

pub next_known : (a : Author) (k : ℕ) (v : Version) (fs : List Fragment) → v ≡ version a (k + 1) → KnowsItsOwn a k fs → IsNextKnown v fs
next_known a k v fs next own = subst (λ w. IsNextKnown w fs) (sym next) (record {
  next = ap (λ n. n + 1) (sym own.star);
  level = λ p n above here. (let star = own.star in let within = own_within a k n fs p own above here in omega arith);
})

-- a device that holds one version more, at either place

pub all_of : {X : Type 0} (P Q : X → Type 0) → ((x : X) → P x → Q x) → (xs : List X) → AllByRecursion P xs → AllByRecursion Q xs
all_of P Q f [] all = tt
all_of P Q f (x ∷ xs) all = (f x all.0, all_of P Q f xs all.1)

-- what is known stays known
pub known_later : (k l : List Fragment) → ((p : ℕ) (w : Version) → 0 < p → knows k p w ≡ true → knows l p w ≡ true) → (xs : List Held) → AllByRecursion (IsKnownBy k) xs → AllByRecursion (IsKnownBy l) xs
known_later k l more [] all = tt
known_later k l more (x ∷ xs) all =
    let is = all.0 in
    (record { above = is.above; itself = more x.picture x.version is.above is.itself; history = λ v has. more x.picture v is.above (is.history v has) }, known_later k l more xs all.1)

-- the next version isn't held
pub none_of_next : (a : Author) (k : ℕ) (fs : List Fragment) (v : Version) (xs : List Held) → v ≡ version a (k + 1) → KnowsItsOwn a k fs → AllByRecursion (IsKnownBy fs) xs → find_version v xs ≡ None
none_of_next a k fs v [] next own all = refl
none_of_next a k fs v (x ∷ xs) next own all =
    let rest = none_of_next a k fs v xs next own all.1 in
    let within = own_within a k (k + 1) fs x.picture own all.0.above in
    let itself = all.0.itself in
    grind (arith, nat_tests, same_version_is)

pub has_made : (place : Place) (h : Held) (d old after : Kept) → d ≡ old → IsNext h old → after ≡ record (held_at place h d) { counter = d.counter + 1; knowledge = after.knowledge; staged = None } → IsOwnLearned h.version d.knowledge after.knowledge → HasMade place h old after
has_made place h d old after same next rest learned = subst (λ (e : Kept). HasMade place h e after) same (record { next = subst (IsNext h) (sym same) next; rest = rest; learned = learned.learned })

-- what is staged is no part of what a device makes next
pub next_unstaged : (h : Held) (d : Kept) → IsNext h d → IsNext h (unstaged d)
next_unstaged h d next = assumption

-- What a device knows of its own versions, after it learned what others knew.

-- the number of a version that is known is above 0

denoted_above : (es : List Entry) (v : Version) → denotes es v ≡ true → leb 1 v.number ≡ true
denoted_above [] v h = absurd (false≢true h)
denoted_above (e ∷ es) v h = let rest = denoted_above es v in grind arith

known_above : (fs : List Fragment) (p : ℕ) (v : Version) → knows fs p v ≡ true → leb 1 v.number ≡ true
known_above [] p v h = absurd (false≢true h)
known_above (f ∷ fs) p v h = let here = denoted_above f.entries v in let rest = known_above fs p v in grind arith

star_is_vector : (fs : List Fragment) → is_normal fs ≡ true → is_vector (entries_at fs 0) ≡ true
star_is_vector [] normal = absurd (false≢true normal)
star_is_vector (s ∷ gs) normal = (and_parts (is_empty s.pictures) (is_vector s.entries) (and_parts (is_empty s.pictures && is_vector s.entries) (are_groups s.entries gs) normal).0).1

-- where no version of the author is known above a number, the star has none either
pub star_at_most : (fs : List Fragment) (a : Author) (k : ℕ) → is_normal fs ≡ true → KnowsNoMore a k fs → star_bound fs a ≤ k
star_at_most fs a k normal none =
    let n = star_bound fs a in
    let denoted = denotes-bound (entries_at fs 0) (version a n) (star_is_vector fs normal) in
    let every = (star_of_every fs normal (version a n)).0 in
    let most = none.own 1 n in
    grind (arith, nat_tests)

pub own_still : (a : Author) (k : ℕ) (gain old new : List Fragment) → star_bound gain a ≤ k → KnowsNoMore a k gain → ((b : Author) → star_bound new b ≡ max (star_bound old b) (star_bound gain b))
    → ((p : ℕ) (w : Version) → 0 < p → knows new p w ≡ (knows old p w || knows gain p w)) → KnowsItsOwn a k old → KnowsItsOwn a k new
own_still a k gain old new below none star learned own = record {
  star = star a ∙ ap (λ n. max n (star_bound gain a)) own.star ∙ omega arith;
  own = λ p n above. learned p (version a n) above ∙ ap (λ b. b || knows gain p (version a n)) (own.own p n above) ∙ (let up = known_above gain p (version a n) in let most = none.own p n above in grind (arith, nat_tests));
  later = λ p v above later. learned p v above ∙ (λ i. own.later p v above later i || none.later p v above later i);
}
