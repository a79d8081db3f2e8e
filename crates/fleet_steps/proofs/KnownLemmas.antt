-- What the bounds of a normal form say about the versions that are known.
use Rattle.std.proofs.Common.{◌≡◌, ℕ, ◌<◌, true, false, eqb, ltb, ◌&&◌, List, [], ◌∷◌, refl, arith}
use Rattle.std.specs.List.{AllByRecursion, list_all}
use Rattle.std.proofs.lemmas.Bool.{le-leb, eq-eqb, ltb-true, and_parts, or_left, or_right}
use Rattle.photo_version.specs.Author.{author_of_word}
use Rattle.photo_version.specs.Version.{Version, version}
use Rattle.item_knowledge.specs.Entries.{Entry, denotes, denotes_one, is_vector}
use Rattle.item_knowledge.specs.Fragments.{Fragment, knows, reaches, lists, is_empty, is_normal, are_groups}
use Rattle.item_knowledge.proofs.EntryLemmas.{vector_parts}
use Rattle.item_knowledge.proofs.FragmentLemmas.{groups_parts, normal_parts}
use Rattle.item_knowledge.proofs.NextLemmas.{reached}

-- the last version of an entry
abbrev last : Entry → Version
last e = version (author_of_word e.0) e.1

-- an entry denotes its last version
denotes_last : (e : Entry) → 0 < e.1 → denotes_one e (last e) ≡ true
denotes_last e above = rw (eq-eqb e.0 e.0 refl, le-leb 1 e.1 (omega arith), le-leb e.1 e.1 (omega arith)) refl

-- if a property holds of each version that a vector denotes, it holds of the last version of each entry
each_last : (es : List Entry) (P : Version → Type 0) → is_vector es ≡ true → ((v : Version) → denotes es v ≡ true → P v) → AllByRecursion (λ e. P (last e)) es
each_last [] P vector each = tt
each_last (e ∷ es) P vector each =
    let parts = vector_parts e es vector in (
      each (last e) (or_left (denotes_one e (last e)) (denotes es (last e)) (denotes_last e parts.positive)),
      each_last es P parts.rest (λ v h. each v (or_right (denotes_one e v) (denotes es v) h)),
    )

-- a group lists a picture above 0
listed : (ps : List ℕ) → is_empty ps ≡ false → list_all (λ p. ltb 0 p) ps ≡ true → (p : ℕ) × (0 < p) × (lists ps p ≡ true)
listed [] some above = cc
listed (p ∷ ps) some above =
    (p, ltb-true 0 p (and_parts (ltb 0 p) (list_all (λ q. ltb 0 q) ps) above).0, or_left (eqb p p) (lists ps p) (eq-eqb p p refl))

abbrev EachLast : (Version → Type 0) → List Fragment → Type 0
EachLast P fs = AllByRecursion (λ f. AllByRecursion (λ e. P (version (author_of_word e.0) e.1)) f.entries) fs

each_group : (star : List Entry) (gs : List Fragment) (P : Version → Type 0) → are_groups star gs ≡ true → ((p : ℕ) (v : Version) → 0 < p → knows gs p v ≡ true → P v) → EachLast P gs
each_group star [] P groups each = tt
each_group star (g ∷ gs) P groups each =
    let parts = groups_parts star g gs groups in
    let picture = listed g.pictures parts.group.some parts.group.positive in
    let p = picture.0 in
    let here : reaches g p ≡ true = or_right (is_empty g.pictures) (lists g.pictures p) picture.2 in (
      each_last g.entries P parts.group.vector (λ v h. each p v picture.1 (reached g gs p v here h)),
      each_group star gs P parts.rest (λ q v above h. each q v above (or_right (reaches g q && denotes g.entries v) (knows gs q v) h)),
    )

-- if a property holds of each known version, it holds of the last version of each bound
pub each_known : (fs : List Fragment) (P : Version → Type 0) → is_normal fs ≡ true → ((p : ℕ) (v : Version) → 0 < p → knows fs p v ≡ true → P v) → EachLast P fs
each_known [] P normal each = cc
each_known (s ∷ gs) P normal each =
    let parts = normal_parts s gs normal in
    let here : reaches s 1 ≡ true = or_left (is_empty s.pictures) (lists s.pictures 1) parts.star in (
      each_last s.entries P parts.vector (λ v h. each 1 v (omega arith) (reached s gs 1 v here h)),
      each_group s.entries gs P parts.groups (λ q v above h. each q v above (or_right (reaches s q && denotes s.entries v) (knows gs q v) h)),
    )
