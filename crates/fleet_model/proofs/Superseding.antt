-- The tests of the definitions, as facts.
use Rattle.std.proofs.Common.{◌≡◌, ℕ, Bool, true, false, ◌==◌, List, refl, ap, ap₂, arith, ◌||◌, ◌⊎◌, inl, inr, ◌&&◌}
use Rattle.std.proofs.lemmas.Bool.{or_cases, or_left, or_right, and_parts, and_from, eqb-true, eq-eqb}
use Rattle.photo_version.specs.Version.{Version, version, same_version}
use Rattle.photo_version.proofs.AuthorLemmas.{same_is}
use Rattle.photo_model.specs.Entry.{Entry, supersedes, superseded_by, is_among}
use Rattle.photo_model.specs.Telling.{tell}
use Rattle.fleet_model.specs.Members.{In}
use Rattle.fleet_model.proofs.Members.{any_from, any_gives}

pub clash : {P : Type 0} (b : Bool) → b ≡ true → b ≡ false → P
clash b h k = grind arith

pub same_version_is : (v w : Version) → same_version v w ≡ true → v ≡ w
same_version_is v w h =
    let r = and_parts _ _ h in
    ap₂ version (same_is _ _ r.0) (eqb-true _ _ r.1)

pub is_same_version : (v w : Version) → v ≡ w → same_version v w ≡ true
is_same_version v w h = and_from _ _ (eq-eqb _ _ (ap (λ (x : Version). x.author.word) h)) (eq-eqb _ _ (ap (λ (x : Version). x.number) h))

-- w supersedes v
pub record Supersedes (w v : Entry) : Type 0 where
  pub same_picture : w.picture ≡ v.picture
  pub had : w.history v.version ≡ true

pub supersedes_is : (w v : Entry) → supersedes w v ≡ true → Supersedes w v
supersedes_is w v h =
    let r = and_parts _ _ h in
    record { same_picture = eqb-true _ _ r.0; had = r.1 }

is_superseding : {w v : Entry} → Supersedes w v → supersedes w v ≡ true
is_superseding {w = w} {v = v} s = and_from _ _ (eq-eqb _ _ s.same_picture) s.had

pub superseded_is : (ws : List Entry) (v : Entry) → superseded_by ws v ≡ true → (w : Entry) × In w ws × Supersedes w v
superseded_is ws v h = let r = any_gives _ _ h in (r.0, r.1, supersedes_is r.0 v r.2)

pub is_superseded : {ws : List Entry} {w v : Entry} → In w ws → Supersedes w v → superseded_by ws v ≡ true
is_superseded {v = v} i s = any_from _ i (is_superseding s)

pub among_is : (es : List Entry) (v : Version) → is_among es v ≡ true → (e : Entry) × In e es × (e.version ≡ v)
among_is es v h = let r = any_gives _ _ h in (r.0, r.1, same_version_is _ _ r.2)

pub in_is_among : {es : List Entry} {e : Entry} → In e es → is_among es e.version ≡ true
in_is_among {e = e} i = any_from (λ (x : Entry). same_version x.version e.version) i (is_same_version e.version e.version refl)

had_or_is : (v : Version) (w : Entry) → (w.history v || same_version w.version v) ≡ true → (w.history v ≡ true) ⊎ (w.version ≡ v)
had_or_is v w h = elim (or_cases _ _ h) [ inl a ↦ inl a | inr b ↦ inr (same_version_is _ _ b) ]

-- some entry tells the version: the entry is of that version, or its history has it
pub record IsTelling (ws : List Entry) (p : ℕ) (v : Version) : Type 0 where
  pub entry : Entry
  pub among : In entry ws
  pub of : entry.picture ≡ p
  pub tells : (entry.history v ≡ true) ⊎ (entry.version ≡ v)

pub tell_is : (ws : List Entry) (p : ℕ) (v : Version) → tell ws p v ≡ true → IsTelling ws p v
tell_is ws p v h =
    let r = any_gives _ _ h in
    let q = and_parts _ _ r.2 in
    record { entry = r.0; among = r.1; of = eqb-true r.0.picture p q.0; tells = had_or_is v r.0 q.1 }

pub tells_history : {ws : List Entry} (w : Entry) (p : ℕ) (v : Version) → In w ws → w.picture ≡ p → w.history v ≡ true → tell ws p v ≡ true
tells_history w p v i e h = any_from _ i (and_from _ _ (eq-eqb _ _ e) (or_left _ _ h))

pub tells_itself : {ws : List Entry} (w : Entry) → In w ws → tell ws w.picture w.version ≡ true
tells_itself w i =
    any_from (λ (x : Entry). (x.picture == w.picture) && (x.history w.version || same_version x.version w.version)) i
    (and_from (w.picture == w.picture) (w.history w.version || same_version w.version w.version) (eq-eqb w.picture w.picture refl)
    (or_right (w.history w.version) (same_version w.version w.version) (is_same_version w.version w.version refl)))
