-- What held versions tell, and who knows it.
use Rattle.std.proofs.Common.{◌≡◌, ℕ, ◌<◌, Bool, true, eqb, ◌&&◌, ◌||◌, List, [], ◌∷◌, refl, ap, arith}
use Rattle.std.specs.List.{AllByRecursion}
use Rattle.std.proofs.lemmas.Bool.{false≢true}
use Rattle.std.proofs.lemmas.Bool.Decides.{nat_tests}
use Rattle.photo_version.specs.Version.{Version, same_version}
use Rattle.photo_version.specs.Vector.{denotes}
use Rattle.item_knowledge.specs.Fragments.{Fragment, knows}
use Rattle.photo_device.specs.declared.held.Held.{Held}
use Rattle.photo_device.specs.Held.{entries_of}
use Rattle.photo_device.specs.Own.{IsKnownBy}
use Rattle.photo_model.specs.Telling.{tell}
use Rattle.photo_device.specs.Telling.{tells}
use Rattle.photo_device.proofs.Counts.{same_version_is, same_version_self}

-- it tells of that version of that picture
abbrev pub one : ℕ → Version → Held → Bool
one p v h = (eqb h.picture p) && (denotes h.made_with v || same_version h.version v)

pub tell_entries : (hs : List Held) (p : ℕ) (v : Version) → tells hs p v ≡ tell (entries_of hs) p v
tell_entries [] p v = refl
tell_entries (h ∷ hs) p v = ap (λ b. one p v h || b) (tell_entries hs p v)

-- who knows what is held knows what it tells
pub told_known : (fs : List Fragment) (hs : List Held) (p : ℕ) (v : Version) → AllByRecursion (IsKnownBy fs) hs → tells hs p v ≡ true → knows fs p v ≡ true
told_known fs [] p v all told = absurd (false≢true told)
told_known fs (h ∷ hs) p v all told = told_more (knows fs) h p v (tells hs p v) all.0.history all.0.itself (told_known fs hs p v all.1) told
  where
    told_more : (K : ℕ → Version → Bool) (h : Held) (p : ℕ) (v : Version) (rest : Bool) → ((w : Version) → denotes h.made_with w ≡ true → K h.picture w ≡ true) → K h.picture h.version ≡ true → (rest ≡ true → K p v ≡ true) → (one p v h || rest) ≡ true → K p v ≡ true
    told_more K h p v rest had itself more told = let here = had v in grind (arith, nat_tests, same_version_is)

-- what is held is known to who knows what it tells
pub known_told : (fs : List Fragment) (hs : List Held) → AllByRecursion (λ h. 0 < h.picture) hs → ((p : ℕ) (v : Version) → 0 < p → tells hs p v ≡ true → knows fs p v ≡ true) → AllByRecursion (IsKnownBy fs) hs
known_told fs [] above told = tt
known_told fs (h ∷ hs) above told =
    let here = λ (v : Version). told h.picture v above.0 in (
      record {
        above = above.0;
        itself = let is = here h.version in grind (arith, nat_tests, same_version_self);
        history = λ v had. let is = here v in grind (arith, nat_tests);
      },
      known_told fs hs above.1 (λ p v p_above there. let is = told p v p_above in grind arith),
    )
