-- Lists of versions, and of pictures' versions, as sets.
use Rattle.std.proofs.Common.{◌≡◌, ℕ, eqb, ◌&&◌, ◌||◌, List, [], ◌∷◌, ◌++◌, refl, arith}
use Rattle.std.specs.Prelude.{map, filter}
use Rattle.std.proofs.lemmas.Bool.Decides.{nat_tests}
use Rattle.std.proofs.lemmas.List.Folds.{list_any-append}
use Rattle.photo_version.specs.Version.{Version, same_version}
use Rattle.test_list_device.specs.declared.known.Known.{Known}
use Rattle.test_list_device.specs.Sets.{listed, listed_of}

pub listed-append : (xs ys : List Version) (v : Version) → listed (xs ++ ys) v ≡ (listed xs v || listed ys v)
listed-append xs ys v = list_any-append (λ w. same_version w v) xs ys

pub listed_of-append : (xs ys : List Known) (picture : ℕ) (v : Version) → listed_of (xs ++ ys) picture v ≡ (listed_of xs picture v || listed_of ys picture v)
listed_of-append xs ys picture v = list_any-append (λ (k : Known). eqb k.picture picture && same_version k.version v) xs ys

-- the versions of one picture in a list of pairs
pub listed-picked : (picture : ℕ) (pairs : List Known) (v : Version) → listed (map (λ k. k.version) (filter (λ k. eqb k.picture picture) pairs)) v ≡ listed_of pairs picture v
listed-picked picture [] v = refl
listed-picked picture (k ∷ pairs) v = let rest = listed-picked picture pairs v in grind (arith, nat_tests)
