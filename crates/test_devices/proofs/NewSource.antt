-- A device may pull from one that holds and knows nothing.
use Rattle.std.proofs.Common.{◌≡◌, ℕ, ◌<◌, false, List, [], ◌∷◌, ◌++◌, Some, length, sym, ◌∙◌, arith}
use Rattle.std.proofs.lemmas.Bool.{false≢true}
use Rattle.photo_version.specs.Author.{same_device}
use Rattle.photo_version.specs.Version.{Version, version}
use Rattle.item_knowledge.specs.Fragments.{knows}
use Rattle.photo_device.specs.declared.held.Held.{Held}
use Rattle.photo_device.specs.Held.{find_version}
use Rattle.photo_device.specs.Device.{Kept}
use Rattle.photo_pull.specs.MayPull.{MayPull}

none_found : (v : Version) (g : Held) (xs ys : List Held) → length xs ≡ 0 → length ys ≡ 0 → find_version v (xs ++ ys) ≡ Some g → ⊥
none_found v g [] [] _ _ found = grind arith
none_found v g (h ∷ hs) ys none _ _ = grind arith
none_found v g [] (h ∷ hs) _ none _ = grind arith

pub may_pull : (t s : Kept) → same_device t.author s.author ≡ false → length s.store ≡ 0 → length s.out ≡ 0 → ((p : ℕ) (v : Version) → 0 < p → knows s.knowledge p v ≡ false) → MayPull t s
may_pull t s differ store out nothing = record {
  differ = differ;
  one = λ v h g _ found. absurd (none_found v g s.store s.out store out found);
  own = record {
    own = λ p n above known. absurd (false≢true (sym (nothing p (version t.author n) above) ∙ known));
    later = λ p v above _. nothing p v above;
  };
}
