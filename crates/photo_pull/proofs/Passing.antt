-- A list of held versions in order that is gone along for one version after another, each behind the ones before.
use Rattle.std.proofs.Common.{◌≡◌, Bool, true, false, ◌||◌, List, ◌∷◌, Bor, sym, drop, ap, subst, ◌∙◌, arith}
use Rattle.std.specs.Prelude.{Option, Some, None, is_some, map}
use Rattle.std.specs.List.{list_all}
use Rattle.std.specs.Iterator.{YieldsFirstRef}
use Rattle.std.proofs.lemmas.Bool.{and_parts}
use Rattle.std.proofs.lemmas.Bool.Decides.{nat_tests}
use Rattle.photo_device.specs.declared.held.Held.{Held}
use Rattle.photo_device.specs.Held.{are_in_order, held_before, is_of}
use Rattle.photo_device.proofs.Order.{held_order, for_version}
use Rattle.photo_device.proofs.Putting.{found_first, told_if, any_found, map_alike}
use Rattle.photo_pull.specs.OnHeld.{has_same, left_of, HasPassed}

-- what stands before a version may be passed
passed_one : (h other : Held) (old left : List Held) → HasPassed h old (other ∷ left) → held_before other h ≡ true → HasPassed h old left
passed_one h other old left passed before = record {
  order = (and_parts (list_all (held_before other) left) (are_in_order left) passed.order).1;
  same = λ k later. (let other_than : is_of other k.picture k.version ≡ false = grind (arith, nat_tests) in sym (ap (λ b. b || has_same left k) other_than) ∙ passed.same k later);
}

taken : (others left : List Held) (next : Option (Bor Held)) → YieldsFirstRef (λ (l : List Held). l) others next left → others ≡ left_of next left
taken others left None gives = gives.0
taken others left (Some next) gives = gives

pub passed_next : (h : Held) (other : Bor Held) (old others left : List Held) (at next : Option (Bor Held)) → HasPassed h old (left_of at others) → at ≡ Some other → held_before other.now h ≡ true
    → YieldsFirstRef (λ (l : List Held). l) others next left → HasPassed h old (left_of next left)
passed_next h other old others left at next passed is before gives =
    subst (HasPassed h old) (taken others left next gives) (passed_one h other.now old others (rw is at passed) before)

-- no version stands before itself
pub not_before_itself : (h : Held) → held_before h h ≡ false
not_before_itself h = grind (arith, nat_tests)

-- one that doesn't stand before a version is that version, or it isn't there
pub first_found : (h : Held) (other : Bor Held) (old others : List Held) (at : Option (Bor Held)) → HasPassed h old (left_of at others) → at ≡ Some other → held_before other.now h ≡ false
    → is_of other.now h.picture h.version ≡ has_same old h
first_found h other old others at passed is later =
    let here : HasPassed h old (other.now ∷ others) = rw is at passed in
    let is_h : Held → Bool = λ g. is_of g h.picture h.version in
    let first = found_first held_before _ is_h (for_version h.picture h.version) (other.now ∷ others) here.order in
    told_if is_h other.now ∙ ap is_some (rw later at first) ∙ any_found is_h (other.now ∷ others) ∙ here.same h (not_before_itself h)

-- Versions in order that are asked for in what is left of a set in order, which has the same of them that the set has

pub record AreBeside (set left asked : List Held) : Type 0 where
  pub order : are_in_order left ≡ true
  pub asking : are_in_order asked ≡ true
  pub same : map (λ h. has_same left h) asked ≡ map (λ h. has_same set h) asked

pub beside_one : (set left new rest : List Held) (h : Held) → AreBeside set left (h ∷ rest) → HasPassed h left new → AreBeside set new rest
beside_one set left new rest h beside passed =
    let behind : (list_all (held_before h) rest ≡ true) × (are_in_order rest ≡ true) = and_parts _ _ beside.asking in
    record {
      order = passed.order;
      asking = behind.1;
      same = map_alike _ _ (held_before h) (λ k b. passed.same k (held_order.one_way h k b)) rest behind.0 ∙ ap (drop 1) beside.same;
    }
