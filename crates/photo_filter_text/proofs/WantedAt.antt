-- Want of memory never comes after the first fault.
use Rattle.std.proofs.Common.{◌≡◌, ℕ, suc, zero, ◌+◌, true, List, [], ◌∷◌, ◌++◌, length, take, refl, sym, ap, subst, ◌∙◌, add-one, arith}
use Rattle.std.specs.Prelude.{codes}
use Rattle.std.specs.List.{list_any}
use Rattle.std.proofs.lemmas.Bool.{false≢true, or_left, or_right}
use Rattle.std.proofs.lemmas.List.{take_all}
use Rattle.std.proofs.lemmas.List.Folds.{list_any_kept}
use Rattle.photo_filter_text.specs.Tokens.{Token}
use Rattle.photo_filter_text.specs.Fronts.{Begins}
use Rattle.photo_filter_text.specs.Memory.{IsKept, MayWantMemory, at_token, at_word, at_end, is_keeper}
use Rattle.photo_filter_text.specs.Memory as kept
use Rattle.photo_filter_text.proofs.Faults.{word-begins}
use Rattle.photo_filter_text.proofs.OneFault.{begins-take, tree-begins}

pub record WantedAt (ts : List Token) : Type 0 where
  pub before : ℕ
  pub goes_on : Begins (take before ts)
  pub keeps : list_any is_keeper (take (before + 1) ts) ≡ true

has-keeper : (before rest : List Token) (x : Token) → is_keeper x ≡ true → list_any is_keeper (before ++ x ∷ rest) ≡ true
has-keeper [] rest x h = or_left (is_keeper x) (list_any is_keeper rest) h
has-keeper (y ∷ ys) rest x h = or_right (is_keeper y) (list_any is_keeper (ys ++ x ∷ rest)) (has-keeper ys rest x h)

kept-keeper : (ts : List Token) → IsKept ts → list_any is_keeper ts ≡ true
kept-keeper ts (kept.bracket before) = has-keeper before [] (codes "(") refl
kept-keeper ts (kept.negation before {part = part} f) = has-keeper before part (codes "not") refl
kept-keeper ts (kept.conjunction before {part = part} f) = has-keeper before part (codes "and") refl
kept-keeper ts (kept.disjunction before {part = part} {next = next} f n) = has-keeper before (part ++ next ∷ []) (codes "or") refl

pub wanted-at : (ts : List Token) → MayWantMemory ts → WantedAt ts
wanted-at ts (at_token k b i) = by_place k b (kept-keeper (take k ts) i)
  where
    by_place : (k : ℕ) → Begins (take k ts) → list_any is_keeper (take k ts) ≡ true → WantedAt ts
    by_place zero b h = absurd (false≢true h)
    by_place (suc k) b h = record {
      before = k;
      goes_on = begins-take k (suc k) ts (omega arith) b;
      keeps = rw add-one h;
    }
wanted-at ts (at_word k l w) = record {
  before = w.0;
  goes_on = word-begins (take w.0 ts) w.2;
  keeps = list_any_kept is_keeper ts w.0 (ap (list_any is_keeper) w.2.1 ∙ has-keeper w.2.0 [] (codes "keyword") refl);
}
wanted-at ts (at_end before {part = part} {tree = tree} e q t) = record {
  before = length ts;
  goes_on = subst Begins (sym (take_all (length ts) ts (omega arith))) (tree-begins ts tree e);
  keeps = ap (list_any is_keeper) (take_all (length ts + 1) ts (omega arith) ∙ q) ∙ has-keeper before part (codes "or") refl;
}
