-- Lists without duplicates, one element at a time.
use Rattle.std.proofs.Common.{◌≡◌, ◌≢◌, inl, inr, ℕ, ◌+◌, ◌<◌, ◌≤◌, Bool, true, false, cond, ◌||◌, eqb, List, [], ◌∷◌, ◌++◌, length, take, drop, get_or, slice_get, Some, refl, sym, ap, subst, ◌∙◌, length-append, arith}
use Rattle.std.proofs.lemmas.Bool.Decides.{nat_tests}
use Rattle.std.specs.List.{All, AllByRecursion, list_any}
use Rattle.std.specs.Str.{bytes_eq}
use Rattle.std.specs.BTreeSet.{BTreeSet, contains, Updates}
use Rattle.std.specs.Ordering.{nat_cmp, is_eq}
use Rattle.std.proofs.lemmas.Bool.{cases_lt, false≢true, eq-eqb}
use Rattle.std.proofs.lemmas.List.{append-nil, get_or_at, get_or_append_left, take_more, take_all, drop_more, take-append-drop}
use Rattle.std.proofs.lemmas.List.Concat.{flat_map-append}
use Rattle.std.proofs.lemmas.List.Elements.{All-push, recursion_from_All}
use Rattle.std.proofs.lemmas.List.Folds.{list_any-append, list_any_none, list_any_at}
use Rattle.std.proofs.lemmas.Option.{get_or_from_slice_get, slice_get_within}
use Rattle.std.proofs.lemmas.Slice.Eq.{bytes_eq-Decides}
use Rattle.script_reader.specs.Fields.{is_name}
use Rattle.fleet_model.specs.declared.command.Command.{Command}
use Rattle.script_text.specs.Printable.{AllDiffer, made_in, pictures_made}
use Rattle.script_text.proofs.NameBytes.{differ}
use Rattle.script_text.proofs.Adding.{not-made}

module _ {X : Type 0} where
  one-more : (xs : List X) (i : ℕ) (x : X) → slice_get xs i ≡ Some x → take (i + 1) xs ≡ take i xs ++ x ∷ []
  one-more xs i x at = take_more xs i x (slice_get_within xs i x at) ∙ ap (λ y. take i xs ++ y ∷ []) (get_or_from_slice_get xs i x x at)

  whole : (xs : List X) (i : ℕ) (x : X) → slice_get xs i ≡ Some x → xs ≡ take i xs ++ x ∷ drop (i + 1) xs
  whole xs i x at =
      sym (take-append-drop i xs)
      ∙ ap (λ ys. take i xs ++ ys) (drop_more xs i x (slice_get_within xs i x at) ∙ ap (λ y. y ∷ drop (i + 1) xs) (get_or_from_slice_get xs i x x at))

  pub differ-more : (xs : List X) (y : X) → AllDiffer xs → ((k : ℕ) (d : X) → k < length xs → get_or xs k d ≢ y) → AllDiffer (xs ++ y ∷ [])
  differ-more xs y apart other i j d lt within =
      let size : length (xs ++ y ∷ []) ≡ length xs + 1 = length-append xs (y ∷ []) in
      elim (cases_lt j (length xs)) [
        | inl before ↦ λ e. apart i j d lt before (sym (get_or_append_left xs (y ∷ []) d i (omega arith)) ∙ e ∙ get_or_append_left xs (y ∷ []) d j before)
        | inr after ↦
            let at : length xs ≡ j = omega arith in
            λ e. other i d (omega arith) (sym (get_or_append_left xs (y ∷ []) d i (omega arith)) ∙ e ∙ get_or_at xs y [] d j at)
      ]

-- Names

pub record NamesAre (names : List (List ℕ)) (i : ℕ) : Type 0 where
  pub named : All (λ name. is_name name ≡ true) (take i names)
  pub apart : AllDiffer (take i names)

-- a name differs from those before it
none-before : (front : List (List ℕ)) (name : List ℕ) (rest : List (List ℕ)) → AllDiffer (front ++ name ∷ rest) → list_any (bytes_eq name) front ≡ false
none-before front name rest apart =
    let all = front ++ name ∷ rest in
    let within : length front < length all = omega (arith, length-append front (name ∷ rest)) in
    list_any_none (bytes_eq name) front (λ k d lt.
    differ name (get_or front k d) (λ e. apart k (length front) d lt within (get_or_append_left front (name ∷ rest) d k lt ∙ e ∙ sym (get_or_at front name rest d (length front) refl))))

pub each-other : (front : List (List ℕ)) (name : List ℕ) → list_any (bytes_eq name) front ≡ false → (k : ℕ) (d : List ℕ) → k < length front → get_or front k d ≢ name
each-other front name none k d lt e = false≢true (sym none ∙ list_any_at (bytes_eq name) front k d lt ((bytes_eq-Decides name (get_or front k d)).1 (sym e)))

module _ (names : List (List ℕ)) (i : ℕ) (name : List ℕ) (at : slice_get names i ≡ Some name) where
  pub name-more : NamesAre names i → is_name name ≡ true → list_any (bytes_eq name) (take i names) ≡ false → NamesAre names (i + 1)
  name-more h good other = record {
    named = subst (All (λ n. is_name n ≡ true)) (sym (one-more names i name at)) (All-push (λ n. is_name n ≡ true) (take i names) name h.named good);
    apart = subst AllDiffer (sym (one-more names i name at)) (differ-more (take i names) name h.apart (each-other (take i names) name other));
  }

  pub name-again : list_any (bytes_eq name) (take i names) ≡ true → AllDiffer names → ⊥
  name-again again apart = false≢true (sym (none-before (take i names) name (drop (i + 1) names) (subst AllDiffer (whole names i name at) apart)) ∙ again)

pub names-named : (names : List (List ℕ)) (i : ℕ) → length names ≤ i → NamesAre names i → AllByRecursion (λ name. is_name name ≡ true) names
names-named names i all h = recursion_from_All (λ name. is_name name ≡ true) names (subst (All (λ name. is_name name ≡ true)) (take_all i names all) h.named)

pub names-apart : (names : List (List ℕ)) (i : ℕ) → length names ≤ i → NamesAre names i → AllDiffer names
names-apart names i all h = subst AllDiffer (take_all i names all) h.apart

-- Pictures

pub record AreMadeOnce (commands : List Command) (made : BTreeSet ℕ) (i : ℕ) : Type 0 where
  pub has : (p : ℕ) → contains nat_cmp made p ≡ list_any (λ q. eqb q p) (pictures_made (take i commands))
  pub apart : AllDiffer (pictures_made (take i commands))

pub each-picture : (front : List ℕ) (p : ℕ) → list_any (λ q. eqb q p) front ≡ false → (k : ℕ) (d : ℕ) → k < length front → get_or front k d ≢ p
each-picture front p none k d lt e = false≢true (sym none ∙ list_any_at (λ q. eqb q p) front k d lt (eq-eqb (get_or front k d) p e))

is-equal : (a b : ℕ) → is_eq (nat_cmp a b) ≡ eqb a b
is-equal a b = grind (arith, nat_tests)

or-last : (b x : Bool) → cond b true x ≡ (x || (b || false))
or-last true true = refl
or-last true false = refl
or-last false true = refl
or-last false false = refl

module _ (commands : List Command) (i : ℕ) (x : Command) (at : slice_get commands i ≡ Some x) where
  pictures-more : pictures_made (take (i + 1) commands) ≡ pictures_made (take i commands) ++ made_in x
  pictures-more = ap pictures_made (one-more commands i x at) ∙ flat_map-append made_in (take i commands) (x ∷ []) ∙ ap (λ ps. pictures_made (take i commands) ++ ps) (append-nil (made_in x))

  -- the command makes no picture
  pub made-same : (made : BTreeSet ℕ) → AreMadeOnce commands made i → made_in x ≡ [] → AreMadeOnce commands made (i + 1)
  made-same made h none =
      let same : pictures_made (take (i + 1) commands) ≡ pictures_made (take i commands) = pictures-more ∙ ap (λ ps. pictures_made (take i commands) ++ ps) none ∙ append-nil (pictures_made (take i commands)) in
      record {
        has = λ p. h.has p ∙ ap (list_any (λ q. eqb q p)) (sym same);
        apart = subst AllDiffer (sym same) h.apart;
      }

  -- the command makes a new picture
  pub made-more : (made more : BTreeSet ℕ) (p : ℕ) → AreMadeOnce commands made i → made_in x ≡ p ∷ [] → contains nat_cmp made p ≡ false → Updates nat_cmp made more p true → AreMadeOnce commands more (i + 1)
  made-more made more p h makes fresh updates =
      let front = pictures_made (take i commands) in
      let same : pictures_made (take (i + 1) commands) ≡ front ++ p ∷ [] = pictures-more ∙ ap (λ ps. front ++ ps) makes in
      record {
        has = λ q.
            let had = contains nat_cmp made q in
            updates.0 q ∙ ap (λ b. cond b true had) (is-equal p q) ∙ or-last (eqb p q) had ∙ ap (λ b. b || (eqb p q || false)) (h.has q)
            ∙ sym (list_any-append (λ r. eqb r q) front (p ∷ [])) ∙ ap (list_any (λ r. eqb r q)) (sym same);
        apart = subst AllDiffer (sym same) (differ-more front p h.apart (each-picture front p (sym (h.has p) ∙ fresh)));
      }

  -- the command makes a picture that was made before
  pub made-again : (made : BTreeSet ℕ) (p : ℕ) → AreMadeOnce commands made i → made_in x ≡ p ∷ [] → contains nat_cmp made p ≡ true → AllDiffer (pictures_made commands) → ⊥
  made-again made p h makes again apart =
      let front = pictures_made (take i commands) in
      let rest = pictures_made (drop (i + 1) commands) in
      let all : pictures_made commands ≡ front ++ p ∷ rest = ap pictures_made (whole commands i x at) ∙ flat_map-append made_in (take i commands) (x ∷ drop (i + 1) commands) ∙ ap (λ ps. front ++ (ps ++ rest)) makes in
      false≢true (sym (not-made front p rest (subst AllDiffer all apart)) ∙ sym (h.has p) ∙ again)

pub made-apart : (commands : List Command) (i : ℕ) (made : BTreeSet ℕ) → length commands ≤ i → AreMadeOnce commands made i → AllDiffer (pictures_made commands)
made-apart commands i made all h = subst (λ xs. AllDiffer (pictures_made xs)) (take_all i commands all) h.apart
