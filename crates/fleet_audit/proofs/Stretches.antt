-- A history has an author's versions of a picture up to some place in the stretch, and none behind it.
use Rattle.std.proofs.Common.{◌≡◌, ℕ, zero, suc, ◌+◌, ◌<◌, ◌≤◌, Bool, true, false, ◌==◌, ltb, max, ◌&&◌, ◌||◌, List, [], ◌∷◌, length, get_or, take, drop, refl, sym, subst, ap, ◌∙◌, inl, inr, arith, add-one}
use Rattle.std.proofs.Math.Bool.{or-false}
use Rattle.std.specs.Prelude.{filter, not, Option}
use Rattle.std.specs.List.{list_any}
use Rattle.std.specs.List.Sorted.{IsPartitionedBy}
use Rattle.std.proofs.lemmas.Bool.{and_parts, and_from, leb-true, le-leb, cases_eq, cases_Bool}
use Rattle.std.proofs.lemmas.List.Folds.{list_any_more}
use Rattle.photo_version.specs.Author.{same_author}
use Rattle.photo_version.specs.Version.{Version}
use Rattle.photo_version.specs.Vector.{Bound, denotes, reaches}
use Rattle.photo_device.specs.declared.held.Held.{Held}
use Rattle.photo_device.specs.Device.{Kept}
use Rattle.fleet_audit.specs.Current.{counts, is_passed, is_outdated}
use Rattle.fleet_audit.specs.Stretch.{Follows, IsStretch}
use Rattle.fleet_audit.proofs.Lists.{less_max, rest_fails}

reaches_earlier : (b : Bound) (h next : Held) → Follows h next → reaches b next.version ≡ true → reaches b h.version ≡ true
reaches_earlier b h next f e =
    let p = and_parts _ _ e in
    let q = and_parts _ _ p.1 in
    let within : next.version.number ≤ b.1 = leb-true _ _ q.1 in
    let rises = f.rises in
    let above = f.above in
    and_from _ _ (subst (λ a. same_author b.0 a ≡ true) (sym f.author) p.0)
    (and_from _ _ (le-leb 1 h.version.number (omega arith)) (le-leb h.version.number b.1 (omega arith)))

denotes_earlier : (bounds : List Bound) (h next : Held) → Follows h next → denotes bounds next.version ≡ true → denotes bounds h.version ≡ true
denotes_earlier [] h next f e = e
denotes_earlier (b ∷ bounds) h next f e = elim (cases_Bool (reaches b next.version)) [
  | inl here ↦ rw (reaches_earlier b h next f here) refl
  | inr none ↦
      let rest : denotes bounds h.version ≡ true = denotes_earlier bounds h next f (sym (ap (λ t. t || denotes bounds next.version) none) ∙ e) in
      ap (λ t. reaches b h.version || t) rest ∙ or_true (reaches b h.version)
]
  where
    or_true : (t : Bool) → (t || true) ≡ true
    or_true true = refl
    or_true false = refl

module _ (helds : List Held) (stretch : IsStretch helds) where
  next_at : (k : ℕ) (d : Held) → suc k < length helds → Follows (get_or helds k d) (get_or helds (suc k) d)
  next_at k d l = rw (sym (add-one k)) (stretch k d (omega arith))

  pub same_picture : (k : ℕ) (d : Held) → k < length helds → (get_or helds k d).picture ≡ (get_or helds 0 d).picture
  same_picture zero d l = refl
  same_picture (suc k) d l = sym (next_at k d l).picture ∙ same_picture k d (omega arith)

  pub known_first : (bounds : List Bound) → IsPartitionedBy (λ h. denotes bounds h.version) helds
  known_first bounds i j d o l e = down i j d o l e
    where
      down : (i j : ℕ) (d : Held) → i ≤ j → j < length helds → denotes bounds (get_or helds j d).version ≡ true → denotes bounds (get_or helds i d).version ≡ true
      down i zero d o l e = let same : i ≡ 0 = omega arith in rw same e
      down i (suc j) d o l e = elim (cases_eq i (suc j)) [
        | inl same ↦ rw same e
        | inr less ↦ down i j d (omega arith) (omega arith) (denotes_earlier bounds _ _ (next_at j d l) e)
      ]

-- with one more version of the log
module _ (viewer : Option Kept) (made stretch : List Held) (i count : ℕ) (w : Held) (l : i < length made) (is : get_or made i w ≡ w)
    (passed : (k : ℕ) (d : Held) → k < length stretch → ltb k count ≡ is_passed viewer (take i made) (get_or stretch k d).version) where
  more : (v : Version) → is_passed viewer (take (i + 1) made) v ≡ (is_passed viewer (take i made) v || (counts viewer w && denotes w.made_with v))
  more v = list_any_more (λ x. counts viewer x && denotes x.made_with v) made i w l ∙ ap (λ (x : Held). is_passed viewer (take i made) v || (counts viewer x && denotes x.made_with v)) is

  pub one_counted : counts viewer w ≡ true → (n : ℕ) → ((k : ℕ) (d : Held) → k < length stretch → ltb k n ≡ denotes w.made_with (get_or stretch k d).version)
      → (k : ℕ) (d : Held) → k < length stretch → ltb k (max count n) ≡ is_passed viewer (take (i + 1) made) (get_or stretch k d).version
  one_counted c n known k d h =
      less_max k count n
      ∙ (λ j. passed k d h j || (sym c j && known k d h j))
      ∙ sym (more (get_or stretch k d).version)

  pub one_uncounted : counts viewer w ≡ false → (k : ℕ) (d : Held) → k < length stretch → ltb k count ≡ is_passed viewer (take (i + 1) made) (get_or stretch k d).version
  one_uncounted c k d h =
      passed k d h
      ∙ sym (or-false (is_passed viewer (take i made) (get_or stretch k d).version))
      ∙ (λ j. is_passed viewer (take i made) (get_or stretch k d).version || (sym c j && denotes w.made_with (get_or stretch k d).version))
      ∙ sym (more (get_or stretch k d).version)

-- the versions of a stretch that are not superseded are its last ones
pub last_current : (viewer : Option Kept) (log made stretch : List Held) (p count : ℕ) → IsStretch stretch → ((d : Held) → (get_or stretch 0 d).picture ≡ p)
    → ((test : Held → Bool) → list_any test made ≡ list_any (λ h. (h.picture == p) && test h) log)
    → ((k : ℕ) (d : Held) → k < length stretch → ltb k count ≡ is_passed viewer made (get_or stretch k d).version)
    → drop count stretch ≡ filter (λ h. not (is_outdated viewer log h)) stretch
last_current viewer log made stretch p count is first of passed =
    rest_fails (is_outdated viewer log) stretch count (λ k d l.
    passed k d l
    ∙ of (λ w. counts viewer w && denotes w.made_with (get_or stretch k d).version)
    ∙ ap (λ q. list_any (λ w. (w.picture == q) && (counts viewer w && denotes w.made_with (get_or stretch k d).version)) log) (sym (first d) ∙ sym (same_picture stretch is k d l)))
