-- Conflicts, picture by picture.
use Rattle.std.proofs.Common.{◌≡◌, ℕ, ◌<◌, ◌≤◌, Bool, true, not, eqb, ltb, List, [], ◌∷◌, ◌++◌, length, get_or, take, drop, append_assoc, refl, sym, ap, ◌∙◌, subst, inl, inr, arith}
use Rattle.std.specs.Prelude.{filter, map}
use Rattle.std.specs.List.Sorted.{IsPartitionedBy}
use Rattle.std.proofs.lemmas.Bool.{cases_lt, false≢true, eqb-true, eq-eqb}
use Rattle.std.proofs.lemmas.Bool.Decides.{nat_tests}
use Rattle.std.proofs.lemmas.List.{length-map, length-drop}
use Rattle.photo_version.specs.Version.{Version}
use Rattle.photo_device.specs.declared.held.Held.{Held}
use Rattle.photo_model.specs.Conflicts.{Conflict, pictures_of, versions_of, conflicts_in}
use Rattle.photo_model.specs.Entry.{Entry, others}
use Rattle.photo_device.specs.Held.{entry_of, entries_of, are_in_order, held_of_others}
use Rattle.photo_device.proofs.Shown.{entries-others}
use Rattle.photo_device.proofs.Order.{rises, in_order-filter}
use Rattle.photo_device.proofs.Putting.{TurnsAt, turned, list_all_wider, list_all_filtered, filter_all, filter-swap, map_alike}

-- Of entries in any order: the conflict of the first one's picture, and those of the others

abbrev is_other : ℕ → ℕ → Bool
is_other p q = not (eqb q p)

pictures-others : (p : ℕ) (es : List Entry) → filter (is_other p) (pictures_of es) ≡ pictures_of (others p es)
pictures-others p [] = refl
pictures-others p (e ∷ es) =
    let rest = pictures-others p es in
    grind (arith, nat_tests, filter_all, list_all_filtered, filter-swap)

-- another picture has its versions among the others
versions-others : (p q : ℕ) (es : List Entry) → is_other p q ≡ true → versions_of es q ≡ versions_of (others p es) q
versions-others p q es other =
    ap (λ l. record { picture = q; versions = map (λ (e : Entry). e.version) l })
    (sym (filter-swap (λ (e : Entry). eqb e.picture q) (λ (e : Entry). is_other p e.picture) es
    ∙ filter_all (λ (e : Entry). is_other p e.picture) _ (list_all_wider (λ (e : Entry). eqb e.picture q) (λ (e : Entry). is_other p e.picture) (λ e same. ap (is_other p) (eqb-true e.picture q same) ∙ other) _
    (list_all_filtered (λ (e : Entry). eqb e.picture q) es))))

abbrev are_two : Conflict → Bool
are_two c = ltb 1 (length c.versions)

abbrev first_and : Conflict → List Entry → List Conflict
first_and c es = filter are_two (c ∷ map (versions_of es) (pictures_of es))

first_conflict : (e : Entry) (es : List Entry) → conflicts_in (e ∷ es) ≡ first_and (versions_of (e ∷ es) e.picture) (others e.picture (e ∷ es))
first_conflict e es =
    let p = e.picture in
    let without : others p es ≡ others p (e ∷ es) = rw (eq-eqb p p refl) refl in
    ap (λ l. filter are_two (versions_of (e ∷ es) p ∷ l))
    (map_alike (versions_of (e ∷ es)) (versions_of (others p (e ∷ es))) (is_other p) (λ q other. versions-others p q (e ∷ es) other) _ (list_all_filtered (is_other p) (pictures_of es))
    ∙ ap (map (versions_of (others p (e ∷ es)))) (pictures-others p es ∙ ap pictures_of without))

-- Of held versions in order: those of the first one's picture stand in front

abbrev pub is_at : ℕ → Held → Bool
is_at p h = eqb h.picture p

abbrev pub conflict_of : ℕ → List Held → Conflict
conflict_of p run = record { picture = p; versions = map (λ (h : Held). h.version) run }

versions-held : (p : ℕ) (hs : List Held) → versions_of (entries_of hs) p ≡ conflict_of p (filter (is_at p) hs)
versions-held p [] = refl
versions-held p (h ∷ hs) = let rest = versions-held p hs in grind (arith, nat_tests)

-- the first picture's versions, and the others
pub record IsFirstRun (p : ℕ) (hs run rest : List Held) : Type 0 where
  pub conflicts : conflicts_in (entries_of hs) ≡ first_and (conflict_of p run) (entries_of rest)
  pub order : are_in_order rest ≡ true
  pub shorter : length rest < length hs

first_at : (h : Held) (hs : List Held) → are_in_order (h ∷ hs) ≡ true → IsPartitionedBy (is_at h.picture) (h ∷ hs)
first_at h hs o i j d le l here =
    let first = rises (h ∷ hs) o 0 i d (omega arith) (omega arith) in
    let up = rises (h ∷ hs) o i j d le l in
    grind (arith, nat_tests)

pub first_run : (p : ℕ) (hs run rest : List Held) (x : Held) (n : ℕ) → 0 < length hs → x ≡ get_or hs 0 x → p ≡ x.picture → are_in_order hs ≡ true → n ≤ length hs → (IsPartitionedBy (is_at p) hs → TurnsAt (is_at p) hs n) → run ≡ take n hs → rest ≡ drop n hs
    → IsFirstRun p hs run rest
first_run p [] run rest x n some is same o within turns run_is rest_is = absurd (omega arith)
first_run p (h ∷ hs) run rest x n some is same o within turns run_is rest_is =
    let first = same ∙ ap (λ (y : Held). y.picture) is in
    let point = turns (subst (λ q. IsPartitionedBy (is_at q) (h ∷ hs)) (sym first) (first_at h hs o)) in
    let parts = turned (is_at p) (h ∷ hs) n within point in
    let left : held_of_others p (h ∷ hs) ≡ rest = parts.1 ∙ sym rest_is in
    let some_first : 0 < n = elim (cases_lt 0 n) [
      | inl some ↦ some
      | inr none ↦ absurd (false≢true (sym (point.1 0 h none (omega arith)) ∙ eq-eqb h.picture p (sym first)))
    ] in
    record {
      conflicts = subst (λ q. conflicts_in (entries_of (h ∷ hs)) ≡ first_and (versions_of (entries_of (h ∷ hs)) q) (others q (entries_of (h ∷ hs)))) (sym first) (first_conflict (entry_of h) (entries_of hs))
          ∙ (λ i. first_and ((versions-held p (h ∷ hs) ∙ ap (conflict_of p) (parts.0 ∙ sym run_is)) i) ((sym (entries-others p (h ∷ hs)) ∙ ap entries_of left) i));
      order = subst (λ l. are_in_order l ≡ true) left (in_order-filter (λ (x : Held). not (eqb x.picture p)) (h ∷ hs) o);
      shorter = let long = ap length rest_is ∙ length-drop n (h ∷ hs) in omega arith;
    }

-- with what was found before, and without

pub run_two : (p : ℕ) (hs run rest : List Held) (old new : List Conflict) (versions : List Version) → IsFirstRun p hs run rest → 1 < length run → versions ≡ map (λ (h : Held). h.version) run → new ≡ old ++ record { picture = p; versions = versions } ∷ []
    → new ++ conflicts_in (entries_of rest) ≡ old ++ conflicts_in (entries_of hs)
run_two p hs run rest old new versions first two versions_is new_is =
    let c = first.conflicts in
    let many = length-map run (λ (h : Held). h.version) in
    let group = append_assoc old (conflict_of p run ∷ []) (conflicts_in (entries_of rest)) in
    grind (arith, nat_tests)

pub run_one : (p : ℕ) (hs run rest : List Held) (old : List Conflict) → IsFirstRun p hs run rest → length run ≤ 1 → old ++ conflicts_in (entries_of rest) ≡ old ++ conflicts_in (entries_of hs)
run_one p hs run rest old first one = let c = first.conflicts in let many = length-map run (λ (h : Held). h.version) in grind (arith, nat_tests)
