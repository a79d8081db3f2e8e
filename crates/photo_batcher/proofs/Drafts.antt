-- A plan in progress, and the chain of a command.
use Rattle.std.proofs.Common.{◌≡◌, ℕ, zero, suc, ◌<◌, ◌≤◌, List, [], ◌∷◌, ◌++◌, length, map, set, reverse, refl, sym, ap, ◌∙◌, subst, arith}
use Rattle.std.specs.Prelude.{Some, None, false, replicate, slice_index_or, ◌==◌}
use Rattle.std.proofs.lemmas.List.{reverse-append, length-map}
use Rattle.std.proofs.lemmas.Bool.{ne_eqb, cond-false}
use Rattle.fleet_model.specs.Contents.{Contents}
use Rattle.fleet_model.specs.Limits.{max_commands}
use Rattle.photo_batcher.specs.Batches.{IsLinked, last_of, IsFollowed}
use Rattle.photo_batcher.specs.Plans.{entry_of, Planned, planned, after_in, IsPlan, IsShaped}
use Rattle.photo_batcher.specs.Steps.{IsPlannedTo, IsGroupedTo, with_member, IsDraft, IsGoneBack}
use Rattle.photo_batcher.proofs.Lasts.{there}
use Rattle.photo_batcher.proofs.Grouped.{grouped_none, grouped_same, grouped_more, low_enough, with_long}
use Rattle.photo_batcher.proofs.Planned.{planned_none, planned_all, shaped, entry_more, entry_new}

module _ (script : Contents) where
  pub draft_none : (last : List ℕ) → last ≡ replicate (length script.names) 0 → IsDraft script 0 last [] [] []
  draft_none last is = record { planned_to = planned_none script last is; grouped = grouped_none (entry_of []); few = omega arith }

  -- the earlier commands stay grouped when the list of batches grows
  regrouped : (n x : ℕ) (last batches afters : List ℕ) (rows : List (List ℕ)) → IsDraft script n last batches afters rows → IsGroupedTo (entry_of (batches ++ x ∷ [])) n rows
  regrouped n x last batches afters rows d =
      let many = d.planned_to.many in
      grouped_same (entry_of batches) (entry_of (batches ++ x ∷ [])) n rows (λ k some few. entry_more batches x k (omega arith)) d.grouped

  low_next : (n x : ℕ) (last batches afters new_last new_afters : List ℕ) (rows : List (List ℕ)) → IsDraft script n last batches afters rows → n < length script.commands → IsPlannedTo script (suc n) new_last (batches ++ x ∷ []) new_afters → x ≤ length rows
  low_next n x last batches afters new_last new_afters rows d within p =
      let t = there script (suc n) (omega arith, omega arith) in
      let low = low_enough script (entry_of (batches ++ x ∷ [])) n (suc n) t.command rows p.greedy (omega arith) t.is (regrouped n x last batches afters rows d) in
      let is = entry_new batches x n d.planned_to.many in
      omega arith

  pub draft_low : (n m x : ℕ) (last batches afters new_last new_batches new_afters : List ℕ) (rows : List (List ℕ)) → m ≡ suc n → IsDraft script n last batches afters rows → n < length script.commands → IsPlannedTo script m new_last new_batches new_afters → new_batches ≡ batches ++ x ∷ [] → x ≤ length rows
  draft_low n m x last batches afters new_last new_batches new_afters rows is d within p more =
      low_next n x last batches afters new_last new_afters rows d within (subst (λ (k : ℕ). IsPlannedTo script k new_last (batches ++ x ∷ []) new_afters) is (subst (λ (l : List ℕ). IsPlannedTo script m new_last l new_afters) more p))

  pub draft_more : (n m x : ℕ) (last batches afters new_last new_batches new_afters : List ℕ) (rows : List (List ℕ)) → m ≡ suc n → IsDraft script n last batches afters rows → n < length script.commands → IsPlannedTo script m new_last new_batches new_afters → new_batches ≡ batches ++ x ∷ []
      → IsDraft script m new_last new_batches new_afters (with_member x m rows)
  draft_more n m x last batches afters new_last new_batches new_afters rows is d within p more =
      let low : x ≤ length rows = draft_low n m x last batches afters new_last new_batches new_afters rows is d within p more in
      let many = d.planned_to.many in
      let here : entry_of new_batches m ≡ x = (λ i. entry_of (more i) (is i)) ∙ entry_new batches x n many in
      let again : IsGroupedTo (entry_of new_batches) n rows = subst (λ (l : List ℕ). IsGroupedTo (entry_of l) n rows) (sym more) (regrouped n x last batches afters rows d) in
      let long = with_long x m rows low in
      let longer = long.2 in
      let few = d.few in
      record {
        planned_to = p;
        grouped = subst (λ (k : ℕ). IsGroupedTo (entry_of new_batches) m (with_member k m rows)) here (grouped_more (entry_of new_batches) n m rows is again (omega arith));
        few = omega arith;
      }

  pub draft_all : (n : ℕ) (last batches afters : List ℕ) (rows : List (List ℕ)) → n ≡ length script.commands → IsDraft script n last batches afters rows → IsPlan script (planned batches afters rows)
  draft_all n last batches afters rows all d =
      planned_all script last batches afters rows (subst (λ (k : ℕ). IsPlannedTo script k last batches afters) all d.planned_to) (subst (λ (k : ℕ). IsGroupedTo (entry_of batches) k rows) all d.grouped)

  pub draft_shaped : (n : ℕ) (last batches afters : List ℕ) (rows : List (List ℕ)) → n ≤ length script.commands → n ≤ max_commands → IsDraft script n last batches afters rows → IsShaped (planned batches afters rows)
  draft_shaped n last batches afters rows within few d = shaped script last batches afters rows n within few d.planned_to d.few

-- lists in a list

written : {V : Type 0} (row_of : V → List ℕ) (members : List V) (batch n : ℕ) (new d : V) → row_of new ≡ row_of (slice_index_or members batch d) ++ n ∷ [] → batch < length members → map row_of (set members batch new) ≡ set (map row_of members) batch (slice_index_or (map row_of members) batch [] ++ n ∷ [])
written row_of [] batch n new d is h = refl
written row_of (v ∷ vs) zero n new d is h = ap (λ (l : List ℕ). l ∷ map row_of vs) is
written row_of (v ∷ vs) (suc k) n new d is h = ap (λ (l : List (List ℕ)). row_of v ∷ l) (written row_of vs k n new d is (omega arith))

pub put_in_row : {V : Type 0} (row_of : V → List ℕ) (members : List V) (batch n : ℕ) (new d : V) → row_of new ≡ row_of (slice_index_or members batch d) ++ n ∷ [] → batch < length members → map row_of (set members batch new) ≡ with_member batch n (map row_of members)
put_in_row row_of members batch n new d is h =
    let long = length-map members row_of in
    let not : (batch == length (map row_of members)) ≡ false = ne_eqb batch (length (map row_of members)) (omega arith) in
    written row_of members batch n new d is h ∙ sym (cond-false _ _ _ not)

-- going back along a chain

pub gone_more : (p : Planned) (number last before : ℕ) (chain : List ℕ) → IsGoneBack p number last chain → after_in p last ≡ Some before → 0 < before → before < last → IsGoneBack p number before (chain ++ before ∷ [])
gone_more p number last before chain g is above less =
    let whole : reverse (chain ++ before ∷ []) ≡ before ∷ last ∷ g.rest = reverse-append chain (before ∷ []) ∙ ap (λ (l : List ℕ). before ∷ l) g.head in
    let linked : IsLinked (after_in p) (last ∷ g.rest) = subst (IsLinked (after_in p)) g.head g.linked in
    let ends : last_of (last ∷ g.rest) ≡ Some number = ap last_of (sym g.head) ∙ g.ends in
    let within = g.within in
    record {
      linked = subst (IsLinked (after_in p)) (sym whole) (is, linked);
      ends = ap last_of whole ∙ ends;
      rest = last ∷ g.rest;
      head = whole;
      some = above;
      within = omega arith;
    }

pub gone_all : (p : Planned) (number last : ℕ) (chain found : List ℕ) → IsGoneBack p number last chain → after_in p last ≡ None → found ≡ reverse chain → IsFollowed (after_in p) number found
gone_all p number last chain found g none is = record {
  first = last;
  rest = g.rest;
  is = is ∙ g.head;
  none = none;
  linked = subst (IsLinked (after_in p)) (sym is) g.linked;
  ends = ap last_of is ∙ g.ends;
}
