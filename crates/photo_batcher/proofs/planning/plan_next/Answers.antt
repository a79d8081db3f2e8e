use Rattle.std.proofs.Common.{◌≡◌, ◌-◌, ◌≤◌, suc, List, ℕ, length, subst, sym, ◌∙◌, arith}
use Rattle.std.specs.Prelude.{IfSome, slice_index}
use Rattle.photo_batcher.specs.Greedy.{first_free, before_it}
use Rattle.photo_batcher.specs.Plans.{entry_of}
use Rattle.photo_batcher.specs.Steps.{read_second}
use Rattle.photo_batcher.proofs.Planned.{low_last, low_second, planned_more}
use Rattle.photo_batcher.proofs.planning.plan_next.Goals as goal

pub place_behind-batch-requires-clause-last : goal.place_behind-batch-requires-clause-last
place_behind-batch-requires-clause-last c =
    let a = c.args in
    let p = c.places_at-first in
    subst (λ (l : List ℕ). slice_index a.last.now p.result.0 ≤ length l) (sym c.as_slice.ensures.value)
    (low_last a.script.now (a.number - 1) p.result.0 a.last.now a.batches.now.items a.afters.now.items c.requires.so_far p.ensures.first_in)

pub place_behind-batch-requires-clause-other : goal.place_behind-batch-requires-clause-other
place_behind-batch-requires-clause-other c =
    let a = c.args in
    let p = c.places_at-first in
    subst (λ (l : List ℕ). IfSome c.last_on.result (λ n. n ≤ length l)) (sym c.as_slice.ensures.value)
    (subst (λ o. IfSome o (λ n. n ≤ length a.batches.now.items)) (sym c.last_on.ensures)
    (low_second a.script.now (a.number - 1) p.result.1 a.last.now a.batches.now.items a.afters.now.items c.requires.so_far p.ensures.second_in))

pub returns-clause-planned : goal.returns-clause-planned
returns-clause-planned c =
    let a = c.args in
    let p = c.places_at-first in
    let s = c.place_behind-batch in
    let is : a.number ≡ suc (a.number - 1) = omega (arith, c.requires.first) in
    let batch : s.result.0 ≡ first_free (entry_of a.batches.now.items) (slice_index a.last.now p.result.0) (read_second a.last.now p.result.1) =
    s.ensures.batch ∙ (λ i. first_free (entry_of (c.as_slice.ensures.value i)) (slice_index a.last.now p.result.0) (c.last_on.ensures i)) in
    let after : s.result.1 ≡ before_it (entry_of a.batches.now.items) (slice_index a.last.now p.result.0) (read_second a.last.now p.result.1) =
    s.ensures.after ∙ (λ i. before_it (entry_of (c.as_slice.ensures.value i)) (slice_index a.last.now p.result.0) (c.last_on.ensures i)) in
    rw (c.note.ensures, c.in_ok-push.ensures.items, c.in_ok-push-2.ensures.items)
    (planned_more a.script.now (a.number - 1) a.number p.result.0 p.result.1 a.last.now a.batches.now.items a.afters.now.items s.result.0 s.result.1 is c.requires.so_far p.ensures batch after)
