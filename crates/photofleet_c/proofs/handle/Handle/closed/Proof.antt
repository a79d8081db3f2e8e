-- `closed` makes a handle that owns nothing.
use Rattle.std.proofs.Common.{◌≡◌, [], ◌∷◌, refl, false, lit<}
use mathlib.Core.Bool.{Bool}
use base.Fml.{ftrue}
use types.Kit.{‵, raw, ◌⊛◌, ◌$◌, ◌∵◌, !, qed, by, keep, split, fjoin, feq_i, use0}
use types.Run.{enter, lit, false_lit, no_more, and_then, returns}
use types.ByLocal.{alloc_all, pass_all, free_all, look_at, sets}
use types.Part.{agg}
use contract.Running.{tables}
use contract.Monad.{fact, fact_i}
use base.Logic.{emp}
use denote.RawPtr.{Ptr, null_ptr}
use denote.Triple.Walked.{Stays, walk_of}
use Rattle.std.specs.Prelude.{None}
use Rattle.std.proofs.raw_atomic.Walks.{proved, leaves}
use Rattle.photofleet_c.proofs.Handles.{handle_in, word}
use Rattle.photofleet_c.specs.contracts.handle.Handle as handle
use Rattle.photofleet_c.specs.contracts.handle.Handle.closed as f
use Rattle.photofleet_c.proofs.handle.Handle.closed.Statement.{statement}
use Rattle.photofleet_c.proofs.handle.Handle.closed.Code as code

pub closed_spec : {M : Type 1} → statement M
closed_spec 𝓤 𝓛 𝓜 𝓡 wired =
    let c = f.clauses 𝓛 𝓜.mem 𝓡.returns in let hs : Stays f.ended.signature.params f.ended.kept = tt in let W = walk_of 𝓛 f.ended hs c in let 𝓣 = tables 𝓤 𝓛.H 𝓜 𝓡 𝓡.env in
    proved 𝓛 f.ended hs c 𝓜 𝓡 tt f.Key.name code.function (code.unfolded 𝓤 𝓛.H 𝓜 𝓡 wired) (λ κs. tt) (λ κs. tt) (λ κs qs bounds a _ are.
    let d : (handle.the_row).Denot = record { at = null_ptr; is_open = false; kept = None } in let Told : Type 0 = d.kept ≡ None in
    let y : W.Ghost = ((κs, qs, bounds, a, tt), tt) in
    qed 𝓛 ((‵ ftrue ⊛ ‵ ftrue) ∷ ‵ ftrue ∷ []) ∵ split ! $
    enter ! _ _ _ _ _ $ alloc_all ! (λ l. pass_all ! refl tt $
    sets ! (agg ! (and_then ! (lit ! tt) (and_then ! (false_lit !) (no_more !)))) refl (tt, (record { fits = lit< tt }, (tt, tt))) $
    returns ! (look_at ! 0 refl) $ free_all ! refl $
    use0 𝓛 (raw (fact 𝓤 Told)) (fact_i 𝓤 Told (emp 𝓤) refl) $ feq_i ! Ptr null_ptr null_ptr refl $ feq_i ! Bool false false refl $ fjoin ! $ handle_in ! null_ptr false None $
    keep ! (2 ∷ 3 ∷ 0 ∷ 1 ∷ []) $ by ! (leaves 𝓛 f.ended hs c y (word null_ptr false) d tt tt)))
