-- `into_loose` gives what an open handle owns, and nothing of a closed one.
use Rattle.std.proofs.Common.{◌≡◌, List, [], ◌∷◌, ◌++◌, refl, sym, ◌∙◌, subst, lit<, true, false}
use mir.Syntax.{impl, tnil, dnil}
use mir.Raw.{raw as bare}
use mir.Val.{Val, vptr, vcons, vnil}
use base.Logic.{SProp, ent, emp, never, id⊢, fst∗}
use base.Fml.{ftrue}
use prog.Wp.{WpFn}
use types.Logic.{sem}
use types.Kit.{‵, raw, ◌⊛◌, at_ret, ◌$◌, ◌∵◌, !, qed, by, move, keep, split, fsplit, fjoin, suffices, use0, use1}
use types.Run.{of_opd, un, lit, fld, stop, no_more, and_then, first, branches, skips, exec, returns, returns_within, enter}
use types.ByLocal.{alloc_all, pass_all, free_all, look_at, get, get_in, sets, env}
use types.Part.{agg, sub, whole}
use types.Match.{live}
use contract.Monad.{fact, fact_i}
use contract.Running.{tables}
use denote.Exit.{yes}
use denote.RattleType.{RattleType, owns}
use denote.Signature.{types_at, type_at, plain}
use denote.RawPtr.{block_ptr, null_ptr, in_a_block}
use denote.Param.{layout}
use denote.Steps.{nothing}
use denote.Triple.Walked.{Stays, stay_dropped, walk_of}
use Rattle.std.proofs.alloc.Calls.{Al, Goes-blank, handle_tells}
use Rattle.std.proofs.alloc.Shapes.{after}
use Rattle.std.proofs.cell.Inside.{Good}
use Rattle.std.proofs.option.Made.{Some-of, none_of}
use Rattle.std.proofs.ResultValues.{and_tt}
use Rattle.std.proofs.raw_atomic.Walks.{proved_at, leaves}
use Rattle.std.specs.Prelude.{Some, None}
use Rattle.std.specs.Box.Ownership.{box_owns}
use Rattle.std.specs.contracts.alloc.Global as global
use Rattle.std.proofs.alloc.Global.TheLaws as global_laws
use Rattle.std.specs.contracts.impls.GlobalAllocator.TheImpl as heap
use Rattle.photofleet_c.proofs.Handles.{handle_out, may_cases, word}
use Rattle.photofleet_c.proofs.Loosed.{both, loose_good, loose_in}
use Rattle.photofleet_c.specs.contracts.loose.Loose as loose
use Rattle.photofleet_c.specs.contracts.session.Session as session
use Rattle.photofleet_c.specs.contracts.handle.Handle as handle
use Rattle.photofleet_c.specs.contracts.handle.Handle.into_loose.{ended, clauses}
use Rattle.photofleet_c.specs.contracts.handle.Handle.into_loose.Key.{name as #self}
use Rattle.photofleet_c.proofs.handle.Handle.into_loose.Statement.{statement}
use Rattle.photofleet_c.proofs.handle.Handle.into_loose.Code as code

pub into_loose_spec : {M : Type 1} → statement M
into_loose_spec 𝓤 𝓛 𝓜 𝓡 wired =
    let H = 𝓛.H in let 𝓣 = tables 𝓤 H 𝓜 𝓡 𝓡.env in let R : RattleType = session.the_row in let Z : RattleType = global.the_row in let LZ = global_laws.the_row_laws in let g = heap.ghosts in
    let al : Al = record { row = Z; laws = LZ; g = g; d = impl [] tnil dnil; drops = impl [] tnil dnil } in
    let c = clauses 𝓛 𝓜.mem 𝓡.returns in let fn = code.function in let Lo : RattleType = loose.the_row R Z g in let Ha : RattleType = handle.the_row in
    let hs : Stays ended.signature.params ended.kept = (stay_dropped (plain (λ _. Ha)) yes, (stay_dropped (plain (λ _. Z)) yes, tt)) in
    proved_at 𝓛 ended hs c 𝓜 𝓡 (Goes-blank 𝓛 0 (plain (λ _. Ha)) yes (λ κs x f. tt), (Goes-blank 𝓛 0 (plain (λ _. Z)) yes (λ κs x f. tt), tt)) #self fn (code.unfolded 𝓤 H 𝓜 𝓡 wired) (λ z are.
    let v = z.0.3.0 in let a = z.0.3.1.0 in let Post : Val → SProp 𝓤 = (walk_of 𝓛 ended hs c).post z in let Run : List Val → SProp 𝓤 = λ ws. WpFn 𝓤 H 𝓣.C 𝓣.Λ fn ws Post in
    let Out : RattleType = type_at ended.signature.result z.0.0 in
    qed 𝓛 ((‵ ftrue ⊛ ‵ (owns (types_at ended.signature.params z.0.0) z.0.3 z.0.4)) ∷ ‵ ftrue ∷ []) ∵ split ! $ move ! (1 ∷ []) $ fsplit ! $ move ! (1 ∷ []) $ fsplit ! $
    -- [the allocator; nothing; the handle; no token; no requires]
    handle_tells al ! a z.0.4.1.0 (λ h eh fits. move ! (2 ∷ []) $ handle_out ! v z.0.4.0 (λ ws. may_cases ! v.at v.is_open v.kept
    (λ shut none no_session. let w : Val = word null_ptr false in
    let us : z.0.4.0 ≡ w ∷ [] = ws ∙ (λ i. word (none i) (shut i) ∷ []) in
    suffices ! (Run (w ∷ h ∷ [])) (subst (λ (xs : List Val). ent 𝓤 (Run (w ∷ h ∷ [])) (Run xs)) (sym (λ i. us i ++ (eh i ++ []))) (id⊢ 𝓤 (Run (w ∷ h ∷ [])))) $
    enter ! 𝓣.C 𝓣.Λ fn (w ∷ h ∷ []) Post $ alloc_all ! (λ l. pass_all ! refl ((tt, (record { fits = lit< tt }, (tt, tt))), (fits, tt)) $ let Ev = env fn.locals l in
    sets ! (of_opd ! (get_in ! (fld ! refl (stop !)) (sub ! 0 refl (whole !)))) refl (tt, record { fits = lit< tt }) $ sets ! (of_opd ! (get_in ! (fld ! refl (stop !)) (sub ! 1 refl (whole !)))) refl (tt, tt) $
    sets ! (un ! (get ! refl) tt) refl (tt, tt) $ first ! $ branches ! (get ! refl)
    (λ _. let Told : Type 0 = None ≡ v.kept in let good : Good (layout Out) (live 0 vnil) = (tt, (record { fits = lit< tt }, tt)) in
    sets ! (agg ! (and_then ! (lit ! tt) (no_more !))) refl good $ returns_within ! Post refl (look_at ! 0 refl) $ free_all ! refl $
    use0 𝓛 (raw (fact 𝓤 Told)) (fact_i 𝓤 Told (emp 𝓤) (sym no_session)) $ use0 𝓛 (‵ (Out.own_val None (live 0 vnil ∷ []))) (none_of 𝓛 Lo) $ nothing ! $ nothing ! $ fjoin ! $ nothing ! $ fjoin ! $
    keep ! (5 ∷ 0 ∷ 1 ∷ 2 ∷ []) $ by ! (leaves 𝓛 ended hs c z (live 0 vnil) None (tt, (tt, tt)) (tt, (tt, tt))))
    (λ wrong. absurd wrong)))
    (λ s owner opened is. in_a_block ! v.at (λ p. box_owns (g.dealloc_token owner) R p s) (fst∗ 𝓤 (never 𝓤) (sem 𝓛 (g.dealloc_token owner (bare (layout R)) null_ptr))) (λ b o e.
    let w : Val = word (block_ptr b o) true in
    let us : z.0.4.0 ≡ w ∷ [] = ws ∙ (λ i. word (e i) (opened i) ∷ []) in
    suffices ! (Run (w ∷ h ∷ [])) (subst (λ (xs : List Val). ent 𝓤 (Run (w ∷ h ∷ [])) (Run xs)) (sym (λ i. us i ++ (eh i ++ []))) (id⊢ 𝓤 (Run (w ∷ h ∷ [])))) $
    enter ! 𝓣.C 𝓣.Λ fn (w ∷ h ∷ []) Post $ alloc_all ! (λ l. pass_all ! refl ((tt, (tt, (tt, tt))), (fits, tt)) $ let Ev = env fn.locals l in
    sets ! (of_opd ! (get_in ! (fld ! refl (stop !)) (sub ! 0 refl (whole !)))) refl (tt, tt) $ sets ! (of_opd ! (get_in ! (fld ! refl (stop !)) (sub ! 1 refl (whole !)))) refl (tt, tt) $
    sets ! (un ! (get ! refl) tt) refl (tt, tt) $ first ! $ branches ! (get ! refl) (λ wrong. absurd wrong) (λ _. skips ! $ exec ! 𝓣.C 𝓣.Λ Ev (after 4 fn.body) (at_ret Ev Post) $
    let made : Val = both (vptr b o) h in let typed = loose_good R Z LZ g b o h fits in let v₁ : Val = live 1 (vcons made vnil) in let d : Lo.Denot = record { at = block_ptr b o; alloc = a; value = s } in
    let good : Good (layout Out) v₁ = (and_tt _ typed.0, (record { fits = lit< tt }, (typed.1, tt))) in
    sets ! (agg ! (and_then ! (get ! refl) (and_then ! (get ! refl) (no_more !)))) refl typed $ sets ! (agg ! (and_then ! (lit ! tt) (and_then ! (get ! refl) (no_more !)))) refl good $
    returns ! (look_at ! 0 refl) $ free_all ! refl $
    let Told : Type 0 = Some s ≡ v.kept in loose_in R Z LZ g ! b o h a s $ use1 𝓛 (‵ (Out.own_val (Some d) (v₁ ∷ []))) (Some-of 𝓛 Lo d made) $ use0 𝓛 (raw (fact 𝓤 Told)) (fact_i 𝓤 Told (emp 𝓤) (sym is)) $
    nothing ! $ nothing ! $ fjoin ! $ nothing ! $ fjoin ! $ keep ! (4 ∷ 0 ∷ 2 ∷ 1 ∷ []) $ by ! (leaves 𝓛 ended hs c z v₁ (Some d) (tt, (tt, tt)) (tt, (tt, tt))))))))))
