-- A handle by value: what it owns beside its two machine values. Assumes `Logic`.
use Rattle.std.proofs.Common.{◌≡◌, List, [], ◌∷◌, ◌++◌, refl, subst}
use mathlib.Core.Bool.{Bool, true, false}
use Rattle.std.specs.Prelude.{Option, Some, None}
use seplogic.Ra.Ura.{Ura}
use mir.Val.{Val, vbool, vstruct, vcons, vnil, of_list}
use types.Logic.{Logic}
use types.Kit.{Item, Goal, Seq, Step, step, ‵, ◌$◌, drop, fsplit, fjoin, fpick, fpack, feq_i, feq_l}
use denote.RattleType.{Valss}
use denote.Builtin.{RawPtr, bool}
use denote.RawPtr.{Ptr, ptr_val, null_ptr}
use denote.Steps.{nothing}
use denote.Struct.Struct.{within}
use denote.Struct.Owning.{shape}
use Rattle.std.specs.Box.Ownership.{box_owns}
use Rattle.std.specs.Global.{Global}
use Rattle.std.specs.contracts.impls.GlobalAllocator.TheImpl.{ghosts}
use Rattle.photofleet_c.specs.Kept.{may_own}
use Rattle.photofleet_c.specs.contracts.session.Session.{the_row as R}
use Rattle.photofleet_c.specs.contracts.handle.Handle as handle

-- the machine value
abbrev pub word : Ptr → Bool → Val
word p is_open = vstruct (vcons (ptr_val p) (vcons (vbool is_open) vnil))

module _ {M : Type 1} {𝓤 : Ura M} {𝓛 : Logic 𝓤} {K : Type 0} {Γ : List (Item 𝓤)} {G : Goal 𝓤 𝓛.H} where
  -- a handle is made of what it owns
  pub handle_in : K → (p : Ptr) (is_open : Bool) (x : Option (R.Denot))
      → Step K 𝓛 (‵ ((handle.the_row).own_val (record { at = p; is_open = is_open; kept = x }) (word p is_open ∷ [])) ∷ Γ) G (‵ (may_own R p is_open x) ∷ Γ) G
  handle_in t p is_open x = step (λ s. let v : Val = word p is_open in
      nothing t $ feq_i t (List Val) (vbool is_open ∷ []) (vbool is_open ∷ []) refl $ fjoin t $ feq_i t (List Val) (ptr_val p ∷ []) (ptr_val p ∷ []) refl $ fjoin t $
      feq_i t (List Val) (v ∷ []) (v ∷ []) refl $ fjoin t $
      fpack t (Valss (RawPtr ∷ bool ∷ [])) (within (shape handle.the_type) (p, (is_open, tt)) (v ∷ [])) (ptr_val p ∷ [], (vbool is_open ∷ [], tt)) $ fjoin t $ s)

  -- it is closed, or there is a session
  pub may_cases : K → (p : Ptr) (is_open : Bool) (x : Option (R.Denot))
      → (is_open ≡ false → p ≡ null_ptr → x ≡ None → Seq K 𝓛 Γ G) → ((s : R.Denot) (alloc : Global) → is_open ≡ true → x ≡ Some s → Seq K 𝓛 (‵ (box_owns (ghosts.dealloc_token alloc) R p s) ∷ Γ) G)
      → Seq K 𝓛 (‵ (may_own R p is_open x) ∷ Γ) G
  may_cases t p is_open None closed opened = fsplit t $ feq_l t (λ e. feq_l t (λ n. closed e n refl))
  may_cases t p is_open (Some s) closed opened = fsplit t $ feq_l t (λ e. fpick t (λ alloc. opened s alloc e refl))

  -- and taken apart into that
  pub handle_out : K → (d : (handle.the_row).Denot) (vs : List Val)
      → (vs ≡ word d.at d.is_open ∷ [] → Seq K 𝓛 (‵ (may_own R d.at d.is_open d.kept) ∷ Γ) G)
      → Seq K 𝓛 (‵ ((handle.the_row).own_val d vs) ∷ Γ) G
  handle_out t d vs k =
      fsplit t $ fpick t (λ vss. fsplit t $ feq_l t (λ ev. fsplit t $ feq_l t (λ ep. fsplit t $ feq_l t (λ eb. drop t $ k
      (subst (λ (bs : List Val). vs ≡ vstruct (of_list (ptr_val d.at ∷ (bs ++ []))) ∷ []) eb
      (subst (λ (ps : List Val). vs ≡ vstruct (of_list (ps ++ (vss.1.0 ++ []))) ∷ []) ep ev))))))
