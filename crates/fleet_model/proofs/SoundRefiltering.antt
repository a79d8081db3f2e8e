-- A device stays sound after refiltering.
use Rattle.std.proofs.Common.{◌≡◌, true, List, ◌⊎◌, inl, inr, refl, ◌∙◌, subst}
use Rattle.photo_filter_text.specs.Tree.{Tree}
use Rattle.photo_model.specs.Entry.{Entry}
use Rattle.photo_model.specs.Device.{ModelDevice, knows_entry, holds}
use Rattle.photo_model.specs.Refiltered.{refiltered}
use Rattle.fleet_model.specs.Members.{In}
use Rattle.fleet_model.proofs.Superseding.{Supersedes}
use Rattle.fleet_model.proofs.Traced.{IsTracedLog, IsTracedDevice}
use Rattle.fleet_model.proofs.SoundFacts.{IsOrderly, IsSoundDevice}
use Rattle.fleet_model.proofs.Refiltering.{in_store_refiltered, in_out_refiltered, in_holds_refiltered, comes_to_store, known_refiltered, knows_history, knows_itself}

module _ (log : List Entry) (tree : Tree) (d : ModelDevice) (L : IsTracedLog log) (D : IsTracedDevice log d) (M : IsOrderly log) (S : IsSoundDevice log d) where
  -- an entry of the log that the device knows afterwards is held, or something that supersedes it is held
  entry_cases : (e : Entry) → In e log → knows_entry (refiltered tree d) e ≡ true → In e (holds d) ⊎ ((w : Entry) × In w (holds d) × Supersedes w e)
  entry_cases e i h = let r = known_refiltered tree d e.picture e.version h in elim r.tells [
    | inl a ↦ inr (r.entry, r.among, record { same_picture = r.of; had = a })
    | inr a ↦ inl (subst (λ (x : Entry). In x (holds d)) (L.distinct r.entry e (D.logged r.entry r.among) i a) r.among)
  ]

  pub refiltered_sound : IsSoundDevice log (refiltered tree d)
  refiltered_sound = record {
    held_known = λ e i. knows_itself tree d (in_holds_refiltered tree d i);
    closed = λ w i h v k. elim (entry_cases w i h) [
      | inl a ↦ knows_history tree d w.picture v a refl k
      | inr b ↦ knows_history tree d w.picture v b.1 b.2.same_picture (M.transitive b.0 w (D.logged b.0 b.1) i b.2 v k)
    ];
    no_older = λ w v i j. S.no_older w v (in_holds_refiltered tree d i) (in_holds_refiltered tree d j);
    selected = λ e i. (in_store_refiltered tree d i).1;
    unselected = λ e i. (in_out_refiltered tree d i).1;
    stored = λ e i h m none. elim (entry_cases e i h) [
      | inl a ↦ comes_to_store tree d a m
      | inr b ↦ absurd (none b.0 (D.logged b.0 b.1) (knows_itself tree d b.1) b.2)
    ];
    newest = λ e w i j h k. elim (entry_cases w j h) [
      | inl a ↦ S.no_older w e a (in_store_refiltered tree d i).0 k
      | inr b ↦ S.no_older b.0 e b.1 (in_store_refiltered tree d i).0
          (record { same_picture = b.2.same_picture ∙ k.same_picture; had = M.transitive b.0 w (D.logged b.0 b.1) j b.2 e.version k.had })
    ];
  }
