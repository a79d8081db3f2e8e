-- A device stays sound after narrowing.
use Rattle.std.proofs.Common.{◌≡◌, true, List, inl, inr}
use Rattle.std.proofs.lemmas.Bool.{false_from_ne_true}
use Rattle.photo_filter_text.specs.Tree.{Tree}
use Rattle.photo_filter_rules.specs.Covers.{covers}
use Rattle.photo_filter_rules.proofs.Covering.{covers_selects}
use Rattle.photo_model.specs.Entry.{Entry}
use Rattle.photo_model.specs.Device.{ModelDevice, narrowed}
use Rattle.fleet_model.proofs.Members.{in_right}
use Rattle.fleet_model.proofs.Superseding.{clash}
use Rattle.fleet_model.proofs.Traced.{IsTracedDevice}
use Rattle.fleet_model.proofs.Narrowing.{in_store_narrowed, in_out_narrowed, in_holds_narrowed, stays_stored}
use Rattle.fleet_model.proofs.SoundFacts.{IsOrderly, IsSoundDevice}

pub narrowed_sound : (log : List Entry) (tree : Tree) (d : ModelDevice) → IsTracedDevice log d → IsOrderly log → IsSoundDevice log d → covers d.tree tree ≡ true → IsSoundDevice log (narrowed tree d)
narrowed_sound log tree d D M S covered = record {
  held_known = λ e i. S.held_known e (in_holds_narrowed tree d i);
  closed = S.closed;
  no_older = λ w v i j. S.no_older w v (in_holds_narrowed tree d i) (in_holds_narrowed tree d j);
  selected = λ e i. (in_store_narrowed tree d i).1;
  unselected = λ e i. elim (in_out_narrowed tree d i) [
    | inl a ↦ a.1
    | inr a ↦ false_from_ne_true _ (λ h. clash _ (covers_selects d.tree tree e.content (M.in_range e (D.logged e (in_right d.store a))) covered h) (S.unselected e a))
  ];
  stored = λ e i h m none. stays_stored tree d (S.stored e i h (covers_selects d.tree tree e.content (M.in_range e i) covered m) none) m;
  newest = λ e w i. S.newest e w (in_store_narrowed tree d i).0;
}
