-- After a device makes a version, it and the others are sound for the log with the new entry.
use Rattle.std.proofs.Common.{◌≡◌, ℕ, ◌≤◌, true, false, ◌==◌, List, [], ◌∷◌, ◌++◌, ◌⊎◌, inl, inr, sym, subst}
use Rattle.std.proofs.lemmas.Bool.{cases_Bool, eqb-true, eqb-false}
use Rattle.photo_record.specs.declared.record.Record.{Record}
use Rattle.photo_filter_rules.specs.Matching.{IsInRange, matches}
use Rattle.photo_version.specs.Version.{Version}
use Rattle.photo_model.specs.Entry.{Entry}
use Rattle.photo_model.specs.Device.{ModelDevice, known, knows_entry, holds, selects, new_entry, next_version, made}
use Rattle.fleet_model.specs.Members.{In}
use Rattle.fleet_model.proofs.Members.{in_left, in_right, in_either}
use Rattle.fleet_model.proofs.Superseding.{Supersedes}
use Rattle.fleet_model.proofs.Traced.{IsTracedLog, IsTracedDevice}
use Rattle.fleet_model.proofs.Making.{known_is, known_stays, known_new, in_store_made, in_out_made, in_holds_made, new_stored, new_out, old_stored, old_out}
use Rattle.fleet_model.proofs.TracedSteps.{fresh, not_in_history, not_known, in_longer, new_logged, made_logged}
use Rattle.fleet_model.proofs.SoundFacts.{IsOrderly, IsSoundDevice}

module _ (log : List Entry) (d : ModelDevice) (p : ℕ) (r : Record) (L : IsTracedLog log) (D : IsTracedDevice log d) (bounded : (e : Entry) → In e log → e.version.author ≡ d.author → e.version.number ≤ d.counter) where
  is_fresh : (e : Entry) → In e log → e.version ≡ next_version d → ⊥
  is_fresh = fresh log d p r L D bounded

  no_history : (w : Entry) → In w log → w.history (next_version d) ≡ true → ⊥
  no_history = not_in_history log d p r L D bounded

  unknown : (q : ℕ) → known d q (next_version d) ≡ true → ⊥
  unknown = not_known log d p r L D bounded

  cases : {e : Entry} → In e (log ++ new_entry d p r ∷ []) → In e log ⊎ (e ≡ new_entry d p r)
  cases i = in_longer log d p r L D bounded i

  logged_new : In (new_entry d p r) (log ++ new_entry d p r ∷ [])
  logged_new = new_logged log d p r L D bounded

  -- a device that doesn't know the new version stays sound
  pub others_sound : (o : ModelDevice) → IsTracedDevice log o → IsSoundDevice log o → IsSoundDevice (log ++ new_entry d p r ∷ []) o
  others_sound o O S =
      let not_new : (w : Entry) → w ≡ new_entry d p r → knows_entry o w ≡ true → ⊥ = λ w e h. let m = O.made_only w.picture (next_version d) (subst (λ (x : Entry). known o w.picture x.version ≡ true) e h) in is_fresh m.entry m.logged m.is in
      record {
        held_known = S.held_known;
        closed = λ w i h v k. elim (cases i) [ inl a ↦ S.closed w a h v k | inr b ↦ absurd (not_new w b h) ];
        no_older = S.no_older;
        selected = S.selected;
        unselected = S.unselected;
        stored = λ e i h m none. elim (cases i) [ inl a ↦ S.stored e a h m (λ w j. none w (in_left (new_entry d p r ∷ []) j)) | inr b ↦ absurd (not_new e b h) ];
        newest = λ e w i j h k. elim (cases j) [ inl a ↦ S.newest e w i a h k | inr b ↦ not_new w b h ];
      }

  module _ (M : IsOrderly log) (S : IsSoundDevice log d) (fits : IsInRange r) where
    -- what the new entry supersedes was known to its maker, with its history
    known_older : (x : Entry) → In x log → Supersedes (new_entry d p r) x → (v : Version) → x.history v ≡ true → known d p v ≡ true
    known_older x i h v k = subst (λ (q : ℕ). known d q v ≡ true) (sym h.same_picture) (S.closed x i (subst (λ (q : ℕ). known d q x.version ≡ true) h.same_picture h.had) v k)

    pub longer_orderly : IsOrderly (log ++ new_entry d p r ∷ [])
    longer_orderly = record {
      transitive = λ w x i j h v k. elim (cases i) [
        | inl a ↦ elim (cases j) [
          | inl b ↦ M.transitive w x a b h v k
          | inr b ↦ absurd (no_history w a (subst (λ (y : Entry). w.history y.version ≡ true) b h.had))
        ]
        | inr a ↦ subst (λ (y : Entry). y.history v ≡ true) (sym a) (elim (cases j) [
          | inl b ↦ known_older x b (subst (λ (y : Entry). Supersedes y x) a h) v k
          | inr b ↦ absurd (unknown p (subst (λ (y : Entry). known d p y.version ≡ true) b (subst (λ (y : Entry). Supersedes y x) a h).had))
        ])
      ];
      in_range = λ e i. elim (cases i) [ inl a ↦ M.in_range e a | inr b ↦ subst (λ (y : Entry). IsInRange y.content) (sym b) fits ];
    }

    -- an entry of the old log that the maker knows afterwards it knew before
    knew : (e : Entry) → In e log → knows_entry (made d p r) e ≡ true → knows_entry d e ≡ true
    knew e i h = elim (known_is d p r e.picture e.version h) [ inl a ↦ a | inr b ↦ absurd (is_fresh e i b) ]

    -- nothing in the log supersedes the new entry, and the new entry supersedes what its maker knew of the picture
    nothing_newer : (w : Entry) → In w (log ++ new_entry d p r ∷ []) → Supersedes w (new_entry d p r) → ⊥
    nothing_newer w i h = elim (cases i) [
      | inl a ↦ no_history w a h.had
      | inr a ↦ unknown p (subst (λ (y : Entry). Supersedes y (new_entry d p r)) a h).had
    ]

    is_older : (e : Entry) → knows_entry d e ≡ true → (e.picture == p) ≡ true → Supersedes (new_entry d p r) e
    is_older e h k = record { same_picture = sym (eqb-true _ _ k); had = subst (λ (q : ℕ). known d q e.version ≡ true) (eqb-true _ _ k) h }

    other_picture : {P : Type 0} {e : Entry} → Supersedes (new_entry d p r) e → (e.picture == p) ≡ false → P
    other_picture {e = e} h k = absurd (eqb-false _ _ k (sym h.same_picture))

    pub made_sound : IsSoundDevice (log ++ new_entry d p r ∷ []) (made d p r)
    made_sound = record {
      held_known = λ e i. elim (in_holds_made d p r i) [
        | inl a ↦ subst (λ (y : Entry). knows_entry (made d p r) y ≡ true) (sym a) (known_new d p r p)
        | inr b ↦ known_stays d p r e.picture e.version (S.held_known e b.0)
      ];
      closed = λ w i h v k. elim (cases i) [
        | inl a ↦ known_stays d p r w.picture v (S.closed w a (knew w a h) v k)
        | inr a ↦ subst (λ (y : Entry). known (made d p r) y.picture v ≡ true) (sym a) (known_stays d p r p v (subst (λ (y : Entry). y.history v ≡ true) a k))
      ];
      no_older = λ w v i j h. elim (in_holds_made d p r j) [
        | inl b ↦ nothing_newer w (made_logged log d p r L D bounded w i) (subst (λ (y : Entry). Supersedes w y) b h)
        | inr b ↦ elim (in_holds_made d p r i) [
          | inl a ↦ other_picture (subst (λ (y : Entry). Supersedes y v) a h) b.1
          | inr a ↦ S.no_older w v a.0 b.0 h
        ]
      ];
      selected = λ e i. elim (in_store_made d p r i) [ inl a ↦ subst (λ (y : Entry). selects d y ≡ true) (sym a.0) a.1 | inr b ↦ S.selected e b.0 ];
      unselected = λ e i. elim (in_out_made d p r i) [ inl a ↦ subst (λ (y : Entry). selects d y ≡ false) (sym a.0) a.1 | inr b ↦ S.unselected e b.0 ];
      stored = λ e i h m none. elim (cases i) [
        | inl a ↦ elim (cases_Bool (e.picture == p)) [
          | inl b ↦ absurd (none (new_entry d p r) logged_new (known_new d p r p) (is_older e (knew e a h) b))
          | inr b ↦ old_stored d p r (S.stored e a (knew e a h) m (λ w x y z. none w (in_left (new_entry d p r ∷ []) x) (known_stays d p r w.picture w.version y) z)) b
        ]
        | inr a ↦ subst (λ (y : Entry). In y (made d p r).store) (sym a) (new_stored d p r (subst (λ (y : Entry). selects d y ≡ true) a m))
      ];
      newest = λ e w i j h k. elim (in_store_made d p r i) [
        | inl a ↦ nothing_newer w j (subst (λ (y : Entry). Supersedes w y) a.0 k)
        | inr a ↦ elim (cases j) [
          | inl b ↦ S.newest e w a.0 b (knew w b h) k
          | inr b ↦ other_picture (subst (λ (y : Entry). Supersedes y e) b k) a.1
        ]
      ];
    }

    -- a held entry that nothing supersedes stays held, and the new entry is held
    pub kept_by_maker : (e : Entry) → In e (holds d) → ((w : Entry) → In w (log ++ new_entry d p r ∷ []) → Supersedes w e → ⊥) → In e (holds (made d p r))
    kept_by_maker e i none = elim (cases_Bool (e.picture == p)) [
      | inl a ↦ absurd (none (new_entry d p r) logged_new (is_older e (S.held_known e i) a))
      | inr a ↦ elim (in_either d.store i) [
        | inl b ↦ in_left (made d p r).out (old_stored d p r b a)
        | inr b ↦ in_right (made d p r).store (old_out d p r b a)
      ]
    ]

  pub new_held : In (new_entry d p r) (holds (made d p r))
  new_held = elim (cases_Bool (matches d.tree r)) [
    | inl a ↦ in_left (made d p r).out (new_stored d p r a)
    | inr a ↦ in_right (made d p r).store (new_out d p r a)
  ]
