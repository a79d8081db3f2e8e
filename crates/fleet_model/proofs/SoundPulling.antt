-- After a pull both devices are sound and nothing current is lost.
use Rattle.std.proofs.Common.{◌≡◌, ℕ, Bool, true, false, not, ◌&&◌, List, ◌++◌, ◌⊎◌, inl, inr, refl, ◌∙◌, subst, arith}
use Rattle.std.proofs.lemmas.Bool.{cases_Bool, or_from, or_parts, false_from_ne_true}
use Rattle.photo_filter_rules.proofs.Covering.{covers_selects}
use Rattle.photo_version.specs.Version.{Version}
use Rattle.photo_model.specs.Entry.{Entry, superseded_by, is_among}
use Rattle.photo_model.specs.Device.{ModelDevice, known, knows_entry, holds, selects}
use Rattle.photo_model.specs.Pull.{taken, handed, told, learns_all, leaves_store, pulled, handed_over}
use Rattle.fleet_model.specs.Members.{In}
use Rattle.fleet_model.proofs.Members.{in_left, in_right, in_either, passes}
use Rattle.fleet_model.proofs.Superseding.{clash, Supersedes, superseded_is, is_superseded, among_is, in_is_among, tell_is, tells_history, tells_itself}
use Rattle.fleet_model.proofs.Traced.{IsTracedLog, IsTracedDevice}
use Rattle.fleet_model.proofs.Pulling.{in_told, in_coming, taken_comes, handed_comes, coming_is_told, told_unknown, told_held, in_store_pulled, in_out_pulled, in_holds_pulled, stored_old, stored_new, out_old, out_new, after_is, after_old, after_told, after_all, in_out_handed, in_holds_handed}
use Rattle.fleet_model.proofs.TracedSteps.{told_logged}
use Rattle.fleet_model.proofs.SoundFacts.{IsOrderly, IsSoundDevice}

not_stale : (l k a : Bool) → l ≡ true → k ≡ true → (l && (k && not a)) ≡ false → a ≡ true
not_stale true true true h g f = refl
not_stale true true false h g f = grind arith
not_stale true false a h g f = grind arith
not_stale false k a h g f = grind arith

stale_parts : (l k a : Bool) → (l && (k && not a)) ≡ true → (l ≡ true) × (k ≡ true) × (a ≡ false)
stale_parts true true false h = (refl, refl, refl)
stale_parts true true true h = grind arith
stale_parts true false a h = grind arith
stale_parts false k a h = grind arith

module _ (log : List Entry) (t s : ModelDevice) (L : IsTracedLog log) (TT : IsTracedDevice log t) (TS : IsTracedDevice log s) (M : IsOrderly log) (T : IsSoundDevice log t) (S : IsSoundDevice log s) where
  is_logged : {e : Entry} → In e (told t s) → In e log
  is_logged i = told_logged log t s L TT TS i

  -- a source that covers the target selects what the target selects
  selected_too : (e : Entry) → In e log → learns_all t s ≡ true → selects t e ≡ true → selects s e ≡ true
  selected_too e i l h = covers_selects s.tree t.tree e.content (M.in_range e i) l h

  told_is_known : {w : Entry} → In w (told t s) → knows_entry (pulled t s) w ≡ true
  told_is_known {w = w} i = after_told t s w.picture w.version (tells_itself w i)

  -- why the target knows an entry of the log afterwards: it knew it before, was told of it or of one that supersedes it, or
  -- learned all that the source knows
  entry_cases : (e : Entry) → In e log → knows_entry (pulled t s) e ≡ true → (knows_entry t e ≡ true) ⊎ (In e (told t s) ⊎ (((w : Entry) × In w (told t s) × Supersedes w e) ⊎ ((learns_all t s ≡ true) × (knows_entry s e ≡ true))))
  entry_cases e i h = elim (after_is t s e.picture e.version h) [
    | inl a ↦ inl a
    | inr b ↦ elim b [
      | inl c ↦ let r = tell_is (told t s) e.picture e.version c in inr (elim r.tells [
        | inl d ↦ inr (inl (r.entry, r.among, record { same_picture = r.of; had = d }))
        | inr d ↦ inl (subst (λ (x : Entry). In x (told t s)) (L.distinct r.entry e (is_logged r.among) i d) r.among)
      ])
      | inr c ↦ inr (inr (inr c))
    ]
  ]

  -- supersession is transitive
  chain : (x w e : Entry) → In x log → In w log → Supersedes x w → Supersedes w e → Supersedes x e
  chain x w e i j h k = record { same_picture = h.same_picture ∙ k.same_picture; had = M.transitive x w i j h e.version k.had }

  -- a device that knows an entry of the log knows what the entry supersedes
  older_known : (w e : Entry) → In w log → knows_entry s w ≡ true → Supersedes w e → knows_entry s e ≡ true
  older_known w e i h k = subst (λ (q : ℕ). known s q e.version ≡ true) k.same_picture (S.closed w i h e.version k.had)

  -- if the target doesn't know a version, it knows nothing that supersedes that version
  newer_unknown : {P : Type 0} {w v : Entry} → In w log → knows_entry t w ≡ true → Supersedes w v → knows_entry t v ≡ false → P
  newer_unknown {w = w} {v = v} i h k u = clash _ (subst (λ (q : ℕ). known t q v.version ≡ true) k.same_picture (T.closed w i h v.version k.had)) u

  given_up : {P : Type 0} {w e : Entry} → In w (told t s) → Supersedes w e → superseded_by (told t s) e ≡ false → P
  given_up {e = e} i h k = clash _ (is_superseded i h) k

  coming_held : {e : Entry} → In e (taken t s ++ handed t s) → In e (holds s)
  coming_held i = told_held t s (coming_is_told t s i)

  coming_unknown : {e : Entry} → In e (taken t s ++ handed t s) → knows_entry t e ≡ false
  coming_unknown i = told_unknown t s (coming_is_told t s i)

  held_known_after : (e : Entry) → In e (holds (pulled t s)) → knows_entry (pulled t s) e ≡ true
  held_known_after e i = elim (in_holds_pulled t s i) [
    | inl a ↦ after_old t s e.picture e.version (T.held_known e a.0)
    | inr b ↦ told_is_known (coming_is_told t s b)
  ]

  closed_after : (w : Entry) → In w log → knows_entry (pulled t s) w ≡ true → (v : Version) → w.history v ≡ true → known (pulled t s) w.picture v ≡ true
  closed_after w i h v k = elim (entry_cases w i h) [
    | inl a ↦ after_old t s w.picture v (T.closed w i a v k)
    | inr b ↦ elim b [
      | inl c ↦ after_told t s w.picture v (tells_history w w.picture v c refl k)
      | inr c ↦ elim c [
        | inl d ↦ after_told t s w.picture v (tells_history d.0 w.picture v d.1 d.2.same_picture (M.transitive d.0 w (is_logged d.1) i d.2 v k))
        | inr d ↦ after_all t s w.picture v d.0 (S.closed w i d.1 v k)
      ]
    ]
  ]

  no_older_after : (w v : Entry) → In w (holds (pulled t s)) → In v (holds (pulled t s)) → Supersedes w v → ⊥
  no_older_after w v i j h = elim (in_holds_pulled t s i) [
    | inl a ↦ elim (in_holds_pulled t s j) [
      | inl b ↦ T.no_older w v a.0 b.0 h
      | inr b ↦ newer_unknown (TT.logged w a.0) (T.held_known w a.0) h (coming_unknown b)
    ]
    | inr a ↦ elim (in_holds_pulled t s j) [
      | inl b ↦ given_up (coming_is_told t s a) h b.1
      | inr b ↦ S.no_older w v (coming_held a) (coming_held b) h
    ]
  ]

  -- under cover, what stays in the target's store and is known to the source is in the source's store
  in_both_stores : (e : Entry) → In e t.store → leaves_store t s e ≡ false → learns_all t s ≡ true → knows_entry s e ≡ true → In e s.store
  in_both_stores e i g l k =
      let stale = (or_parts _ _ g).1 in
      let among : is_among s.store e.version ≡ true = not_stale (learns_all t s) (knows_entry s e) (is_among s.store e.version) l k stale in
      let r = among_is _ _ among in
      subst (λ (x : Entry). In x s.store) (L.distinct r.0 e (TS.logged r.0 (in_left s.out r.1)) (TT.logged e (in_left t.out i)) r.2) r.1

  newest_after : (e w : Entry) → In e (pulled t s).store → In w log → knows_entry (pulled t s) w ≡ true → Supersedes w e → ⊥
  newest_after e w i j h k = elim (in_store_pulled t s i) [
    | inl a ↦
        let stays = or_parts _ _ a.1 in
        elim (entry_cases w j h) [
          | inl b ↦ T.newest e w a.0 j b k
          | inr b ↦ elim b [
            | inl c ↦ given_up c k stays.0
            | inr c ↦ elim c [
              | inl d ↦ given_up d.1 (chain d.0 w e (is_logged d.1) j d.2 k) stays.0
              | inr d ↦ S.newest e w (in_both_stores e a.0 a.1 d.0 (older_known w e j d.1 k)) j d.1 k
            ]
          ]
        ]
    | inr a ↦ elim (entry_cases w j h) [
      | inl b ↦ newer_unknown j b k (coming_unknown a.0)
      | inr b ↦ elim b [
        | inl c ↦ S.no_older w e (told_held t s c) (coming_held a.0) k
        | inr c ↦ elim c [
          | inl d ↦ S.no_older d.0 e (told_held t s d.1) (coming_held a.0) (chain d.0 w e (is_logged d.1) j d.2 k)
          | inr d ↦ elim (in_coming t s a.0) [
            | inl x ↦ S.newest e w x.in_store j d.1 k
            | inr x ↦ clash _ (selected_too e (is_logged (coming_is_told t s a.0)) d.0 a.1) (S.unselected e x.in_out)
          ]
        ]
      ]
    ]
  ]

  -- the target still stores what it stored, unless it now knows something that supersedes it
  kept_in_store : (e : Entry) → In e log → selects t e ≡ true → ((w : Entry) → In w log → knows_entry (pulled t s) w ≡ true → Supersedes w e → ⊥) → leaves_store t s e ≡ false
  kept_in_store e j m none = or_from _ _
      (false_from_ne_true _ (λ h. let r = superseded_is _ _ h in none r.0 (is_logged r.1) (told_is_known r.1) r.2))
      (false_from_ne_true _ (λ h.
      let q = stale_parts (learns_all t s) (knows_entry s e) (is_among s.store e.version) h in
      clash _ (in_is_among (S.stored e j q.1 (selected_too e j q.0 m) (λ w x y z. none w x (after_all t s w.picture w.version q.0 y) z))) q.2))

  stored_after : (e : Entry) → In e log → knows_entry (pulled t s) e ≡ true → selects t e ≡ true → ((w : Entry) → In w log → knows_entry (pulled t s) w ≡ true → Supersedes w e → ⊥) → In e (pulled t s).store
  stored_after e i h m none = elim (cases_Bool (knows_entry t e)) [
    | inl a ↦ stored_old t s (T.stored e i a m (λ w x y z. none w x (after_old t s w.picture w.version y) z)) (kept_in_store e i m none)
    | inr a ↦ elim (entry_cases e i h) [
      | inl b ↦ clash _ b a
      | inr b ↦ elim b [
        | inl c ↦ elim (in_told t s c) [
          | inl x ↦ stored_new t s (taken_comes t s x) m
          | inr x ↦ elim x [ inl y ↦ stored_new t s (handed_comes t s y) m | inr y ↦ clash _ m y.misfits ]
        ]
        | inr c ↦ elim c [
          | inl d ↦ absurd (none d.0 (is_logged d.1) (told_is_known d.1) d.2)
          | inr d ↦ stored_new t s (taken_comes t s (record {
            in_store = S.stored e i d.1 (selected_too e i d.0 m) (λ w x y z. none w x (after_all t s w.picture w.version d.0 y) z);
            unknown = a;
            fits = m;
          })) m
        ]
      ]
    ]
  ]

  pub pulled_sound : IsSoundDevice log (pulled t s)
  pulled_sound = record {
    held_known = held_known_after;
    closed = closed_after;
    no_older = no_older_after;
    selected = λ e i. elim (in_store_pulled t s i) [ inl a ↦ T.selected e a.0 | inr b ↦ b.1 ];
    unselected = λ e i. elim (in_out_pulled t s i) [ inl a ↦ T.unselected e a.0 | inr b ↦ b.1 ];
    stored = stored_after;
    newest = newest_after;
  }

  pub handed_sound : IsSoundDevice log (handed_over t s)
  handed_sound = record {
    held_known = λ e i. S.held_known e (in_holds_handed t s i);
    closed = S.closed;
    no_older = λ w v i j. S.no_older w v (in_holds_handed t s i) (in_holds_handed t s j);
    selected = S.selected;
    unselected = λ e i. S.unselected e (in_out_handed t s i);
    stored = S.stored;
    newest = S.newest;
  }

  -- nothing current is lost
  pub kept_from_target : (e : Entry) → In e (holds t) → In e log → ((w : Entry) → In w log → Supersedes w e → ⊥) → In e (holds (pulled t s))
  kept_from_target e i j none =
      let not_told : superseded_by (told t s) e ≡ false = false_from_ne_true _ (λ h. let r = superseded_is _ _ h in none r.0 (is_logged r.1) r.2) in
      elim (in_either t.store i) [
        | inl a ↦ in_left (pulled t s).out (stored_old t s a (kept_in_store e j (T.selected e a) (λ w x _ z. none w x z)))
        | inr a ↦ in_right (pulled t s).store (out_old t s a not_told)
      ]

  pub kept_from_source : (e : Entry) → In e (holds s) → In e (holds (pulled t s)) ⊎ In e (holds (handed_over t s))
  kept_from_source e i = elim (in_either s.store i) [
    | inl a ↦ inr (in_left (handed_over t s).out a)
    | inr a ↦ elim (cases_Bool (knows_entry t e)) [
      | inl b ↦ inr (in_right s.store (passes (knows_entry t) a b))
      | inr b ↦ inl (elim (cases_Bool (selects t e)) [
        | inl c ↦ in_left (pulled t s).out (stored_new t s (handed_comes t s (record { in_out = a; unknown = b })) c)
        | inr c ↦ in_right (pulled t s).store (out_new t s (handed_comes t s (record { in_out = a; unknown = b })) c)
      ])
    ]
  ]
