-- After making, pulling, handing over and filter changes, a device knows and holds only what the log has.
use Rattle.std.proofs.Common.{◌≡◌, ℕ, ◌+◌, ◌≤◌, true, cond, List, [], ◌∷◌, ◌++◌, ◌⊎◌, inl, inr, refl, sym, ap, ◌∙◌, subst, arith}
use Rattle.std.proofs.lemmas.Bool.{cases_Bool}
use Rattle.std.proofs.lemmas.List.Sums.{sum_by-cons, sum_by-append}
use Rattle.photo_record.specs.declared.record.Record.{Record}
use Rattle.photo_filter_text.specs.Tree.{Tree}
use Rattle.photo_version.specs.Version.{Version}
use Rattle.photo_model.specs.Entry.{Entry}
use Rattle.photo_model.specs.Device.{ModelDevice, known, holds, new_entry, next_version, made, narrowed}
use Rattle.photo_model.specs.Telling.{tell}
use Rattle.photo_model.specs.Refiltered.{refiltered}
use Rattle.photo_model.specs.Pull.{told, pulled, handed_over}
use Rattle.fleet_model.specs.Members.{In, here}
use Rattle.fleet_model.proofs.Members.{in_one, in_left, in_right, in_either}
use Rattle.fleet_model.specs.Sound.{occurrences}
use Rattle.fleet_model.proofs.Superseding.{tell_is, same_version_is}
use Rattle.fleet_model.proofs.Times.{is_of, one_or_none, none_of, found}
use Rattle.fleet_model.proofs.Traced.{IsMade, IsTracedLog, IsTracedDevice}
use Rattle.fleet_model.proofs.Making.{known_is, in_holds_made}
use Rattle.fleet_model.proofs.Pulling.{after_is, in_holds_pulled, told_held, coming_is_told, in_holds_handed}
use Rattle.fleet_model.proofs.Narrowing.{in_holds_narrowed}
use Rattle.fleet_model.proofs.Refiltering.{in_holds_refiltered, known_refiltered}

pub still_made : {log : List Entry} {v : Version} (more : List Entry) → IsMade log v → IsMade (log ++ more) v
still_made more m = record { entry = m.entry; logged = in_left more m.logged; is = m.is }

-- a device stays traced when the log grows
pub others_traced : (log more : List Entry) (d : ModelDevice) → IsTracedDevice log d → IsTracedDevice (log ++ more) d
others_traced log more d D = record {
  made_only = λ p v h. still_made more (D.made_only p v h);
  logged = λ e i. in_left more (D.logged e i);
}

-- making
module _ (log : List Entry) (d : ModelDevice) (p : ℕ) (r : Record) (L : IsTracedLog log) (D : IsTracedDevice log d) (bounded : (e : Entry) → In e log → e.version.author ≡ d.author → e.version.number ≤ d.counter) where
  pub fresh : (e : Entry) → In e log → e.version ≡ next_version d → ⊥
  fresh e i h =
      let a : e.version.number ≤ d.counter = bounded e i (ap (λ (v : Version). v.author) h) in
      let b : e.version.number ≡ d.counter + 1 = ap (λ (v : Version). v.number) h in
      omega arith

  pub not_in_history : (w : Entry) → In w log → w.history (next_version d) ≡ true → ⊥
  not_in_history w i h = let m = L.made_only w i (next_version d) h in fresh m.entry m.logged m.is

  pub not_known : (q : ℕ) → known d q (next_version d) ≡ true → ⊥
  not_known q h = let m = D.made_only q (next_version d) h in fresh m.entry m.logged m.is

  pub in_longer : {e : Entry} → In e (log ++ new_entry d p r ∷ []) → In e log ⊎ (e ≡ new_entry d p r)
  in_longer i = elim (in_either log i) [ inl a ↦ inl a | inr b ↦ inr (in_one b) ]

  pub new_logged : In (new_entry d p r) (log ++ new_entry d p r ∷ [])
  new_logged = in_right log (here refl)

  made_once : (v : Version) → occurrences v (log ++ new_entry d p r ∷ []) ≤ 1
  made_once v =
      let n = new_entry d p r in
      let all : occurrences v (log ++ n ∷ []) ≡ occurrences v log + occurrences v (n ∷ []) = sum_by-append (λ e. cond (is_of v e) 1 0) log (n ∷ []) in
      let one : occurrences v (n ∷ []) ≡ cond (is_of v n) 1 0 + 0 = sum_by-cons (λ e. cond (is_of v e) 1 0) n [] in
      elim (found v log) [
        | inl none ↦ let few : cond (is_of v n) 1 0 ≤ 1 = one_or_none (is_of v n) in omega arith
        | inr some ↦ elim (cases_Bool (is_of v n)) [
          | inl same ↦ absurd (fresh some.0 some.1 (some.2 ∙ sym (same_version_is n.version v same)))
          | inr other ↦
              let none : cond (is_of v n) 1 0 ≤ 0 = none_of (is_of v n) other in
              let old : occurrences v log ≤ 1 = L.once v in
              omega arith
        ]
      ]

  pub longer_traced : IsTracedLog (log ++ new_entry d p r ∷ [])
  longer_traced = record {
    once = made_once;
    distinct = λ e f i j h. elim (in_longer i) [
      | inl a ↦ elim (in_longer j) [ inl b ↦ L.distinct e f a b h | inr b ↦ absurd (fresh e a (h ∙ ap (λ (x : Entry). x.version) b)) ]
      | inr a ↦ elim (in_longer j) [ inl b ↦ absurd (fresh f b (sym h ∙ ap (λ (x : Entry). x.version) a)) | inr b ↦ a ∙ sym b ]
    ];
    made_only = λ w i v h. elim (in_longer i) [
      | inl a ↦ still_made (new_entry d p r ∷ []) (L.made_only w a v h)
      | inr a ↦ still_made (new_entry d p r ∷ []) (D.made_only p v (subst (λ (y : Entry). y.history v ≡ true) a h))
    ];
  }

  pub made_logged : (e : Entry) → In e (holds (made d p r)) → In e (log ++ new_entry d p r ∷ [])
  made_logged e i = elim (in_holds_made d p r i) [
    | inl a ↦ subst (λ (y : Entry). In y (log ++ new_entry d p r ∷ [])) (sym a) new_logged
    | inr b ↦ in_left (new_entry d p r ∷ []) (D.logged e b.0)
  ]

  pub made_traced : IsTracedDevice (log ++ new_entry d p r ∷ []) (made d p r)
  made_traced = record {
    made_only = λ q v h. elim (known_is d p r q v h) [
      | inl a ↦ still_made (new_entry d p r ∷ []) (D.made_only q v a)
      | inr b ↦ record { entry = new_entry d p r; logged = new_logged; is = sym b }
    ];
    logged = made_logged;
  }

-- pulling
module _ (log : List Entry) (t s : ModelDevice) (L : IsTracedLog log) (T : IsTracedDevice log t) (S : IsTracedDevice log s) where
  pub told_logged : {e : Entry} → In e (told t s) → In e log
  told_logged {e = e} i = S.logged e (told_held t s i)

  told_made : (p : ℕ) (v : Version) → tell (told t s) p v ≡ true → IsMade log v
  told_made p v h = let r = tell_is (told t s) p v h in elim r.tells [
    | inl d ↦ L.made_only r.entry (told_logged r.among) v d
    | inr d ↦ record { entry = r.entry; logged = told_logged r.among; is = d }
  ]

  pub pulled_traced : IsTracedDevice log (pulled t s)
  pulled_traced = record {
    made_only = λ p v h. elim (after_is t s p v h) [
      | inl a ↦ T.made_only p v a
      | inr b ↦ elim b [ inl c ↦ told_made p v c | inr c ↦ S.made_only p v c.1 ]
    ];
    logged = λ e i. elim (in_holds_pulled t s i) [ inl a ↦ T.logged e a.0 | inr b ↦ told_logged (coming_is_told t s b) ];
  }

  pub handed_traced : IsTracedDevice log (handed_over t s)
  handed_traced = record {
    made_only = S.made_only;
    logged = λ e i. S.logged e (in_holds_handed t s i);
  }

-- narrowing
pub narrowed_traced : (log : List Entry) (tree : Tree) (d : ModelDevice) → IsTracedDevice log d → IsTracedDevice log (narrowed tree d)
narrowed_traced log tree d D = record {
  made_only = D.made_only;
  logged = λ e i. D.logged e (in_holds_narrowed tree d i);
}

-- refiltering
pub refiltered_traced : (log : List Entry) (tree : Tree) (d : ModelDevice) → IsTracedLog log → IsTracedDevice log d → IsTracedDevice log (refiltered tree d)
refiltered_traced log tree d L D = record {
  made_only = λ p v h. let r = known_refiltered tree d p v h in elim r.tells [
    | inl a ↦ L.made_only r.entry (D.logged r.entry r.among) v a
    | inr a ↦ record { entry = r.entry; logged = D.logged r.entry r.among; is = a }
  ];
  logged = λ e i. D.logged e (in_holds_refiltered tree d i);
}
