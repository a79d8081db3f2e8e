-- What a pull tells and takes, on the model devices that two devices show; what they show after it, and its counts.
use Rattle.std.proofs.Common.{◌≡◌, ℕ, ◌+◌, ◌≤◌, Bool, true, false, not, ◌&&◌, ◌||◌, eqb, List, [], ◌++◌, length, map, refl, sym, ap, subst, ◌∙◌, arith, ◌<◌}
use Rattle.std.specs.Prelude.{filter}
use Rattle.std.specs.List.{list_any}
use Rattle.std.proofs.Math.Bool.{or-false}
use Rattle.std.proofs.lemmas.Bool.{eq-eqb}
use Rattle.std.proofs.lemmas.List.{nil_from_length, map-append, length-map}
use Rattle.std.proofs.lemmas.List.Folds.{list_any-append}
use Rattle.std.proofs.lemmas.List.Filters.{length-filter_both}
use Rattle.photo_version.specs.Version.{Version, same_version, Versions}
use Rattle.item_knowledge.specs.Fragments.{knows}
use Rattle.item_knowledge.specs.Staged.{Knowing}
use Rattle.photo_filter_text.specs.Tree.{Tree}
use Rattle.photo_filter_rules.specs.Matching.{matches}
use Rattle.photo_filter_rules.specs.Covers.{covers}
use Rattle.photo_device.specs.declared.held.Held.{Held}
use Rattle.photo_model.specs.Entry.{Entry, supersedes, superseded_by, without, put_entries}
use Rattle.photo_device.specs.Held.{entry_of, entries_of, count_of, versions_of}
use Rattle.photo_model.specs.Device.{ModelDevice, holds, knows_entry, selects, changed, without_waiting}
use Rattle.photo_device.specs.Device.{Kept, Shows}
use Rattle.photo_model.specs.Telling.{tell}
use Rattle.photo_device.specs.Telling.{tells}
use Rattle.photo_device.proofs.Counts.{count_of-append, same_version_self, same_version_is}
use Rattle.photo_device.proofs.Putting.{filter_true}
use Rattle.photo_device.proofs.Shown.{entries-filter, held_shown}
use Rattle.photo_pull.specs.Findings.{AreReady, IsDelta, IsNothing}
use Rattle.photo_model.specs.Pull.{taken, handed, noticed, told, learns_all, is_stale, leaves_store, leaves_out, pulled, handed_over, counts_of}
use Rattle.photo_pull.specs.OnHeld.{is_new, is_above, new_waiting, learns, is_over, is_stale_held, is_dropped, dropped_stored, dropped_waiting, is_selected, is_heard, heard, taken_stored, drops, gains}
use Rattle.photo_model.specs.declared.counts.PullCounts.{PullCounts}
use Rattle.photo_pull.specs.declared.delta.PullDelta.{PullDelta}
use Rattle.photo_pull.proofs.Members.{In, in_left, in_right, any_same, filter_alike, filter_filter, any_map, any_swap, any_parts, only_one}
use Rattle.photo_pull.proofs.Told.{known_here, same_picture, is_notice, notices, heard_as, over_is}

-- a test of entries keeps the entries of those that a test of held versions keeps
filter_shown : (f : Entry → Bool) (g : Held → Bool) (hs : List Held) (es : List Entry) → entries_of hs ≡ es → ((h : Held) → In h hs → f (entry_of h) ≡ g h) → filter f es ≡ entries_of (filter g hs)
filter_shown f g hs es e same =
    ap (filter f) (sym e) ∙ sym (entries-filter f hs) ∙ ap (map entry_of) (filter_alike (λ h. f (entry_of h)) g hs same)

-- tests that agree on the entries of held versions keep the same of them
filters_agree : (f g : Entry → Bool) (hs : List Held) (es : List Entry) → entries_of hs ≡ es → ((h : Held) → In h hs → f (entry_of h) ≡ g (entry_of h)) → filter f es ≡ filter g es
filters_agree f g hs es e same = filter_shown f (λ h. g (entry_of h)) hs es e same ∙ sym (filter_shown g (λ h. g (entry_of h)) hs es e (λ h _. refl))

pub any_shown : (f : Entry → Bool) (g : Held → Bool) (hs : List Held) (es : List Entry) → entries_of hs ≡ es → ((h : Held) → In h hs → f (entry_of h) ≡ g h) → list_any f es ≡ list_any g hs
any_shown f g hs es e same = ap (list_any f) (sym e) ∙ any_map f entry_of hs ∙ any_same (λ h. f (entry_of h)) g hs same

-- where one of two lists has a version, and once: whether the version is among those of what a test keeps of that list, and of the other
among : (h : Held) (q r : Held → Bool) (xs ys : List Held) → In h xs → count_of h.version xs + count_of h.version ys ≤ 1
    → (list_any (λ v. same_version v h.version) (versions_of (filter q xs)) ≡ q h) × (list_any (λ v. same_version v h.version) (versions_of (filter r ys)) ≡ false)
among h q r xs ys here few =
    let same : Held → Bool = λ g. same_version g.version h.version in
    let kept = λ (f : Held → Bool) (zs : List Held). any_map (λ v. same_version v h.version) (λ (g : Held). g.version) (filter f zs) ∙ any_swap same f zs in
    let one = only_one same h xs here (same_version_self h.version) (omega arith) in
    let none = nil_from_length (filter same ys) (let counted = ap length one in omega arith) in
    (kept q xs ∙ ap (list_any q) one ∙ or-false (q h), kept r ys ∙ ap (list_any r) none)

abbrev pub takes : Kept → Kept → List Held
takes t s = taken_stored t s ++ new_waiting t s

module _ (t s : Kept) (ready : AreReady t s) (tm sm : ModelDevice) (shows_t : Shows t tm) (shows_s : Shows s sm) where
  pub new_shown : (w : Held) → In w (s.store ++ s.out) → not (knows_entry tm (entry_of w)) ≡ is_new t.knowledge w
  new_shown w here = ap not (sym (shows_t.known w.picture (known_here s ready.source w here).above w.version))

  selected_shown : (w : Held) → selects tm (entry_of w) ≡ is_selected t.tree w
  selected_shown w = ap (λ (tree : Tree). matches tree w.content) (sym shows_t.tree)

  notice_shown : (w : Held) → list_any (supersedes (entry_of w)) (holds tm) ≡ is_notice t w
  notice_shown w = any_shown (supersedes (entry_of w)) (λ h. is_above w h) (t.store ++ t.out) (holds tm) (held_shown t tm shows_t) (λ h _. refl)

  -- a part of what is heard of
  told_part : (f : Entry → Bool) (q r : Held → Bool) → ((w : Held) → In w s.store → is_new t.knowledge w ≡ true → (is_heard t s w && q w) ≡ r w) → ((w : Held) → f (entry_of w) ≡ r w)
      → filter (λ e. not (knows_entry tm e) && f e) sm.store ≡ entries_of (filter q (heard t s))
  told_part f q r by shown =
      filter_shown (λ e. not (knows_entry tm e) && f e) (λ w. is_new t.knowledge w && r w) s.store sm.store shows_s.store (λ w here i. new_shown w (in_left w s.store s.out here) i && shown w i)
      ∙ sym (ap (map entry_of) (simp filter_filter (filter_alike _ (λ w. is_new t.knowledge w && r w) s.store (λ w here. let same = by w here in grind arith))))

  pub taken_shown : taken tm sm ≡ entries_of (taken_stored t s)
  taken_shown = told_part (selects tm) (is_selected t.tree) (is_selected t.tree) (λ w here new. grind arith) selected_shown

  pub handed_shown : handed tm sm ≡ entries_of (new_waiting t s)
  handed_shown = filter_shown (λ e. not (knows_entry tm e)) (is_new t.knowledge) s.out sm.out shows_s.out (λ w here. new_shown w (in_right w s.store s.out here))

  pub noticed_shown : noticed tm sm ≡ entries_of (notices t s)
  noticed_shown = told_part (λ e. not (selects tm e) && list_any (supersedes e) (holds tm)) (λ w. not (is_selected t.tree w)) (λ w. not (is_selected t.tree w) && is_notice t w)
      (λ w here new. let as_told = heard_as t s w here new in grind arith) (λ w i. not (selected_shown w i) && notice_shown w i)

  -- a test of what is told of
  told_any : (f : Entry → Bool) → list_any f (told tm sm) ≡ (list_any (λ h. f (entry_of h)) (heard t s) || list_any (λ h. f (entry_of h)) (new_waiting t s))
  told_any f = let parts = any_parts (λ h. f (entry_of h)) (is_selected t.tree) (heard t s) in rw (taken_shown, handed_shown, noticed_shown) (simp (list_any-append, any_map) (grind arith))

  over_shown : (h : Held) → In h (t.store ++ t.out) → superseded_by (told tm sm) (entry_of h) ≡ is_over t s h
  over_shown h here = told_any (λ w. supersedes w (entry_of h)) ∙ over_is t s h here

  pub tell_shown : (p : ℕ) (v : Version) → tell (told tm sm) p v ≡ (tells (heard t s) p v || tells (new_waiting t s) p v)
  tell_shown p v = told_any (λ e. (eqb e.picture p) && (e.history v || same_version e.version v))

  pub learns_shown : learns_all tm sm ≡ learns t s
  learns_shown = sym (λ i. covers (shows_s.tree i) (shows_t.tree i))

  pub stale_shown : (h : Held) → In h t.store → is_stale tm sm (entry_of h) ≡ is_stale_held t s h
  stale_shown h here =
      let there : In h (t.store ++ t.out) = in_left h t.store t.out here in
      let known = sym (shows_s.known h.picture ((known_here t ready.target h there).above) h.version) in
      let among = any_shown (λ (e : Entry). same_version e.version h.version) (λ g. (eqb g.picture h.picture) && same_version g.version h.version) s.store sm.store shows_s.store
      (λ g in_s. let same = λ (e : same_version g.version h.version ≡ true). eq-eqb g.picture h.picture (same_picture t s ready h g there (in_left g s.store s.out in_s) (same_version_is g.version h.version e)) in grind arith) in
      λ i. learns_shown i && (known i && not (among i))

  leaves_store_shown : (h : Held) → In h t.store → leaves_store tm sm (entry_of h) ≡ is_dropped t s h
  leaves_store_shown h here = λ i. over_shown h (in_left h t.store t.out here) i || stale_shown h here i

  leaves_out_shown : (h : Held) → In h t.out → leaves_out tm sm (entry_of h) ≡ is_over t s h
  leaves_out_shown h here = over_shown h (in_right h t.store t.out here)

  -- giving up the versions of what is dropped leaves what isn't

  drops_have : (v : Version) → list_any (λ w. same_version w v) (drops t s) ≡ (list_any (λ w. same_version w v) (versions_of (dropped_stored t s)) || list_any (λ w. same_version w v) (versions_of (dropped_waiting t s)))
  drops_have v = list_any-append (λ w. same_version w v) (versions_of (dropped_stored t s)) (versions_of (dropped_waiting t s))

  pub stored_left : without (drops t s) tm.store ≡ filter (λ e. not (leaves_store tm sm e)) tm.store
  stored_left = filters_agree (λ e. not (list_any (λ v. same_version v e.version) (drops t s))) (λ e. not (leaves_store tm sm e)) t.store tm.store shows_t.store (λ h here.
      let is = among h (is_dropped t s) (is_over t s) t.store t.out here (omega (arith, ready.target.once h.version, count_of-append)) in
      ap not (drops_have h.version ∙ (λ i. is.0 i || is.1 i) ∙ or-false (is_dropped t s h) ∙ sym (leaves_store_shown h here)))

  pub waiting_left : without (drops t s) tm.out ≡ filter (λ e. not (leaves_out tm sm e)) tm.out
  waiting_left = filters_agree (λ e. not (list_any (λ v. same_version v e.version) (drops t s))) (λ e. not (leaves_out tm sm e)) t.out tm.out shows_t.out (λ h here.
      let is = among h (is_over t s) (is_dropped t s) t.out t.store here (omega (arith, ready.target.once h.version, count_of-append)) in
      ap not (drops_have h.version ∙ (λ i. is.1 i || is.0 i) ∙ sym (leaves_out_shown h here)))

  pub handed_left : without (versions_of (new_waiting t s)) sm.out ≡ filter (knows_entry tm) sm.out
  handed_left = filters_agree (λ e. not (list_any (λ v. same_version v e.version) (versions_of (new_waiting t s)))) (knows_entry tm) s.out sm.out shows_s.out (λ h here.
      let is = among h (is_new t.knowledge) (is_new t.knowledge) s.out s.store here (omega (arith, ready.source.once h.version, count_of-append)) in
      ap not (is.0 ∙ sym (new_shown h (in_right h s.store s.out here))) ∙ grind arith)

  pub dropped_stored_shown : filter (leaves_store tm sm) tm.store ≡ entries_of (dropped_stored t s)
  dropped_stored_shown = filter_shown (leaves_store tm sm) (is_dropped t s) t.store tm.store shows_t.store leaves_store_shown

  pub dropped_waiting_shown : filter (leaves_out tm sm) tm.out ≡ entries_of (dropped_waiting t s)
  dropped_waiting_shown = filter_shown (leaves_out tm sm) (is_over t s) t.out tm.out shows_t.out leaves_out_shown

  -- the target, after a change by what is told
  pub shows_pulled : (after : Kept) (gain : ℕ → Versions) → ((p : ℕ) (v : Version) → 0 < p → gain p v ≡ gains t s p v) → Shows after (changed (drops t s) (entries_of (takes t s)) gain tm) → Shows after (pulled tm sm)
  shows_pulled after gain gain_is shows =
      let new : entries_of (takes t s) ≡ taken tm sm ++ handed tm sm = map-append entry_of (taken_stored t s) (new_waiting t s) ∙ sym (λ i. taken_shown i ++ handed_shown i) in
      record {
        author = shows.author;
        tree = shows.tree;
        counter = shows.counter;
        store = shows.store ∙ (λ i. put_entries (filter (selects tm) (new i)) (stored_left i));
        out = shows.out ∙ (λ i. put_entries (filter (λ e. not (selects tm e)) (new i)) (waiting_left i));
        known = λ p above v.
            let learned = gain_is p v above ∙ (λ i. (sym (learns_shown) i && shows_s.known p above v i) || sym (tell_shown p v) i) in
            shows.known p above v ∙ grind arith;
      }

  -- the source, without what it handed over
  pub shows_handed : (after : Kept) → Shows after (without_waiting (versions_of (new_waiting t s)) sm) → Shows after (handed_over tm sm)
  shows_handed after shows = subst (λ out. Shows after (record sm { out = out })) handed_left shows

  -- where it hands over nothing it is as it was
  pub nothing_handed : new_waiting t s ≡ [] → Shows s (handed_over tm sm)
  nothing_handed none =
      let kept : without (versions_of (new_waiting t s)) sm.out ≡ sm.out = ap (λ hs. without (versions_of hs) sm.out) none ∙ filter_true sm.out in
      shows_handed s (subst (λ out. Shows s (record sm { out = out })) (sym kept) shows_s)

-- what the code found
module _ (t s : Kept) (h : PullDelta) (delta : IsDelta t s h) (tm sm : ModelDevice) (shows_t : Shows t tm) (shows_s : Shows s sm) where
  -- where nothing was found the target is as it was
  pub nothing_pulled : (known taught : Knowing) → known.known ≡ t.knowledge → taught.known ≡ s.knowledge → IsNothing h known taught → Shows t (pulled tm sm)
  nothing_pulled known taught known_is taught_is none =
      let no_drops : drops t s ≡ [] = λ i. versions_of ((sym delta.dropped_stored ∙ none.dropped_stored) i) ++ versions_of ((sym delta.dropped_waiting ∙ none.dropped_waiting) i) in
      let no_takes : takes t s ≡ [] = λ i. filter (λ (w : Held). matches t.tree w.content) ((sym delta.heard ∙ none.heard) i) ++ (sym delta.handed ∙ none.handed) i in
      shows_pulled t s delta.ready tm sm shows_t shows_s t (λ p v. learns t s && knows s.knowledge p v)
      (λ p v above. sym ((λ i. (learns t s && knows s.knowledge p v) || (tells ((sym delta.heard ∙ none.heard) i) p v || tells ((sym delta.handed ∙ none.handed) i) p v)) ∙ or-false (learns t s && knows s.knowledge p v)))
      (record {
        author = shows_t.author;
        tree = shows_t.tree;
        counter = shows_t.counter;
        store = shows_t.store ∙ sym ((λ i. put_entries (filter (selects tm) (entries_of (no_takes i))) (without (no_drops i) tm.store)) ∙ filter_true tm.store);
        out = shows_t.out ∙ sym ((λ i. put_entries (filter (λ e. not (selects tm e)) (entries_of (no_takes i))) (without (no_drops i) tm.out)) ∙ filter_true tm.out);
        known = λ p above v.
            let known_here = shows_t.known p above v in
            let taught_here : learns t s ≡ true → knows s.knowledge p v ≡ true → knows t.knowledge p v ≡ true =
            λ l h. sym (ap (λ fs. knows fs p v) known_is) ∙ none.teaches_none (delta.learned ∙ l) p v above (ap (λ fs. knows fs p v) taught_is ∙ h) in
            grind arith;
      })

  pub counts_found : (counts : PullCounts) → counts.taken ≡ length (filter (is_selected t.tree) h.heard.items) → counts.handed ≡ length h.handed.items
      → counts.notices + counts.taken ≡ length h.heard.items → counts.dropped ≡ length h.dropped.stored.items + length h.dropped.waiting.items → counts.learned ≡ h.learned → counts ≡ counts_of tm sm
  counts_found counts taken_is handed_is notices_are dropped_is learned_is =
      let sel : Held → Bool = is_selected t.tree in
      let as_taken : counts.taken ≡ length (taken_stored t s) = taken_is ∙ ap (λ hs. length (filter sel hs)) delta.heard in
      let both = length-filter_both sel (λ w. not (sel w)) (λ w. refl) (heard t s) in
      let all = ap length delta.heard in
      let as_notices : counts.notices ≡ length (notices t s) = omega arith in
      rw (
        taken_shown t s delta.ready tm sm shows_t shows_s,
        handed_shown t s delta.ready tm sm shows_t shows_s,
        noticed_shown t s delta.ready tm sm shows_t shows_s,
        dropped_stored_shown t s delta.ready tm sm shows_t shows_s,
        dropped_waiting_shown t s delta.ready tm sm shows_t shows_s,
        learns_shown t s delta.ready tm sm shows_t shows_s,
      ) (simp length-map (λ i. record {
        taken = as_taken i;
        handed = (handed_is ∙ ap length delta.handed) i;
        notices = as_notices i;
        dropped = (dropped_is ∙ (λ j. length (delta.dropped_stored j) + length (delta.dropped_waiting j))) i;
        learned = (learned_is ∙ delta.learned) i;
      }))
