-- Two devices between which a pull may be: what they hold is found and known, what a target is told of, and what that supersedes.
use Rattle.std.proofs.Common.{◌≡◌, true, ◌++◌, Some, sym, subst, Bool, not, ◌||◌, List, ap, ◌∙◌}
use Rattle.std.specs.Prelude.{filter}
use Rattle.std.proofs.lemmas.Bool.{or_left, or_right}
use Rattle.std.proofs.lemmas.List.Folds.{list_any-append}
use Rattle.photo_version.specs.Version.{same_version}
use Rattle.photo_device.specs.declared.held.Held.{Held}
use Rattle.photo_device.specs.Held.{find_version}
use Rattle.photo_device.specs.Device.{Kept, unstaged}
use Rattle.photo_device.specs.Own.{IsDevice, IsKnownBy}
use Rattle.photo_model.proofs.AllLemmas.{all_append}
use Rattle.photo_device.proofs.Counts.{same_version_self}
use Rattle.photo_pull.specs.Findings.{AreReady}
use Rattle.photo_pull.specs.OnHeld.{is_new, is_above, has_above, has_below, new_stored, new_waiting, is_over, is_dropped, is_selected, is_heard, heard}
use Rattle.photo_pull.proofs.Members.{In, all_at, only_one, find_one, in_filter, in_filtered, in_any, any_kept}

module _ (d : Kept) (is : IsDevice (unstaged d)) (h : Held) (here : In h (d.store ++ d.out)) where
  pub known_here : IsKnownBy d.knowledge h
  known_here = all_at (IsKnownBy d.knowledge) h (d.store ++ d.out) (all_append (IsKnownBy d.knowledge) d.store d.out is.store_known is.out_known) here

  pub found_here : find_version h.version (d.store ++ d.out) ≡ Some h
  found_here = find_one (λ (g : Held). same_version g.version h.version) h _ (only_one (λ (g : Held). same_version g.version h.version) h _ here (same_version_self h.version) (is.once h.version))

-- a version that both hold is of one picture
pub same_picture : (t s : Kept) → AreReady t s → (h g : Held) → In h (t.store ++ t.out) → In g (s.store ++ s.out) → g.version ≡ h.version → g.picture ≡ h.picture
same_picture t s ready h g here there same =
    sym (ready.may.one h.version h g (found_here t ready.target h here) (subst (λ v. find_version v (s.store ++ s.out) ≡ Some g) same (found_here s ready.source g there)))

-- it supersedes something that the target holds
abbrev pub is_notice : Kept → Held → Bool
is_notice t w = has_below (t.store ++ t.out) w

-- what the target hears of and isn't to keep
abbrev pub notices : Kept → Kept → List Held
notices t s = filter (λ w. not (is_selected t.tree w)) (heard t s)

module _ (t s : Kept) where
  -- what a new version supersedes is given up
  over_new : (w h : Held) → In w s.store → is_new t.knowledge w ≡ true → is_above w h ≡ true → is_over t s h ≡ true
  over_new w h here new above =
      or_left (has_above (new_stored t s) h) _ (in_any (λ x. is_above x h) w (new_stored t s) (in_filter (is_new t.knowledge) w s.store here new) above)

  -- so it is heard of where it supersedes anything that is held
  pub heard_as : (w : Held) → In w s.store → is_new t.knowledge w ≡ true → is_heard t s w ≡ (is_selected t.tree w || is_notice t w)
  heard_as w here new =
      ap (λ b. is_selected t.tree w || b) (
      (λ i. any_kept (λ h. is_above w h) (is_dropped t s) t.store (λ h _ above. or_left (is_over t s h) _ (over_new w h here new above)) i
      || any_kept (λ h. is_above w h) (is_over t s) t.out (λ h _ above. over_new w h here new above) i)
      ∙ sym (list_any-append (λ h. is_above w h) t.store t.out)
      )

  -- what is heard of supersedes what anything new supersedes
  pub over_is : (h : Held) → In h (t.store ++ t.out) → (has_above (heard t s) h || has_above (new_waiting t s) h) ≡ is_over t s h
  over_is h here = ap (λ b. b || has_above (new_waiting t s) h) (any_kept (λ w. is_above w h) (is_heard t s) (new_stored t s) (λ w there above.
      let from = in_filtered (is_new t.knowledge) w s.store there in
      heard_as w from.0 from.1 ∙ or_right (is_selected t.tree w) _ (in_any (λ g. is_above w g) h (t.store ++ t.out) here above)))
