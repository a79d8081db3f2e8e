-- The worked examples: what a number or a version stands for computes, and what holds of all is shown.
use Rattle.std.proofs.Common.{◌≡◌, ℕ, ◌≤◌, true, false, eqb, List, [], ◌∷◌, length, refl, sym, ap, ◌∙◌, arith}
use Rattle.std.specs.Prelude.{Option, Some, None, is_some}
use Rattle.std.proofs.lemmas.Bool.{false≢true}
use Rattle.std.proofs.lemmas.Bool.Decides.{nat_tests}
use Rattle.photo_version.specs.Author.{author_at}
use Rattle.photo_version.specs.Version.{Version, version}
use Rattle.item_knowledge.specs.Fragments.{Fragment, knows}
use Rattle.photo_device.specs.Held.{count_of}
use Rattle.photo_device.specs.Device.{Kept, Staging}
use Rattle.photo_device.specs.Own.{HasEarlier, IsKnownBy}
use Rattle.photo_device.specs.Examples.{nth, first, edited, other, gain, learned, MayStageAsTold, HasStagedAsTold, MayHandAsTold, TheCacheRows, TheTables, TheNexts}

no : false ≡ true → ⊥
no e = false≢true e

edited_earlier : HasEarlier edited
edited_earlier = record { own = λ n. grind (arith, nat_tests) }

other_earlier : HasEarlier other
other_earlier = record { own = λ n. grind (arith, nat_tests) }

edited_known : IsKnownBy gain edited
edited_known = record { above = omega arith; itself = refl; history = λ v e. grind arith }

other_known : IsKnownBy learned other
other_known = record { above = omega arith; itself = refl; history = λ v e. absurd (no e) }

-- each of three versions that are different is there once
three : (v : Version) → count_of v (other ∷ edited ∷ first ∷ []) ≤ 1
three v = grind (arith, nat_tests)

two : (v : Version) → count_of v (edited ∷ first ∷ []) ≤ 1
two v = grind (arith, nat_tests)

pub may_stage_as_told : MayStageAsTold
may_stage_as_told = record {
  edit = record {
    stored = (refl, tt);
    waiting = tt;
    new = (refl, tt);
    distinct = λ v. grind (arith, nat_tests);
    earlier = (edited_earlier, tt);
    known = (edited_known, tt);
    own = record {
      own = λ p n above e. grind (arith, nat_tests);
      later = λ p v above later. grind (arith, nat_tests);
    };
  };
  none = record { stored = tt; waiting = tt; new = tt; distinct = λ v. omega arith; earlier = tt; known = tt; own = record { own = λ p n above e. absurd (no e); later = λ p v above later. refl } };
  not_held = λ m. no m.stored.0;
  elsewhere = λ m. no m.waiting.0;
  found = refl;
  held = λ m. no (sym (ap is_some m.new.0));
  count = refl;
  twice = λ m. let bad : 2 ≤ 1 = m.distinct (nth 1 1) in omega arith;
  gap = λ m. no (m.earlier.0.own 1);
  not_learned = λ m. no m.known.0.itself;
  no_history = λ m. no (m.known.0.history (nth 0 1) refl);
  of_another = λ m. no m.known.0.itself;
  not_made = λ m. let bad : 2 ≤ 1 = m.own.own 9 2 (omega arith) refl in omega arith;
  too_late = λ m. no (sym (m.own.later 9 (version (author_at 0 1) 1) (omega arith) refl));
}

-- what is staged, by its parts
abbrev room_of : Option Staging → ℕ
room_of None = 0
room_of (Some s) = s.room

abbrev knowledge_of : Option Staging → List Fragment
knowledge_of None = []
knowledge_of (Some s) = s.knowledge

pub has_staged_as_told : HasStagedAsTold
has_staged_as_told = record {
  edit = record {
    rest = refl;
    knowledge = learned;
    staged = refl;
    learned = λ p v above. grind arith;
  };
  not_yet = refl;
  will = refl;
  of_nine = refl;
  still = refl;
  nothing = λ h. no (ap is_some h.staged);
  other_room = λ h. let bad : 1 ≡ 2 = ap room_of h.staged in omega arith;
  at_once = λ h. let bad : 0 ≡ 1 = ap (λ (d : Kept). length d.store) h.rest in omega arith;
  forgotten = λ h. no (ap (λ s. knows (knowledge_of s) 7 (nth 1 1)) h.staged ∙ h.learned 7 (nth 1 1) (omega arith));
  of_every = λ h. no (sym (ap (λ s. knows (knowledge_of s) 8 (nth 1 1)) h.staged ∙ h.learned 8 (nth 1 1) (omega arith)));
}

pub may_hand_as_told : MayHandAsTold
may_hand_as_told = record {
  new_one = record { few = omega arith; once = three; earlier = (other_earlier, tt); known = (other_known, tt) };
  none = record { few = omega arith; once = two; earlier = tt; known = tt };
  no_room = λ m. let bad : 1 ≤ 0 = m.few in omega arith;
  twice = λ m. let bad : 2 ≤ 1 = m.once (nth 2 1) in omega arith;
  taken = λ m. let bad : 2 ≤ 1 = m.once (nth 1 1) in omega arith;
  held = λ m. let bad : 2 ≤ 1 = m.once (nth 0 1) in omega arith;
  not_known = λ m. no m.known.0.itself;
}

pub the_cache_rows : TheCacheRows
the_cache_rows = record { first = refl; last = refl; next_epoch = refl; later = refl }

pub the_tables : TheTables
the_tables = record {
  joined = record { order = refl; last = refl; told = λ p v. grind (arith, nat_tests) };
  behind = record { order = refl; last = refl; told = λ p v. grind (arith, nat_tests) };
  of_another = λ t. no (sym (t.told 7 (nth 1 1)));
  lost = λ t. no (t.told 7 (nth 0 1));
}

pub the_nexts : TheNexts
the_nexts = record {
  lesser_first = refl;
  greater_later = refl;
  same_picture = refl;
  last_ones = refl;
  next = record { earlier = record { own = λ n. grind (arith, nat_tests) }; least = refl; rest = λ f. grind arith; fewer = omega arith };
  too_early = λ n. no n.least;
  one_lost = λ n. no (sym (n.rest (λ h. eqb h.picture 8)));
}
