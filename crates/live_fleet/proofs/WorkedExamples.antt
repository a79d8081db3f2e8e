-- The worked fleets; the definitions alone compute what can be computed.
use Rattle.std.proofs.Common.{◌≡◌, ◌<◌, ◌≤◌, lit<, eqb, List, [], ◌∷◌, refl, sym, subst, arith}
use Rattle.std.specs.List.{AllZip}
use Rattle.photo_filter_text.specs.Tree.{All}
use Rattle.photo_device.proofs.OwnLemmas.{up_to_one}
use Rattle.photo_model.specs.Entry.{Entry}
use Rattle.photo_device.specs.Held.{entry_of, entries_of}
use Rattle.photo_model.specs.Device.{ModelDevice, holds}
use Rattle.photo_device.specs.Device.{Kept, Shows}
use Rattle.fleet_model.specs.declared.command.Command.TheVariants as command
use Rattle.fleet_model.specs.Members.{In, here}
use Rattle.fleet_model.specs.Sound.{occurrences}
use Rattle.fleet_model.proofs.Members.{in_nothing, in_left}
use Rattle.live_fleet.specs.Fleets.{CameAbout, after_commands}
use Rattle.live_fleet.specs.Faults.{IsDueTo}
use Rattle.live_fleet.specs.declared.fault.FleetFault.{FleetFault}
use Rattle.live_fleet.specs.declared.fault.FleetFault.TheVariants.{NoMemory, NoDevice, NoCommand, Full}
use Rattle.live_fleet.specs.Examples.{EditedOnBoth, ChangedByHand, JoinsLater, ComesAboutAsTold, FaultsAreDueAsTold, rated, nth, first_held, first_device, second_device, with_log}
use Rattle.live_fleet.proofs.Histories.{came_sound}

pub edited_on_both : EditedOnBoth
edited_on_both = record {
  reports = refl;
  log = refl;
  made_with = refl;
  made_without = refl;
  conflict = refl;
  none = refl;
  sound = refl;
  kept = refl;
}

pub changed_by_hand : ChangedByHand
changed_by_hand = record {
  reports = refl;
  log = refl;
  tree = refl;
  store = refl;
  out = refl;
  sound = refl;
  kept = refl;
}

pub joins_later : JoinsLater
joins_later = record {
  author = refl;
  store = refl;
  same = refl;
  log = refl;
  sound = refl;
}

came : CameAbout (with_log (first_held ∷ []))
came = record {
  filters = All ∷ All ∷ [];
  commands = command.New 0 7 (rated 3) ∷ [];
  within = ((omega arith, tt), tt);
  in_range = (record { rating = omega arith; day = (omega arith, omega arith) }, tt);
  shown = record {
    devices = (
      record { author = refl; tree = refl; counter = refl; store = refl; out = refl; known = λ p above v. up_to_one (eqb 0 v.author.word) v.number },
      (record { author = refl; tree = refl; counter = refl; store = refl; out = refl; known = λ p above v. refl }, tt),
    );
    log = refl;
  };
  count = refl;
  few = omega arith;
  settled = (refl, (refl, tt));
}

-- each version that the first device of a fleet holds is in the log
first_logged : (d : Kept) (ds : List Kept) (ms : List ModelDevice) (log : List Entry) (e : Entry) → In e (entries_of d.store) → AllZip Shows (d ∷ ds) ms
    → ((m : ModelDevice) (e : Entry) → In m ms → In e (holds m) → In e log) → In e log
first_logged d ds [] log e i shown logged = absurd shown
first_logged d ds (m ∷ ms) log e i shown logged = logged m e (here refl) (in_left m.out (subst (In e) shown.0.store i))

unlogged : CameAbout (with_log []) → ⊥
unlogged came =
    let history = came_sound _ came in
    let fleet = after_commands history.came.filters history.came.commands in
    let logged : In (entry_of first_held) fleet.log = first_logged first_device (second_device ∷ []) fleet.devices fleet.log (entry_of first_held) (here refl) history.came.shown.devices history.sound.logged in
    in_nothing (subst (In (entry_of first_held)) (sym history.came.shown.log) logged)

twice : CameAbout (with_log (first_held ∷ first_held ∷ [])) → ⊥
twice came =
    let history = came_sound _ came in
    let once : occurrences (nth 0 1) (entries_of (first_held ∷ first_held ∷ [])) ≤ 1 = subst (λ (log : List Entry). occurrences (nth 0 1) log ≤ 1) (sym history.came.shown.log) (history.sound.once (nth 0 1)) in
    omega arith

pub comes_about_as_told : ComesAboutAsTold
comes_about_as_told = record { logged = came; unlogged = unlogged; twice = twice }

taken_as_told : (fault : FleetFault) → IsDueTo (command.Pull 1 0) (with_log []) fault → ⊥
taken_as_told NoMemory due = due
taken_as_told NoDevice due = due (lit< tt, (lit< tt, λ same. let h : 0 ≡ 1 = same in omega (arith, h)))
taken_as_told NoCommand due = due
taken_as_told Full due = let h : 1 ≡ 4_294_967_295 = due.1 in omega (arith, h)

pub faults_are_due_as_told : FaultsAreDueAsTold
faults_are_due_as_told = record {
  taken = taken_as_told;
  absent = λ within. let h : 2 < 2 = within.0 in omega (arith, h);
  of_itself = λ within. within.1.1 refl;
  no_room = ((lit< tt, tt), refl);
  absent_first = λ due. let h : 2 < 2 = due.0.0 in omega (arith, h);
  no_number = λ has. let h : 2 ≤ 1 = has.1 in omega (arith, h);
  no_zero = λ has. let h : 0 < 0 = has.0 in omega (arith, h);
  one_device_less = λ has. let h : 2 ≡ 1 = has.2 in omega (arith, h);
}
