-- What is true of a device on which a change is staged, and after its commit.
use Rattle.std.proofs.Common.{◌≡◌, ℕ, ◌+◌, ◌<◌, ◌≤◌, Bool, true, false, not, ◌||◌, List, ◌++◌, length, refl, sym, ap, ◌∙◌, arith, subst}
use Rattle.std.specs.Prelude.{filter, max, Option, Some, None, is_some, IfSome}
use Rattle.std.proofs.Math.Bool.{or-true}
use Rattle.std.proofs.lemmas.Bool.{false≢true}
use Rattle.photo_filter_rules.specs.Matching.{matches}
use Rattle.photo_version.specs.Author.{Author}
use Rattle.photo_version.specs.Version.{Version}
use Rattle.item_knowledge.specs.Kept.{star_bound}
use Rattle.item_knowledge.specs.Fragments.{Fragment, knows}
use Rattle.item_knowledge.specs.Staged.{Knowing, settled, IsStagedUnion}
use Rattle.photo_device.specs.declared.held.Held.{Held}
use Rattle.photo_device.specs.declared.prepared.Prepared.{Prepared}
use Rattle.photo_model.specs.Entry.{Entry, put_entries, without}
use Rattle.photo_device.specs.Held.{entries_of, count_of, is_listed, helds_without, versions_of}
use Rattle.photo_model.specs.Device.{ModelDevice, changed}
use Rattle.photo_device.specs.Device.{Kept, Staging, Shows, unstaged, IsAsItWas}
use Rattle.photo_device.specs.Own.{HasEarlier, IsKnownBy, IsDevice}
use Rattle.block_list.specs.Reservation.{Reserved}
use Rattle.photo_device.specs.Taking.{AreNewTo, MayTake, with_side}
use Rattle.photo_device.specs.Staging.{MayHand, MayStage, IsRoomFor, versions_in, known_then, staging, staging_of, IsPrepared, AreParts}
use Rattle.photo_model.proofs.AllLemmas.{all_append}
use Rattle.photo_device.proofs.Counts.{count_of-append, count_of-filter}
use Rattle.photo_device.proofs.OwnLemmas.{known_later, own_still}
use Rattle.photo_device.proofs.Changed.{shorter, all_new, filters_device, joins_device}
use Rattle.photo_device.proofs.Shown.{entries-put_those, entries-without}
use Rattle.photo_device.proofs.Taken.{none_of_others, without_first, without_second}

-- what is staged is no part of what a device shows

pub shows_staged : (d : Kept) (staged : Option Staging) (m : ModelDevice) → Shows d m → Shows (record d { staged = staged }) m
shows_staged d staged m shows = assumption

-- with nothing staged it shows the same
pub shows_unstaged : (d e : Kept) (m : ModelDevice) → e ≡ unstaged d → Shows d m → Shows e m
shows_unstaged d e m is shows = subst (λ k. Shows k m) (sym is) (shows_staged d None m shows)

-- two devices that are alike but for what is staged show the same
pub shows_alike : (d e : Kept) (m : ModelDevice) → IsAsItWas d e → Shows d m → Shows e m
shows_alike d e m same shows = shows_staged (unstaged e) e.staged m (subst (λ k. Shows k m) (sym same) (shows_staged d None m shows))

-- what is said of what is staged, where something is, is said of what will be known
then_is : (o : Option (List Fragment)) (P : List Fragment → Type 0) → is_some o ≡ true → IfSome o P → P (known_then o)
then_is None P there all = absurd (false≢true there)
then_is (Some fs) P there all = all

-- staging a change

pub stages : (new : Knowing) (p : Prepared) (gain : List Fragment) (d : Kept) → new.known ≡ d.knowledge → IsStagedUnion new.staged d.knowledge gain → star_bound gain d.author ≤ d.counter
    → MayStage p.drops.stored.items p.drops.waiting.items p.takes gain d → IsRoomFor d.store (length p.takes) p.room p.in_store → IsRoomFor d.out (length p.takes) p.room p.in_out → IsDevice (unstaged d) → AreParts (Some p) new.staged (record (unstaged d) { knowledge = new.known })
stages new p gain d known union star may in_store in_out is =
    subst (λ k. AreParts (Some p) new.staged (record (unstaged d) { knowledge = k })) (sym known) (record {
      device = is;
      fits = record {
        there = union.there;
        ahead = record {
          own = own_still d.author d.counter gain d.knowledge (known_then new.staged) star may.own (then_is new.staged (λ s. (a : Author) → star_bound s a ≡ max (star_bound d.knowledge a) (star_bound gain a)) union.there union.star) pairs is.knows;
          more = λ p v above here. pairs p v above ∙ ap (λ b. b || knows gain p v) here;
          known = known_later gain (known_then new.staged) (λ p v above here. pairs p v above ∙ ap (λ b. knows d.knowledge p v || b) here ∙ or-true (knows d.knowledge p v)) p.takes may.known;
        };
        once = (all_new p.takes (unstaged d) may.new may.distinct is).once;
        earlier = may.earlier;
        not_stored = none_of_others p.drops.waiting.items d.out d.store may.waiting (λ v. omega (arith, is.once v, count_of-append));
        not_waiting = none_of_others p.drops.stored.items d.store d.out may.stored (λ v. omega (arith, is.once v, count_of-append));
        store = let most = in_store.most in omega arith;
        store_room = let more = in_store.more in omega arith;
        out = let most = in_out.most in omega arith;
        out_room = let more = in_out.more in omega arith;
      };
    })
  where
    pairs : (p : ℕ) (v : Version) → 0 < p → knows (known_then new.staged) p v ≡ (knows d.knowledge p v || knows gain p v)
    pairs = then_is new.staged (λ s. (p : ℕ) (v : Version) → 0 < p → knows s p v ≡ (knows d.knowledge p v || knows gain p v)) union.there union.pairs

-- where nothing is staged nothing is prepared
pub none_prepared : (prepared : Option Prepared) (o : Option (List Fragment)) → staging_of prepared o ≡ None → prepared ≡ None
none_prepared None o none = refl
none_prepared (Some p) o none = absurd (cc)

-- and that stays, whatever else of the device is new
pub none_fits : (prepared : Option Prepared) (o : Option (List Fragment)) (d e : Kept) → AreParts prepared o d → staging_of prepared o ≡ None → IsDevice e → AreParts prepared o e
none_fits None o d e parts none is = record { device = is; fits = parts.fits }
none_fits (Some p) o d e parts none is = absurd (cc)

-- what is taken isn't held
pub staged_once : (prepared : Option Prepared) (o : Option (List Fragment)) (d : Kept) → AreParts prepared o d → IfSome (staging_of prepared o) (λ s. (v : Version) → count_of v (s.takes ++ (d.store ++ d.out)) ≤ 1)
staged_once None o d parts = tt
staged_once (Some p) o d parts = parts.fits.once

-- What a device and what is handed to it have to be for a commit, and what it is then

pub record IsCommitting (p : Prepared) (o : Option (List Fragment)) (handed : List Held) (d : Kept) : Type 0 where
  pub device : IsDevice d
  pub prepared : IsPrepared p o d
  pub may : MayHand handed (staging p o) (record d { staged = Some (staging p o) })

pub committing : (prepared : Option Prepared) (o : Option (List Fragment)) (p : Prepared) (handed : List Held) (d now : Kept) → prepared ≡ Some p → record d { staged = staging_of prepared o } ≡ now
    → AreParts prepared o d → IfSome now.staged (λ s. MayHand handed s now) → IsCommitting p o handed d
committing prepared o p handed d now is same parts may = record {
  device = parts.device;
  prepared = rw is at parts.fits;
  may = rw is at (rw (← same) at may);
}

module _ (p : Prepared) (o : Option (List Fragment)) (handed : List Held) (d : Kept) (are : IsCommitting p o handed d) where
  all_coming : (v : Version) → count_of v handed + count_of v p.takes + (count_of v d.store + count_of v d.out) ≤ 1
  all_coming v = omega (arith, are.may.once v, count_of-append)

  -- either set may take what comes, once it has given up what goes
  fits_in : (helds : List Held) (room : Reserved) → ((v : Version) → count_of v helds ≤ count_of v d.store + count_of v d.out) → length helds ≤ room.most → length p.takes + p.room ≤ room.more → MayTake (helds_without (versions_in p.drops) helds) handed p.takes room
  fits_in helds room part most more =
      let left = λ (h : Held). not (is_listed (versions_in p.drops) h.version) in
      let few = are.may.few in
      record {
        new = record { once = λ v. omega (arith, all_coming v, part v, count_of-append, count_of-filter) };
        most = omega (arith, shorter left helds);
        more = omega arith;
      }

  pub both_fit : MayTake (helds_without (versions_in p.drops) d.store) handed p.takes p.in_store × MayTake (helds_without (versions_in p.drops) d.out) handed p.takes p.in_out
  both_fit = (
    fits_in d.store p.in_store (λ v. omega arith) are.prepared.store are.prepared.store_room,
    fits_in d.out p.in_out (λ v. omega arith) are.prepared.out are.prepared.out_room,
  )

  -- either set gives up those that it holds
  pub gone_of_store : helds_without (versions_of p.drops.stored.items) d.store ≡ helds_without (versions_in p.drops) d.store
  gone_of_store = sym (without_second p.drops.stored.items p.drops.waiting.items d.store are.prepared.not_stored)

  pub gone_of_out : helds_without (versions_of p.drops.waiting.items) d.out ≡ helds_without (versions_in p.drops) d.out
  gone_of_out = sym (without_first p.drops.stored.items p.drops.waiting.items d.out are.prepared.not_waiting)

  -- what it keeps after the commit
  abbrev pub committed : Kept
  committed = record d {
    store = with_side true d.tree (p.takes ++ handed) (helds_without (versions_in p.drops) d.store);
    out = with_side false d.tree (p.takes ++ handed) (helds_without (versions_in p.drops) d.out);
    knowledge = known_then o;
  }

  commits_device : IsDevice committed
  commits_device =
      joins_device (p.takes ++ handed) (known_then o) less once (all_append HasEarlier p.takes handed are.prepared.earlier are.may.earlier) are.prepared.ahead.own are.prepared.ahead.more
      (all_append (IsKnownBy (known_then o)) p.takes handed are.prepared.ahead.known are.may.known) (filters_device d left left are.device)
    where
      left : Held → Bool
      left h = not (is_listed (versions_in p.drops) h.version)

      less : Kept
      less = record d { store = helds_without (versions_in p.drops) d.store; out = helds_without (versions_in p.drops) d.out }

      once : AreNewTo (less.store ++ less.out) (p.takes ++ handed)
      once = record { once = λ v. omega (arith, all_coming v, count_of-append, count_of-filter) }

  shows_committed : (m : ModelDevice) → Shows d m → Shows committed (changed (versions_in p.drops) (entries_of (p.takes ++ handed)) (knows (known_then o)) m)
  shows_committed m shows =
      let drops = versions_in p.drops in
      let takes = p.takes ++ handed in
      let side = λ (q : Entry → Bool) (helds : List Held). entries-put_those q takes (helds_without drops helds) ∙ ap (put_entries (filter q (entries_of takes))) (entries-without drops helds) in
      record {
        author = shows.author;
        tree = shows.tree;
        counter = shows.counter;
        store = side (λ e. matches d.tree e.content) d.store ∙ (λ i. put_entries (filter (λ (e : Entry). matches (shows.tree i) e.content) (entries_of takes)) (without drops (shows.store i)));
        out = side (λ e. not (matches d.tree e.content)) d.out ∙ (λ i. put_entries (filter (λ (e : Entry). not (matches (shows.tree i) e.content)) (entries_of takes)) (without drops (shows.out i)));
        known = λ q above v. grind (arith, are.prepared.ahead.more q v above, shows.known q above v);
      }

  pub known_after : (new : Knowing) → IfSome o (λ s. new ≡ settled s) → new ≡ settled (known_then o)
  known_after new is = then_is o (λ s. new ≡ settled s) are.prepared.there is

  pub commits : (new : Knowing) → IfSome o (λ s. new ≡ settled s) → AreParts None new.staged (record committed { knowledge = new.known })
  commits new is = subst (λ (k : Knowing). AreParts None k.staged (record committed { knowledge = k.known })) (sym (known_after new is)) (record { device = commits_device; fits = refl })

  pub shows_after : (prepared : Option Prepared) (now after : Kept) → prepared ≡ Some p → record d { staged = staging_of prepared o } ≡ now → d.staged ≡ None → after ≡ committed
      → IfSome now.staged (λ s. (m : ModelDevice) → Shows now m → Shows after (changed s.drops (entries_of (s.takes ++ handed)) (knows s.knowledge) m))
  shows_after prepared now after is same settled_d after_is = grind (arith, shows_committed, shows_staged)
