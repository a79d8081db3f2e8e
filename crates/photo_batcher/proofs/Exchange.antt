-- Two commands that work on no common device commute.
use Rattle.std.proofs.Common.{◌≡◌, ◌≢◌, ℕ, ◌-◌, ◌<◌, true, List, [], ◌∷◌, ◌++◌, get_or, set, refl, sym, ap, ◌∙◌, subst, subst₂, append_assoc, arith}
use Rattle.std.specs.Prelude.{Option, Some, None, fold, IsPermutation}
use Rattle.std.specs.Option.{option_map}
use Rattle.std.proofs.lemmas.List.{get_or-set_other, set_comm}
use Rattle.std.proofs.lemmas.List.Sorted.{IsPermutation-refl, IsPermutation-trans, IsPermutation-append_left, IsPermutation-append_right, IsPermutation-append_comm}
use Rattle.std.proofs.lemmas.Bool.{or_left, or_right, eq-eqb}
use Rattle.fleet_model.specs.declared.command.Command.{Command}
use Rattle.fleet_model.specs.Contents.{Contents, command_of, devices_of}
use Rattle.photo_model.specs.Entry.{Entry}
use Rattle.photo_model.specs.Device.{ModelDevice}
use Rattle.fleet_model.specs.Runs.{Effect, Fleet, effect, device_at, with_second, after_command, step}
use Rattle.photo_batcher.specs.Related.{is_device, works_on, uses, AreRelated}
use Rattle.photo_batcher.specs.Orders.{AreSameRuns}

-- what a step does where the script has a command of that number, and where it has none

pub stepped : (script : Contents) (fleet : Fleet) (n : ℕ) (c : Command) → command_of script n ≡ Some c → step script fleet n ≡ after_command fleet n c
stepped script fleet n c here = rw here refl

pub not_stepped : (script : Contents) (fleet : Fleet) (n : ℕ) → command_of script n ≡ None → step script fleet n ≡ fleet
not_stepped script fleet n past = rw past refl

pub used : (script : Contents) (n device : ℕ) (c : Command) → command_of script n ≡ Some c → works_on c device ≡ true → uses script n device ≡ true
used script n device c here h = rw here h

-- the two commands have no device in common
record IsApart (first : ℕ) (second : Option ℕ) (other : ℕ) (other_second : Option ℕ) : Type 0 where
  firsts : first ≢ other
  first_not : is_device other_second first ≡ true → ⊥
  other_not : is_device second other ≡ true → ⊥
  seconds : (k : ℕ) → is_device second k ≡ true → is_device other_second k ≡ true → ⊥

turned : (p : ℕ) (o : Option ℕ) (q : ℕ) (r : Option ℕ) → IsApart p o q r → IsApart q r p o
turned p o q r a = record { firsts = λ e. a.firsts (sym e); first_not = a.other_not; other_not = a.first_not; seconds = λ k x y. a.seconds k y x }

-- a device on which a command doesn't work is unchanged
read_other : (p : ℕ) (o : Option ℕ) (x : ModelDevice) (y : Option ModelDevice) (ds : List ModelDevice) (k : ℕ) (d : ModelDevice) → k ≢ p → (is_device o k ≡ true → ⊥) → get_or (with_second o y (set ds p x)) k d ≡ get_or ds k d
read_other p None x y ds k d a b = get_or-set_other ds p k x d a
read_other p (Some s) x None ds k d a b = get_or-set_other ds p k x d a
read_other p (Some s) x (Some y) ds k d a b = get_or-set_other (set ds p x) s k y d (λ e. b (eq-eqb s k (sym e))) ∙ get_or-set_other ds p k x d a

set_over : (q : ℕ) (x : ModelDevice) (o : Option ℕ) (y : Option ModelDevice) (ds : List ModelDevice) → (is_device o q ≡ true → ⊥) → set (with_second o y ds) q x ≡ with_second o y (set ds q x)
set_over q x None y ds a = refl
set_over q x (Some s) None ds a = refl
set_over q x (Some s) (Some y) ds a = set_comm ds s q y x (λ e. a (eq-eqb s q e))

with_over : (o : Option ℕ) (y : Option ModelDevice) (r : Option ℕ) (z : Option ModelDevice) (ds : List ModelDevice) → ((k : ℕ) → is_device o k ≡ true → is_device r k ≡ true → ⊥) → with_second o y (with_second r z ds) ≡ with_second r z (with_second o y ds)
with_over None y r z ds a = refl
with_over (Some s) None r z ds a = refl
with_over (Some s) (Some y) None z ds a = refl
with_over (Some s) (Some y) (Some t) None ds a = refl
with_over (Some s) (Some y) (Some t) (Some z) ds a = set_comm ds t s z y (λ e. a s (eq-eqb s s refl) (eq-eqb t s e))

-- the effect of a command, and the devices after it
done_on : List ModelDevice → Command → Effect
done_on ds c = effect c (device_at ds (devices_of c).0) (option_map (device_at ds) (devices_of c).1)

put : ℕ → Option ℕ → Effect → List ModelDevice → List ModelDevice
put p o done ds = with_second o done.second (set ds p done.first)

put_over : (p : ℕ) (o : Option ℕ) (x : Effect) (q : ℕ) (r : Option ℕ) (y : Effect) (ds : List ModelDevice) → IsApart p o q r → put p o x (put q r y ds) ≡ put q r y (put p o x ds)
unfolding put
put_over p o x q r y ds a =
    ap (with_second o x.second) (set_over p x.first r y.second (set ds q y.first) a.first_not)
    ∙ with_over o x.second r y.second (set (set ds q y.first) p x.first) a.seconds
    ∙ ap (λ l. with_second r y.second (with_second o x.second l)) (set_comm ds q p y.first x.first (λ e. a.firsts (sym e)))
    ∙ ap (with_second r y.second) (sym (set_over q y.first o x.second (set ds p x.first) a.other_not))

-- a command that works on none of another's devices leaves them unchanged
second_same : (r : Option ℕ) (p : ℕ) (o : Option ℕ) (x : Effect) (ds : List ModelDevice) → (is_device r p ≡ true → ⊥) → ((k : ℕ) → is_device o k ≡ true → is_device r k ≡ true → ⊥) → option_map (device_at (put p o x ds)) r ≡ option_map (device_at ds) r
unfolding put
second_same None p o x ds a b = refl
second_same (Some t) p o x ds a b = ap Some (read_other p o x.first x.second ds t _ (λ e. a (eq-eqb t p e)) (λ h. b t h (eq-eqb t t refl)))

done_same : (c e : Command) (x : Effect) (ds : List ModelDevice) → IsApart (devices_of c).0 (devices_of c).1 (devices_of e).0 (devices_of e).1 → done_on (put (devices_of c).0 (devices_of c).1 x ds) e ≡ done_on ds e
unfolding done_on put
done_same c e x ds a =
    let first = read_other (devices_of c).0 (devices_of c).1 x.first x.second ds (devices_of e).0 _ (λ h. a.firsts (sym h)) a.other_not in
    let second = second_same (devices_of e).1 (devices_of c).0 (devices_of c).1 x ds a.first_not a.seconds in
    λ i. effect e (first i) (second i)

log_turned : (log xs ys : List Entry) → IsPermutation ((log ++ ys) ++ xs) ((log ++ xs) ++ ys)
log_turned log xs ys =
    subst (λ (l : List Entry). IsPermutation l ((log ++ xs) ++ ys)) (sym (append_assoc log ys xs))
    (subst (λ (l : List Entry). IsPermutation (log ++ (ys ++ xs)) l) (sym (append_assoc log xs ys))
    (IsPermutation-append_right log (ys ++ xs) (xs ++ ys) (IsPermutation-append_comm ys xs)))

-- one command and then the other
exchanged : (f : Fleet) (m n : ℕ) (c e : Command) → m - 1 ≢ n - 1 → IsApart (devices_of c).0 (devices_of c).1 (devices_of e).0 (devices_of e).1 → AreSameRuns (after_command (after_command f m c) n e) (after_command (after_command f n e) m c)
unfolding done_on put
exchanged f m n c e other a =
    let ds = f.devices in
    let x = done_on ds c in
    let y = done_on ds e in
    let p = devices_of c in
    let q = devices_of e in
    let later_e : done_on (put p.0 p.1 x ds) e ≡ y = done_same c e x ds a in
    let later_c : done_on (put q.0 q.1 y ds) c ≡ x = done_same e c y ds (turned p.0 p.1 q.0 q.1 a) in
    record {
      devices = (λ i. put q.0 q.1 (later_e i) (put p.0 p.1 x ds)) ∙ put_over q.0 q.1 y p.0 p.1 x ds (turned p.0 p.1 q.0 q.1 a) ∙ (λ i. put p.0 p.1 (sym later_c i) (put q.0 q.1 y ds));
      reports = (λ i. set (set f.reports (m - 1) (Some x.report)) (n - 1) (Some (later_e i).report)) ∙ set_comm f.reports (m - 1) (n - 1) (Some x.report) (Some y.report) other ∙ (λ i. set (set f.reports (n - 1) (Some y.report)) (m - 1) (Some (sym later_c i).report));
      log =
          subst (λ (z : Effect). IsPermutation ((f.log ++ y.entries) ++ z.entries) ((f.log ++ x.entries) ++ (done_on (put p.0 p.1 x ds) e).entries)) (sym later_c)
          (subst (λ (z : Effect). IsPermutation ((f.log ++ y.entries) ++ x.entries) ((f.log ++ x.entries) ++ z.entries)) (sym later_e) (log_turned f.log x.entries y.entries));
    }

-- same runs

pub same_itself : (f g : Fleet) → f ≡ g → AreSameRuns f g
same_itself f g e = record { devices = ap (λ (x : Fleet). x.devices) e; reports = ap (λ (x : Fleet). x.reports) e; log = subst (λ (l : List Entry). IsPermutation l f.log) (ap (λ (x : Fleet). x.log) e) (IsPermutation-refl f.log) }

pub same_through : (f g h : Fleet) → AreSameRuns f g → AreSameRuns g h → AreSameRuns f h
same_through f g h a b = record { devices = a.devices ∙ b.devices; reports = a.reports ∙ b.reports; log = IsPermutation-trans h.log g.log f.log b.log a.log }

same_after : (f g : Fleet) (n : ℕ) (c : Command) → AreSameRuns f g → AreSameRuns (after_command f n c) (after_command g n c)
unfolding done_on put
same_after f g n c s =
    let p = devices_of c in
    let done : done_on f.devices c ≡ done_on g.devices c = ap (λ ds. done_on ds c) s.devices in
    record {
      devices = λ i. put p.0 p.1 (done i) (s.devices i);
      reports = λ i. set (s.reports i) (n - 1) (Some (done i).report);
      log = subst (λ (z : Effect). IsPermutation (g.log ++ z.entries) (f.log ++ (done_on f.devices c).entries)) done (IsPermutation-append_left (done_on f.devices c).entries g.log f.log s.log);
    }

module _ (script : Contents) where
  pub same_step : (f g : Fleet) (n : ℕ) → AreSameRuns f g → AreSameRuns (step script f n) (step script g n)
  same_step f g n s = go (command_of script n) refl
    where
      go : (o : Option Command) → command_of script n ≡ o → AreSameRuns (step script f n) (step script g n)
      go None past = subst₂ AreSameRuns (sym (not_stepped script f n past)) (sym (not_stepped script g n past)) s
      go (Some c) here = subst₂ AreSameRuns (sym (stepped script f n c here)) (sym (stepped script g n c here)) (same_after f g n c s)

  pub same_fold : (f g : Fleet) (numbers : List ℕ) → AreSameRuns f g → AreSameRuns (fold (step script) f numbers) (fold (step script) g numbers)
  same_fold f g [] s = s
  same_fold f g (n ∷ more) s = same_fold (step script f n) (step script g n) more (same_step f g n s)

  apart : (m n : ℕ) (c e : Command) → command_of script m ≡ Some c → command_of script n ≡ Some e → (AreRelated script m n → ⊥) → IsApart (devices_of c).0 (devices_of c).1 (devices_of e).0 (devices_of e).1
  apart m n c e at_m at_n not =
      let p = devices_of c in
      let q = devices_of e in
      let no = λ (k : ℕ) (x : works_on c k ≡ true) (y : works_on e k ≡ true). not (record { device = k; first = used script m k c at_m x; second = used script n k e at_n y }) in
      record {
        firsts = λ h. no p.0 (or_left _ _ (eq-eqb p.0 p.0 refl)) (or_left _ _ (eq-eqb q.0 p.0 (sym h)));
        first_not = λ h. no p.0 (or_left _ _ (eq-eqb p.0 p.0 refl)) (or_right _ _ h);
        other_not = λ h. no q.0 (or_right _ _ h) (or_left _ _ (eq-eqb q.0 q.0 refl));
        seconds = λ k x y. no k (or_right _ _ x) (or_right _ _ y);
      }

  -- commands that aren't related commute
  pub exchange : (f : Fleet) (m n : ℕ) → 0 < m → 0 < n → m ≢ n → (AreRelated script m n → ⊥) → AreSameRuns (step script (step script f m) n) (step script (step script f n) m)
  exchange f m n some_m some_n other not = go (command_of script m) refl (command_of script n) refl
    where
      go : (o : Option Command) → command_of script m ≡ o → (r : Option Command) → command_of script n ≡ r → AreSameRuns (step script (step script f m) n) (step script (step script f n) m)
      go None past r is = same_itself _ _ (ap (λ g. step script g n) (not_stepped script f m past) ∙ sym (not_stepped script (step script f n) m past))
      go (Some c) here None past = same_itself _ _ (not_stepped script (step script f m) n past ∙ ap (λ g. step script g m) (sym (not_stepped script f n past)))
      go (Some c) here (Some e) is =
          subst₂ AreSameRuns
          (sym (ap (λ g. step script g n) (stepped script f m c here) ∙ stepped script (after_command f m c) n e is))
          (sym (ap (λ g. step script g m) (stepped script f n e is) ∙ stepped script (after_command f n e) m c here))
          (exchanged f m n c e (omega arith) (apart m n c e here is not))
