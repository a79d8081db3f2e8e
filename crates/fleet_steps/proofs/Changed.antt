-- The effect of a change of a picture.
use Rattle.std.proofs.Common.{◌≡◌, ℕ, true, false, refl, ◌∙◌, subst}
use Rattle.std.specs.Prelude.{Some, None, Result, Ok, Err, IfOk, OnOk, OnErr}
use Rattle.photo_record.specs.declared.record.Record.{Record}
use Rattle.photo_version.specs.Version.{Version}
use Rattle.photo_model.specs.declared.place.Place.{Place}
use Rattle.photo_device.specs.declared.fault.ChangeFault.{ChangeFault}
use Rattle.photo_device.specs.declared.fault.ChangeFault.TheVariants as change
use Rattle.photo_model.specs.Device.{ModelDevice, made, next_version, new_place, is_held}
use Rattle.photo_device.specs.Device.{Kept, Shows, IsAsItWas}
use Rattle.photo_device.proofs.Staged.{shows_alike}
use Rattle.photo_script.specs.declared.report.Report.{Report}
use Rattle.fleet_model.specs.Answers.{Made, NotHeld}
use Rattle.photo_script.specs.Reports.{Plain, Answer, Tells, answer_of}
use Rattle.fleet_model.specs.Runs.{changing}
use Rattle.fleet_steps.specs.Changes.{told_of}

-- a device's promise about a change
pub record IsChanged (done : Result (Version × Place) ChangeFault) (old new : Kept) (p : ℕ) (content : Record) : Type 0 where
  pub shows : IfOk done (λ answer. (m : ModelDevice) → Shows old m → Shows new (made m p content))
  pub version : IfOk done (λ answer. (m : ModelDevice) → Shows old m → answer.0 ≡ next_version m)
  pub place : IfOk done (λ answer. (m : ModelDevice) → Shows old m → answer.1 ≡ new_place m content)
  pub held : (done ≡ Err change.NotHeld → ⊥) → (m : ModelDevice) → Shows old m → is_held m p ≡ true
  pub not_held : done ≡ Err change.NotHeld → (m : ModelDevice) → Shows old m → is_held m p ≡ false
  pub err : OnErr done (IsAsItWas old new)

shows_change : (done : Result (Version × Place) ChangeFault) (old new : Kept) (p : ℕ) (content : Record) → IsChanged done old new p content
    → (a : Answer) → told_of done ≡ Some a → (m : ModelDevice) → Shows old m → Shows new (changing m None p content).first
shows_change (Ok made') old new p content is a told m s = rw (is.held (λ e. cc) m s) (is.shows m s)
shows_change (Err change.NotHeld) old new p content is a told m s = rw (is.not_held refl m s) (shows_alike old new m is.err s)
shows_change (Err change.NoMemory) old new p content is a told m s = cc

tells_change : (done : Result (Version × Place) ChangeFault) (old new : Kept) (p : ℕ) (content : Record) → IsChanged done old new p content
    → (a : Answer) → told_of done ≡ Some a → (m : ModelDevice) → Shows old m → Tells a (changing m None p content).report
tells_change (Ok made') old new p content is a told m s =
    let same : a ≡ Plain (Made made'.0 made'.1) = cc in
    rw (is.held (λ e. cc) m s) (same ∙ (λ i. Plain (Made (is.version m s i) (is.place m s i))))
tells_change (Err change.NotHeld) old new p content is a told m s =
    let same : a ≡ Plain NotHeld = cc in
    rw (is.not_held refl m s) same
tells_change (Err change.NoMemory) old new p content is a told m s = cc

-- the report on a change says what the device did

pub change_device : {E : Type 0} (r : Result Report E) (done : Result (Version × Place) ChangeFault) (old new : Kept) (p : ℕ) (content : Record)
    → IfOk done (λ answer. (m : ModelDevice) → Shows old m → Shows new (made m p content))
    → IfOk done (λ answer. (m : ModelDevice) → Shows old m → answer.0 ≡ next_version m)
    → IfOk done (λ answer. (m : ModelDevice) → Shows old m → answer.1 ≡ new_place m content)
    → ((done ≡ Err change.NotHeld → ⊥) → (m : ModelDevice) → Shows old m → is_held m p ≡ true)
    → (done ≡ Err change.NotHeld → (m : ModelDevice) → Shows old m → is_held m p ≡ false)
    → OnErr done (IsAsItWas old new)
    → IfOk r (λ report. told_of done ≡ Some (answer_of report))
    → OnOk r ((m : ModelDevice) → Shows old m → Shows new (changing m None p content).first)
change_device (Ok report) done old new p content shows version place held not_held err told = shows_change done old new p content (record { shows = shows; version = version; place = place; held = held; not_held = not_held; err = err }) (answer_of report) told
change_device (Err e) done old new p content shows version place held not_held err told = tt

pub change_report : {E : Type 0} (r : Result Report E) (done : Result (Version × Place) ChangeFault) (old new : Kept) (p : ℕ) (content : Record)
    → IfOk done (λ answer. (m : ModelDevice) → Shows old m → Shows new (made m p content))
    → IfOk done (λ answer. (m : ModelDevice) → Shows old m → answer.0 ≡ next_version m)
    → IfOk done (λ answer. (m : ModelDevice) → Shows old m → answer.1 ≡ new_place m content)
    → ((done ≡ Err change.NotHeld → ⊥) → (m : ModelDevice) → Shows old m → is_held m p ≡ true)
    → (done ≡ Err change.NotHeld → (m : ModelDevice) → Shows old m → is_held m p ≡ false)
    → OnErr done (IsAsItWas old new)
    → IfOk r (λ report. told_of done ≡ Some (answer_of report))
    → IfOk r (λ report. (m : ModelDevice) → Shows old m → Tells (answer_of report) (changing m None p content).report)
change_report (Ok report) done old new p content shows version place held not_held err told = tells_change done old new p content (record { shows = shows; version = version; place = place; held = held; not_held = not_held; err = err }) (answer_of report) told
change_report (Err e) done old new p content shows version place held not_held err told = tt

pub change_err : {E : Type 0} (r : Result Report E) (done : Result (Version × Place) ChangeFault) (old new : Kept)
    → OnErr done (IsAsItWas old new) → OnErr r (done ≡ Err change.NoMemory) → OnErr r (IsAsItWas old new)
change_err (Ok report) done old new err none = tt
change_err (Err e) done old new err none = subst (λ (x : Result (Version × Place) ChangeFault). OnErr x (IsAsItWas old new)) none err

not_both : {A : Type 0} (r : Result A ChangeFault) → r ≡ Err change.NoMemory → r ≡ Err change.NotHeld → ⊥
not_both r wanting refused = cc

-- a refused change doesn't want memory
pub change_wants : {E : Type 0} (r : Result Report E) (done : Result (Version × Place) ChangeFault) (old : Kept) (p : ℕ)
    → ((done ≡ Err change.NotHeld → ⊥) → (m : ModelDevice) → Shows old m → is_held m p ≡ true)
    → OnErr r (done ≡ Err change.NoMemory) → OnErr r ((m : ModelDevice) → Shows old m → is_held m p ≡ true)
change_wants (Ok report) done old p held none = tt
change_wants (Err e) done old p held none = held (not_both done none)
