-- A pull that is staged on its target, and is committed later with what the source hands over.
use Rattle.std.specs.Prelude.{◌≡◌, true, List, [], Option, None, Some, IfSome, Vec}
use Rattle.std.specs.Option.{is_some}
use Rattle.std.specs.declared.alloc.Global.{Global}
use Rattle.photo_model.specs.Device.{ModelDevice}
use Rattle.photo_model.specs.Pull.{pulled}
use Rattle.photo_device.specs.declared.held.Held.{Held}
use Rattle.photo_device.specs.Device.{Kept, Shows, IsAsItWas}
use Rattle.photo_device.specs.Staging.{MayHand}
use Rattle.photo_pull.specs.OnHeld.{new_waiting}
use Rattle.photo_pull.specs.Findings.{AreReady, HasStagedPull}
use Rattle.photo_pull.specs.declared.staging.StagedPull.{StagedPull}

-- what the source hands over; nothing where nothing is staged
abbrev pub handed_in : Option (Vec Held Global) → List Held
handed_in None = []
handed_in (Some handed) = handed.items

abbrev pub handed_of : StagedPull → List Held
handed_of found = handed_in found.handed

-- what is to be committed fits what is staged on the target
abbrev pub MayCommit : StagedPull → Kept → Type 0
MayCommit found target = IfSome found.handed (λ handed. (is_some target.staged ≡ true) × IfSome target.staged (λ staged. MayHand handed.items staged target))

-- the change is staged on the target; where nothing is, the target is already what the pull makes of it
abbrev pub HasChange : Kept → Kept → Option (Vec Held Global) → Kept → Type 0
HasChange t s None target = (tm sm : ModelDevice) → Shows t tm → Shows s sm → Shows t (pulled tm sm)
HasChange t s (Some handed) target = HasStagedPull t s target

-- a pull by t from s is staged on the target, which is t but for what is staged
pub record IsStagedPull (t s : Kept) (found : StagedPull) (target : Kept) : Type 0 where
  pub ready : AreReady t s
  pub rest : IsAsItWas t target
  pub may : MayCommit found target
  pub handed : handed_of found ≡ new_waiting t s
  pub change : HasChange t s found.handed target
