-- What a line says that names two devices, or a device and a filter, or asks for conflicts.
use Rattle.std.proofs.Common.{◌≡◌, ◌∷◌, ◌<◌, ◌≤◌, ℕ, List, [], length, true, false, eqb, Some, Ok, Err, refl, arith}
use Rattle.std.proofs.lemmas.Bool.{lt-leb}
use Rattle.photo_filter_text.specs.Tree.{Tree}
use Rattle.fleet_model.specs.Limits.{max_commands}
use Rattle.script_reader.specs.Earlier.{Earlier}
use Rattle.script_reader.specs.Steps.{Refuses, first_said}
use Rattle.script_reader.specs.Saying.{with_room, two_said, two_devices_said, filtering_said, device_and_filter_said, conflicts_line_said, command_said, device_said, filter_said}
use Rattle.fleet_model.specs.declared.command.Command.TheVariants as command
use Rattle.script_reader.specs.declared.fault.LineFault.{LineFault}
use Rattle.script_reader.specs.declared.fault.LineFault.TheVariants.{SameDevice}
use Rattle.script_reader.specs.declared.refusal.Refusal.{Refusal}
use Rattle.script_reader.specs.declared.refusal.Refusal.TheVariants.{Memory, Fault}
use Rattle.script_reader.proofs.Commands.{first-refused, first-refuses}

pub two_devices-said : (before : Earlier) (target source : List ℕ) (first second : ℕ) → before.commands < max_commands
    → Ok first ≡ device_said before target → Ok second ≡ device_said before source → eqb first second ≡ false
    → two_devices_said before (target ∷ source ∷ []) ≡ Ok (first, second)
unfolding two_devices_said two_said
two_devices-said before target source first second room known other apart = rw (lt-leb max_commands before.commands room, ← known, ← other, apart)

-- a name and a filter's first field are a device and a filter
pub device_and_filter-filtering : (before : Earlier) (name : List ℕ) (others : List (List ℕ)) (filter : List ℕ) → 1 ≤ length others
    → device_and_filter_said before (name ∷ others) filter ≡ with_room before (filtering_said before name filter)
unfolding device_and_filter_said
device_and_filter-filtering before name [] filter some = absurd (omega arith)
device_and_filter-filtering before name (first ∷ more) filter some = refl

pub filtering-said : (before : Earlier) (name filter : List ℕ) (device : ℕ) (tree : Tree) → before.commands < max_commands
    → Ok device ≡ device_said before name → filter_said filter ≡ Ok tree
    → with_room before (filtering_said before name filter) ≡ Ok (device, tree)
unfolding filtering_said
filtering-said before name filter device tree room known said = rw (lt-leb max_commands before.commands room, ← known, said)

pub conflicts_line-said : (before : Earlier) (name : List ℕ) (device : ℕ) → before.commands < max_commands → Ok device ≡ device_said before name
    → conflicts_line_said before (name ∷ []) ≡ Ok (Some (command.Conflicts device))
unfolding conflicts_line_said command_said
conflicts_line-said before name device room known = rw (lt-leb max_commands before.commands room, ← known)

pub two_devices-first : (before : Earlier) (target source : List ℕ) (f : LineFault) → Err f ≡ first_said before target → two_devices_said before (target ∷ source ∷ []) ≡ Err f
unfolding two_devices_said two_said
two_devices-first before target source f e = first-refuses before target f _ e

pub two_devices-second : (before : Earlier) (target source : List ℕ) (first : ℕ) (f : LineFault) → before.commands < max_commands → Ok first ≡ device_said before target → Err f ≡ device_said before source
    → two_devices_said before (target ∷ source ∷ []) ≡ Err f
unfolding two_devices_said two_said
two_devices-second before target source first f room known e = rw (lt-leb max_commands before.commands room, ← known, ← e)

pub two_devices-same : (before : Earlier) (target source : List ℕ) (first second : ℕ) → before.commands < max_commands → Ok first ≡ device_said before target → Ok second ≡ device_said before source → eqb first second ≡ true
    → two_devices_said before (target ∷ source ∷ []) ≡ Err SameDevice
unfolding two_devices_said two_said
two_devices-same before target source first second room known other same = rw (lt-leb max_commands before.commands room, ← known, ← other, same)

pub conflicts_line-first : (before : Earlier) (name : List ℕ) (f : LineFault) → Err f ≡ first_said before name → conflicts_line_said before (name ∷ []) ≡ Err f
unfolding conflicts_line_said
conflicts_line-first before name f e = first-refused before name f (λ device. Ok (command.Conflicts device)) e

pub filtering-first : (before : Earlier) (name filter : List ℕ) (f : LineFault) → Err f ≡ first_said before name → with_room before (filtering_said before name filter) ≡ Err f
unfolding filtering_said
filtering-first before name filter f e = first-refuses before name f _ e

pub filtering-filter : (before : Earlier) (name filter : List ℕ) (device : ℕ) (e : Refusal) → before.commands < max_commands → Ok device ≡ device_said before name → Refuses e (filter_said filter)
    → Refuses e (with_room before (filtering_said before name filter))
unfolding filtering_said
filtering-filter before name filter device Memory room known refused = tt
filtering-filter before name filter device (Fault f) room known refused = rw (lt-leb max_commands before.commands room, ← known, refused)
