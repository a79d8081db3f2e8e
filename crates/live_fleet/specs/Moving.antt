-- Which versions a pull would move, as the source holds them.
use Rattle.std.specs.Prelude.{Bool, not, List, filter}
use Rattle.item_knowledge.specs.Fragments.{knows}
use Rattle.photo_filter_rules.specs.Matching.{matches}
use Rattle.photo_device.specs.declared.held.Held.{Held}
use Rattle.photo_device.specs.Device.{Kept}

-- the device doesn't know the version
abbrev pub is_new_to : Kept → Held → Bool
is_new_to d h = not (knows d.knowledge h.picture h.version)

-- the versions of the source's store that the target doesn't know and its filter matches
abbrev pub are_taken : Kept → Kept → List Held
are_taken target source = filter (λ h. matches target.tree h.content) (filter (is_new_to target) source.store)

-- the versions of the source's out that the target doesn't know
abbrev pub are_handed : Kept → Kept → List Held
are_handed target source = filter (is_new_to target) source.out
