-- Worked devices: some are sound, some aren't.
use Rattle.std.specs.Prelude.{◌≡◌, true, false, pos, List, [], ◌∷◌, ◌++◌}
use Rattle.photo_record.specs.declared.record.Record.{Record}
use Rattle.photo_record.specs.declared.record.Record.TheVariants.{Picture}
use Rattle.photo_filter_text.specs.Tree.{All, Nothing}
use Rattle.photo_version.specs.Author.{author}
use Rattle.photo_model.specs.Entry.{Entry}
use Rattle.photo_model.specs.Device.{ModelDevice, opening, made, new_entry}
use Rattle.photo_model.specs.Refiltered.{refiltered}
use Rattle.photo_model.specs.Pull.{pulled}
use Rattle.fleet_model.specs.Sound.{is_sound, is_kept}

abbrev pub bright : Record
bright = Picture 5 (pos 19_844) []

abbrev pub faded : Record
faded = Picture 1 (pos 19_844) []

-- a camera with no picture, with one, and with a later version of that; and another device
abbrev pub empty : ModelDevice
empty = opening (author 0) All

abbrev pub camera : ModelDevice
camera = made empty 7 bright

abbrev pub later : ModelDevice
later = made camera 7 faded

abbrev pub other : ModelDevice
other = opening (author 1) All

abbrev pub one : List Entry
one = new_entry empty 7 bright ∷ []

abbrev pub two : List Entry
two = one ++ new_entry camera 7 faded ∷ []

-- a device that keeps nothing learns the picture from the camera; then it begins its next epoch, now to keep everything
abbrev pub frame : ModelDevice
frame = pulled (opening (author 1) Nothing) camera

abbrev pub begun_anew : ModelDevice
begun_anew = refiltered All frame

pub record SoundIsAsTold : Type 0 where
  pub stored : is_sound one camera ≡ true
  pub not_stored : is_sound one (record camera { store = [] }) ≡ false
  pub not_selected : is_sound one (record camera { tree = Nothing }) ≡ false
  pub outdated : is_sound two (record later { store = camera.store }) ≡ false
  pub newer_unknown : is_sound two camera ≡ true
  pub nothing_known : is_sound one other ≡ true
  pub unknown_stored : is_sound one (record other { store = camera.store }) ≡ false
  pub knows_without_storing : is_sound one frame ≡ true
  pub knows_no_more : is_sound one begun_anew ≡ true
  pub knows_still : is_sound one (record begun_anew { every = frame.every }) ≡ false
  pub kept_waiting : is_kept one (record camera { store = []; out = camera.store } ∷ []) ≡ true
  pub lost : is_kept one (other ∷ []) ≡ false
  pub older_gone : is_kept two (other ∷ later ∷ []) ≡ true
  pub newer_lost : is_kept two (other ∷ camera ∷ []) ≡ false
