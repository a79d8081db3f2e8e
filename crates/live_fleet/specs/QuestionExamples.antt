-- Worked examples of questions to devices.
use Rattle.std.specs.Prelude.{◌≡◌, ℕ, not, List, [], ◌∷◌, filter, None}
use Rattle.photo_record.specs.declared.record.Record.{Record}
use Rattle.photo_record.specs.declared.record.Record.TheVariants.{Removed}
use Rattle.photo_filter_text.specs.declared.tree.Cmp.TheVariants.{AtLeast}
use Rattle.photo_filter_text.specs.Tree.{Tree, All, Rate}
use Rattle.photo_version.specs.Author.{author}
use Rattle.item_knowledge.specs.Fragments.{Fragment}
use Rattle.photo_device.specs.declared.held.Held.{Held}
use Rattle.photo_device.specs.Device.{Kept}
use Rattle.live_fleet.specs.Examples.{rated, nth}
use Rattle.live_fleet.specs.Selected.{AreSelected}
use Rattle.live_fleet.specs.Standing.{holds, knows_of, numbers_of}
use Rattle.live_fleet.specs.Moving.{are_taken, are_handed}

-- the first version of a picture, made by the device at that place
abbrev pub version_of : ℕ → ℕ → Record → Held
version_of picture place content = record { picture = picture; version = nth place 1; made_with = []; content = content }

abbrev pub seven : Held
seven = version_of 7 0 (rated 5)

abbrev pub nine : Held
nine = version_of 9 1 (rated 2)

-- a device with those parts, on which nothing is staged
abbrev pub device : ℕ → Tree → ℕ → List Held → List Held → List Fragment → Kept
device place tree counter store out knowledge = record {
  author = author place;
  tree = tree;
  counter = counter;
  store = store;
  out = out;
  knowledge = knowledge;
  staged = None;
}

-- One device made picture 7 and keeps it. One made picture 9, which its filter doesn't match. One made nothing and knows
-- nothing.

abbrev pub keeper : Kept
keeper = device 0 All 1 (seven ∷ []) [] (record { pictures = []; entries = (0, 1) ∷ [] } ∷ [])

abbrev pub picky : Kept
picky = device 1 (Rate AtLeast 4) 1 [] (nine ∷ []) (record { pictures = []; entries = (4_294_967_296, 1) ∷ [] } ∷ [])

abbrev pub fresh : Kept
fresh = device 2 All 0 [] [] (record { pictures = []; entries = [] } ∷ [])

abbrev pub three : List Kept
three = keeper ∷ picky ∷ fresh ∷ []

-- A filter selects from both the store and the out, in order. It never selects a version that removes a picture.
pub record SelectsOfBoth : Type 0 where
  pub both : AreSelected All (device 0 All 0 (nine ∷ []) (seven ∷ []) []) (seven ∷ nine ∷ [])
  pub higher : AreSelected (Rate AtLeast 4) (device 0 All 0 (nine ∷ []) (seven ∷ []) []) (seven ∷ [])
  pub store_alone : AreSelected All (device 0 All 0 (nine ∷ []) (seven ∷ []) []) (nine ∷ []) → ⊥
  pub removed : AreSelected All (device 0 All 0 (nine ∷ []) (version_of 7 0 Removed ∷ []) []) (nine ∷ [])

-- Which devices hold a picture, lack it and know of it. The second knows its own first version of every picture, but nothing of
-- picture 7. The third would take picture 7 from the first, and the second would hand over picture 9 to it.
pub record AsksAsTold : Type 0 where
  pub hold_7 : numbers_of (filter (holds 7) three) ≡ 0 ∷ []
  pub hold_9 : numbers_of (filter (holds 9) three) ≡ 1 ∷ []
  pub lack_7 : numbers_of (filter (λ d. not (holds 7 d)) three) ≡ 1 ∷ 2 ∷ []
  pub know_7 : numbers_of (filter (knows_of (seven ∷ nine ∷ []) 7) three) ≡ 0 ∷ []
  pub know_9 : numbers_of (filter (knows_of (seven ∷ nine ∷ []) 9) three) ≡ 1 ∷ []
  pub know_8 : numbers_of (filter (knows_of (seven ∷ nine ∷ []) 8) three) ≡ []
  pub taken : are_taken fresh keeper ≡ seven ∷ []
  pub handed : are_handed fresh picky ≡ nine ∷ []
  pub none_taken : are_taken picky picky ≡ []
