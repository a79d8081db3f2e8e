-- Lists of devices with one or two devices replaced.
use Rattle.std.proofs.Common.{◌≡◌, ℕ, ◌<◌, List, inl, inr, length, set, sym, ◌∙◌, subst, length-set}
use Rattle.std.proofs.lemmas.List.{get_or-set_same, get_or-set_other}
use Rattle.std.proofs.lemmas.Bool.{cases_eq}
use Rattle.photo_filter_text.specs.Tree.{All}
use Rattle.photo_version.specs.Author.{author}
use Rattle.photo_model.specs.Device.{ModelDevice, opening}
use Rattle.fleet_model.specs.Runs.{device_at}

pub at_same : (ds : List ModelDevice) (k : ℕ) (d : ModelDevice) → k < length ds → device_at (set ds k d) k ≡ d
at_same ds k d h = get_or-set_same ds k d (opening (author k) All) h

pub at_other : (ds : List ModelDevice) (k j : ℕ) (d : ModelDevice) → (j ≡ k → ⊥) → device_at (set ds k d) j ≡ device_at ds j
at_other ds k j d h = get_or-set_other ds k j d (opening (author j) All) h

pub within_set : (ds : List ModelDevice) (k j : ℕ) (d : ModelDevice) → j < length (set ds k d) → j < length ds
within_set ds k j d h = subst (λ (n : ℕ). j < n) (length-set ds k d) h

pub set_within : (ds : List ModelDevice) (k j : ℕ) (d : ModelDevice) → j < length ds → j < length (set ds k d)
set_within ds k j d h = subst (λ (n : ℕ). j < n) (sym (length-set ds k d)) h

-- a fact that holds of the new device and of the others holds of all
pub each_changed : (P : ℕ → ModelDevice → Type 0) (ds : List ModelDevice) (k : ℕ) (d : ModelDevice) → k < length ds → P k d → ((j : ℕ) → j < length ds → (j ≡ k → ⊥) → P j (device_at ds j)) → (j : ℕ) → j < length (set ds k d) → P j (device_at (set ds k d) j)
each_changed P ds k d h new rest j i = elim (cases_eq j k) [
  | inl e ↦ subst (λ (n : ℕ). P n (device_at (set ds k d) n)) (sym e) (subst (P k) (sym (at_same ds k d h)) new)
  | inr ne ↦ subst (P j) (sym (at_other ds k j d ne)) (rest j (within_set ds k j d i) ne)
]

-- the list with two devices replaced
abbrev pub two_set : List ModelDevice → ℕ → ModelDevice → ℕ → ModelDevice → List ModelDevice
two_set ds t x s y = set (set ds t x) s y

pub length_two : (ds : List ModelDevice) (t s : ℕ) (x y : ModelDevice) → length (two_set ds t x s y) ≡ length ds
length_two ds t s x y = length-set (set ds t x) s y ∙ length-set ds t x

pub two_within : (ds : List ModelDevice) (t s j : ℕ) (x y : ModelDevice) → j < length ds → j < length (two_set ds t x s y)
two_within ds t s j x y h = subst (λ (n : ℕ). j < n) (sym (length_two ds t s x y)) h

pub at_first : (ds : List ModelDevice) (t s : ℕ) (x y : ModelDevice) → t < length ds → (t ≡ s → ⊥) → device_at (two_set ds t x s y) t ≡ x
at_first ds t s x y h apart = at_other (set ds t x) s t y apart ∙ at_same ds t x h

pub at_second : (ds : List ModelDevice) (t s : ℕ) (x y : ModelDevice) → s < length ds → device_at (two_set ds t x s y) s ≡ y
at_second ds t s x y h = at_same (set ds t x) s y (set_within ds t s x h)

pub at_neither : (ds : List ModelDevice) (t s j : ℕ) (x y : ModelDevice) → (j ≡ t → ⊥) → (j ≡ s → ⊥) → device_at (two_set ds t x s y) j ≡ device_at ds j
at_neither ds t s j x y not_t not_s = at_other (set ds t x) s j y not_s ∙ at_other ds t j x not_t

pub each_two_changed : (P : ℕ → ModelDevice → Type 0) (ds : List ModelDevice) (t s : ℕ) (x y : ModelDevice) → t < length ds → s < length ds → P t x → P s y → ((j : ℕ) → j < length ds → P j (device_at ds j)) → (j : ℕ) → j < length (two_set ds t x s y) → P j (device_at (two_set ds t x s y) j)
each_two_changed P ds t s x y h k new_t new_s rest j i =
    each_changed P (set ds t x) s y (set_within ds t s x k) new_s (λ m l _. each_changed P ds t x h new_t (λ n o _. rest n o) m l) j i
