-- Devices, and the model devices that they show.
use Rattle.std.proofs.Common.{◌≡◌, ℕ, ◌+◌, ◌≤◌, List, [], ◌∷◌, ◌++◌, length, take, refl, sym, ap, ◌∙◌, subst, arith, zero-add, add-zero}
use Rattle.std.specs.Prelude.{Some, slice_get}
use Rattle.std.specs.List.{AllZip}
use Rattle.std.proofs.lemmas.List.{take_more, take_all, length-take-le}
use Rattle.std.proofs.lemmas.Option.{slice_get_within, get_or_from_slice_get}
use Rattle.fleet_model.proofs.Zipped.{zip_push}
use Rattle.photo_filter_text.specs.Tree.{Tree}
use Rattle.photo_version.specs.Author.{author}
use Rattle.photo_model.specs.Device.{opening}
use Rattle.photo_device.specs.Device.{Kept, Shows}
use Rattle.fleet_model.specs.Runs.{opening_from}

pub opening_from-push : (n : ℕ) (filters : List Tree) (filter : Tree) → opening_from n (filters ++ filter ∷ []) ≡ opening_from n filters ++ opening (author (n + length filters)) filter ∷ []
opening_from-push n [] filter = ap (λ (k : ℕ). opening (author k) filter ∷ []) (sym (add-zero n))
opening_from-push n (x ∷ xs) filter =
    ap (λ l. opening (author n) x ∷ l) (opening_from-push (n + 1) xs filter ∙ ap (λ k. opening_from (n + 1) xs ++ opening (author k) filter ∷ []) (omega arith))

-- one more device
pub opening_more : (filters : List Tree) (n : ℕ) (devices : List Kept) (d : Kept) (filter : Tree) → slice_get filters n ≡ Some filter → AllZip Shows devices (opening_from 0 (take n filters)) → Shows d (opening (author n) filter) → AllZip Shows (devices ++ d ∷ []) (opening_from 0 (take (n + 1) filters))
opening_more filters n devices d filter is all here =
    let within = slice_get_within filters n filter is in
    let grown : take (n + 1) filters ≡ take n filters ++ filter ∷ [] =
    take_more filters n filter within ∙ ap (λ x. take n filters ++ x ∷ []) (get_or_from_slice_get filters n filter filter is) in
    let long = length-take-le n filters (omega arith) in
    let opened : opening_from 0 (take (n + 1) filters) ≡ opening_from 0 (take n filters) ++ opening (author n) filter ∷ [] =
    ap (opening_from 0) grown ∙ opening_from-push 0 (take n filters) filter ∙ ap (λ k. opening_from 0 (take n filters) ++ opening (author k) filter ∷ []) (zero-add _ ∙ long) in
    subst (λ ms. AllZip Shows (devices ++ d ∷ []) ms) (sym opened) (zip_push Shows devices _ d (opening (author n) filter) all here)

-- all devices
pub opening_all : (filters : List Tree) (n : ℕ) (devices : List Kept) → length filters ≤ n → AllZip Shows devices (opening_from 0 (take n filters)) → AllZip Shows devices (opening_from 0 filters)
opening_all filters n devices h all = subst (λ ms. AllZip Shows devices (opening_from 0 ms)) (take_all n filters h) all

pub opening_long : (filters : List Tree) (n : ℕ) (devices : List Kept) → AllZip Shows devices (opening_from n filters) → length devices ≡ length filters
opening_long [] n [] all = refl
opening_long (y ∷ ys) n [] all = absurd all
opening_long [] n (x ∷ xs) all = absurd all
opening_long (y ∷ ys) n (x ∷ xs) all = rw (opening_long ys (n + 1) xs all.1) refl
