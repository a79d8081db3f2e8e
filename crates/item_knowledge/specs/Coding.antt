-- Machinery of the proofs: fragments and what a knowledge keeps, coded as pairs of their parts, so that a proof can tell two
-- of them apart.
use Rattle.std.specs.Prelude.{ℕ, List, Option, refl}
use Rattle.std.specs.Coded.{Coded, code_by, coded×, coded_ℕ, coded_list, coded_option}
use Rattle.item_knowledge.specs.Fragments.{Fragment}
use Rattle.item_knowledge.specs.Staged.{Knowing}

abbrev pub fragment_code : Coded Fragment
fragment_code =
    code_by (List ℕ × List (ℕ × ℕ))
    (coded× (coded_list coded_ℕ) (coded_list (coded× coded_ℕ coded_ℕ)))
    (λ f. (f.pictures, f.entries))
    (λ p. record { pictures = p.0; entries = p.1 })
    (λ _. refl)

abbrev pub fragments_code : Coded (List Fragment)
fragments_code = coded_list fragment_code

abbrev pub knowing_code : Coded Knowing
knowing_code =
    code_by (List Fragment × Option (List Fragment))
    (coded× fragments_code (coded_option fragments_code))
    (λ k. (k.known, k.staged))
    (λ p. record { known = p.0; staged = p.1 })
    (λ _. refl)
