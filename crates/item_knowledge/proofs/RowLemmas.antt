-- Rows of words.
use Rattle.std.proofs.Common.{◌≡◌, ℕ, zero, suc, ◌+◌, ◌*◌, ◌<◌, List, [], ◌∷◌, length, get_or, refl, sym, ap, ◌∙◌, arith}
use Rattle.std.proofs.lemmas.Grind.{common_steps}
use Rattle.item_knowledge.specs.Entries.{Entry}
use Rattle.item_knowledge.specs.Fragments.{Fragment, nothing, entries_at}
use Rattle.item_knowledge.specs.Rows.{pairs, flat, IsRow, fragments_of, rows_of, AreRows}

-- Rows and what they are of

pub pairs_flat : (es : List Entry) → pairs (flat es) ≡ es
pairs_flat [] = refl
pairs_flat (e ∷ es) = ap (λ fs. e ∷ fs) (pairs_flat es)

pub flat_row : (es : List Entry) → IsRow (flat es)
flat_row es = ap flat (pairs_flat es)

pub fragments_rows : (fs : List Fragment) → fragments_of (rows_of fs) ≡ fs
fragments_rows [] = refl
fragments_rows (f ∷ fs) = λ i. record { pictures = f.pictures; entries = pairs_flat f.entries i } ∷ fragments_rows fs i

pub rows_rows : (fs : List Fragment) → AreRows (rows_of fs)
rows_rows fs = ap rows_of (fragments_rows fs)

rows_length : (fs : List Fragment) → length (rows_of fs) ≡ 2 * length fs
rows_length [] = refl
rows_length (f ∷ fs) = omega (arith, rows_length fs)

-- the two rows of a fragment
rows_at : (fs : List Fragment) (k : ℕ) → k < length fs → (get_or (rows_of fs) (2 * k) [] ≡ (get_or fs k nothing).pictures) × (get_or (rows_of fs) (2 * k + 1) [] ≡ flat (entries_at fs k))
rows_at [] k l = absurd (omega arith)
rows_at (f ∷ fs) zero l = (refl, refl)
rows_at (f ∷ fs) (suc k) l = grind (arith, common_steps, rows_at fs k)

pub entries_row : (fs : List Fragment) (k : ℕ) → k < length fs → get_or (rows_of fs) (2 * k + 1) [] ≡ flat (entries_at fs k)
entries_row fs k l = (rows_at fs k l).1

-- a row read from rows of whole fragments

pub entries_read : (rows : List (List ℕ)) (k : ℕ) → AreRows rows → k < length (fragments_of rows) → get_or rows (2 * k + 1) [] ≡ flat (entries_at (fragments_of rows) k)
entries_read rows k h l = ap (λ rs. get_or rs (2 * k + 1) []) (sym h) ∙ entries_row (fragments_of rows) k l

pub pictures_read : (rows : List (List ℕ)) (k : ℕ) → AreRows rows → k < length (fragments_of rows) → get_or rows (2 * k) [] ≡ (get_or (fragments_of rows) k nothing).pictures
pictures_read rows k h l = ap (λ rs. get_or rs (2 * k) []) (sym h) ∙ (rows_at (fragments_of rows) k l).0

pub rows_read : (rows : List (List ℕ)) → AreRows rows → length rows ≡ 2 * length (fragments_of rows)
rows_read rows h = ap length (sym h) ∙ rows_length (fragments_of rows)

-- The entries of a row by their places

flat_length : (es : List Entry) → length (flat es) ≡ 2 * length es
flat_length [] = refl
flat_length (e ∷ es) = omega (arith, flat_length es)

-- the two words of an entry
flat_at : (es : List Entry) (i : ℕ) → i < length es → (get_or (flat es) (2 * i) 0, get_or (flat es) (2 * i + 1) 0) ≡ get_or es i (0, 0)
flat_at [] i l = absurd (omega arith)
flat_at (e ∷ es) zero l = refl
flat_at (e ∷ es) (suc i) l = grind (arith, common_steps, flat_at es i)

pub row_length : (ws : List ℕ) → IsRow ws → length ws ≡ 2 * length (pairs ws)
row_length ws h = ap length (sym h) ∙ flat_length (pairs ws)

pub row_entry : (ws : List ℕ) (i : ℕ) → IsRow ws → i < length (pairs ws) → (get_or ws (2 * i) 0, get_or ws (2 * i + 1) 0) ≡ get_or (pairs ws) i (0, 0)
row_entry ws i h l = (λ j. (get_or (sym h j) (2 * i) 0, get_or (sym h j) (2 * i + 1) 0)) ∙ flat_at (pairs ws) i l
