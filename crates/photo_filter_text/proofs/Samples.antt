-- A sample date and a sample word.
use Rattle.std.specs.Prelude.{◌≡◌, ℕ, List, ℤ, Some, Ok, codes, refl}
use Rattle.std.specs.Str.{chars}
use Rattle.unicode_normalization.specs.Forms.{normalize, decomposed}
use Rattle.unicode_normalization.specs.Compose.{compose, compose_after}
use Rattle.unicode_normalization.specs.Order.{canonical_order, sink}
use Rattle.unicode_normalization.specs.Decompose.{decompose}
use Rattle.ucd_normal.specs.Decomposition.{canonical_decomposition, expand, decomposition}
use Rattle.ucd_normal.specs.DecompositionRows.{decomposition_rows}
use Rattle.ucd_normal.specs.CanonicalCombiningClass.{canonical_combining_class}
use Rattle.ucd_normal.specs.CanonicalCombiningClassRows.{canonical_combining_class_rows}
use Rattle.ucd_table.specs.Rows.{value_in}
use lib.Utf8.{encode}
use Rattle.photo_record.specs.Reading.{day_of_text, word_of_text}

pub some-date : (n : ℤ) × (day_of_text (codes "2024-01-01") ≡ Some n)
unfolding day_of_text
some-date = (_, refl)

pub some-word : (w : List ℕ) × (word_of_text (codes "x") ≡ Ok w)
unfolding word_of_text normalize compose canonical_order decomposed chars decompose canonical_decomposition expand decomposition value_in decomposition_rows sink canonical_combining_class canonical_combining_class_rows compose_after encode
some-word = (codes "x", refl)
