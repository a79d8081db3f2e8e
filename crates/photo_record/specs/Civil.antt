-- Machinery of the proofs: the parts of a date of `jiff_core`, which a private function takes apart.
use Rattle.std.specs.Prelude.{◌≡◌, pos}
use Rattle.jiff_core.specs.declared.civil.date.Date.{Date}
use Rattle.photo_record.specs.Calendar.{Civil}

-- both are the same date
pub record IsCivil (parts : Civil) (date : Date) : Type 0 where
  pub year : date.year ≡ pos parts.year
  pub month : date.month ≡ parts.month
  pub day : date.day ≡ parts.day
