-- The standard ledgers of which a work ledger is built.
use Rattle.std.specs.Prelude.{ℕ}

-- the names of the standard ledgers: commands done and left of each kind, and versions moved
pub record LedgerNames : Type 0 where
  pub changes_done : ℕ
  pub changes_left : ℕ
  pub pulls_done : ℕ
  pub pulls_left : ℕ
  pub reports_done : ℕ
  pub reports_left : ℕ
  pub moved : ℕ

-- the number of parts of a ledger, which its shares divide
abbrev pub all_parts : ℕ
all_parts = 1000
