-- What counting one command does.
use Rattle.std.specs.Prelude.{◌+◌, ◌-◌, ◌<◌, ◌≤◌}
use Rattle.fleet_model.specs.Limits.{max_commands}
use Rattle.fleet_model.specs.declared.tally.Tally.{Tally}
use Rattle.work_ledger.specs.declared.kind.Kind.{Kind}
use Rattle.work_ledger.specs.declared.kind.Kind.TheVariants.{Change, Pull, Report}
use Rattle.work_ledger.specs.Stakes.{Stake, stake, tally, totals}

-- the share has a command of this kind left, and a pull moved at most 100,000 versions each way
abbrev pub CanCount : Kind → Tally → Type 0
CanCount Change left = 0 < left.changes
CanCount (Pull taken handed) left = (0 < left.pulls) × (taken ≤ max_commands) × (handed ≤ max_commands)
CanCount Report left = 0 < left.reports

-- the share after it counted one more command of this kind
abbrev pub counted : Kind → Stake → Stake
counted Change s =
    stake s.parts (tally (s.left.changes - 1) s.left.pulls s.left.reports) (totals (s.done.changes + 1) s.done.pulls s.done.reports s.done.moved)
counted (Pull taken handed) s =
    stake s.parts (tally s.left.changes (s.left.pulls - 1) s.left.reports) (totals s.done.changes (s.done.pulls + 1) s.done.reports (s.done.moved + (taken + handed)))
counted Report s =
    stake s.parts (tally s.left.changes s.left.pulls (s.left.reports - 1)) (totals s.done.changes s.done.pulls (s.done.reports + 1) s.done.moved)
