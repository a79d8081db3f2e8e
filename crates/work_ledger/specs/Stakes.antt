-- A share of the work, as contracts see it.
use Rattle.std.specs.Prelude.{ℕ, ◌+◌, ◌-◌, ◌≤◌}
use Rattle.fleet_model.specs.Limits.{max_commands}
use Rattle.fleet_model.specs.declared.tally.Tally.{Tally}
use Rattle.fleet_model.specs.declared.tally.Totals.{Totals}

-- a share: its parts, the commands that it may still count, and what it has counted
pub record Stake : Type 0 where
  pub parts : ℕ
  pub left : Tally
  pub done : Totals

abbrev pub stake : ℕ → Tally → Totals → Stake
stake parts left done = record { parts = parts; left = left; done = done }

abbrev pub tally : ℕ → ℕ → ℕ → Tally
tally changes pulls reports = record { changes = changes; pulls = pulls; reports = reports }

abbrev pub totals : ℕ → ℕ → ℕ → ℕ → Totals
totals changes pulls reports moved = record { changes = changes; pulls = pulls; reports = reports; moved = moved }

-- no commands
abbrev pub none_left : Tally
none_left = tally 0 0 0

-- nothing counted
abbrev pub nothing_done : Totals
nothing_done = totals 0 0 0 0

-- the sum of two tallies
abbrev pub plus : Tally → Tally → Tally
plus a b = tally (a.changes + b.changes) (a.pulls + b.pulls) (a.reports + b.reports)

-- the first tally without the second
abbrev pub less : Tally → Tally → Tally
less a b = tally (a.changes - b.changes) (a.pulls - b.pulls) (a.reports - b.reports)

-- the sum of two totals
abbrev pub both : Totals → Totals → Totals
both a b = totals (a.changes + b.changes) (a.pulls + b.pulls) (a.reports + b.reports) (a.moved + b.moved)

-- the commands done of each kind
abbrev pub kinds_of : Totals → Tally
kinds_of done = tally done.changes done.pulls done.reports

-- the first tally has at most as many commands of each kind as the second
abbrev pub Within : Tally → Tally → Type 0
Within a b = (a.changes ≤ b.changes) × (a.pulls ≤ b.pulls) × (a.reports ≤ b.reports)

-- the first totals are at most the second, in each kind and in versions moved
abbrev pub AtMost : Totals → Totals → Type 0
AtMost a b = Within (kinds_of a) (kinds_of b) × (a.moved ≤ b.moved)

-- the tally has at most 100,000 commands of each kind
abbrev pub IsCountable : Tally → Type 0
IsCountable t = Within t (tally max_commands max_commands max_commands)

-- all commands that a share was given: those left and those done
abbrev pub given : Tally → Totals → Tally
given left done = plus left (kinds_of done)
