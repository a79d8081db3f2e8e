use Rattle.std.proofs.Common.{◌≡◌, true, ◌++◌}
use Rattle.std.specs.Prelude.{filter}
use Rattle.std.specs.List.{list_any}
use Rattle.photo_pull.specs.OnHeld.{is_gone, IsQuiet}
use Rattle.photo_pull.proofs.Passing.{AreBeside}
use Rattle.photo_pull.proofs.filtered.dropped_of.Given as goal

abbrev pub invariant-loop-held : goal.invariant-loop-held
invariant-loop-held l = record {
  quiet : IsQuiet l.news l.beside.quiet;
  beside : AreBeside l.device.store l.beside.kept l.held-iterator;
  any : list_any (is_gone l.news l.followed l.device) l.held-iterator ≡ true → list_any (is_gone l.news l.followed l.device) l.set ≡ true;
  found : l.found.items ++ filter (is_gone l.news l.followed l.device) l.held-iterator ≡ filter (is_gone l.news l.followed l.device) l.set;
}
