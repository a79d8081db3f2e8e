use Rattle.std.specs.Prelude.{◌≡◌, map, replicate, []}
use Rattle.fleet_workers.proofs.deal.no_groups.Given as goal

abbrev pub invariant-loop : goal.invariant-loop
invariant-loop l = map (λ v. v.items) l.groups.items ≡ replicate l.counter []
