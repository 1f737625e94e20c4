use Rattle.std.proofs.Common.{◌≡◌, map, take, true}
use Rattle.std.specs.List.{All}
use Rattle.bench.proofs.input.rows.Given as goal

abbrev pub invariant-loop-link : goal.invariant-loop-link
invariant-loop-link l = record {
  gains : map (λ r. r.gain) l.rows.items ≡ take l.link l.gains;
  charges : map (λ r. r.charge) l.rows.items ≡ take l.link l.charges;
  eligible : All (λ r. r.eligible ≡ true) l.rows.items;
}
