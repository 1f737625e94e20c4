use Rattle.std.proofs.Common.{◌≡◌, map}
use Rattle.std.specs.List.{All}
use Rattle.mh_live.proofs.opening.make_seats.Given as goal

abbrev pub invariant-loop-ledger : goal.invariant-loop-ledger
invariant-loop-ledger l = (map (λ s. s.ledger) l.seats.items ≡ l.yielded) × All (λ s. s.definition ≡ l.fn.definition) l.seats.items
