use Rattle.std.proofs.Common.{◌≡◌, ◌∷◌, [], map, reverse}
use Rattle.mh_ledger.specs.Renewals.{renewed_ledger}
use Rattle.mh_core.specs.declared.record.Record.TheVariants.{Invalidated}
use Rattle.mh_core.specs.Renewals.{carried}
use Rattle.mh_core.proofs.renewing.first_records.Given as goal

abbrev pub invariant-loop-worker : goal.invariant-loop-worker
invariant-loop-worker l = reverse l.records.items ≡ carried (Invalidated l.fn.points ∷ []) (map (λ x. (renewed_ledger l.hits x).flushed) l.ledgers) l.worker
