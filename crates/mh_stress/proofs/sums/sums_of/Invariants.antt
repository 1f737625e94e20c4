use Rattle.std.proofs.Common.{◌≡◌, ◌≤◌, ◌*◌, ◌^◌}
use Rattle.std.specs.List.{range_with_len, sum_by}
use Rattle.mh_ledger.specs.Ledgers.{at}
use Rattle.mh_stress.proofs.sums.sums_of.Given as goal

abbrev pub invariant-loop-link : goal.invariant-loop-link
invariant-loop-link g l = record {
  totals : l.totals ≡ sum_by (at l.settled.book.totals.total) (range_with_len 0 l.link);
  unflushed : l.unflushed ≡ sum_by (at l.settled.unflushed) (range_with_len 0 l.link);
  small : l.totals ≤ l.link * 2 ^ 62;
  within : l.unflushed ≤ l.link * 2 ^ 90;
}
