use Rattle.std.proofs.Common.{◌≡◌, ℕ, ◌<◌, ◌≤◌, length, map}
use Rattle.mh_ledger.specs.Ledgers.{share_of, IsTotals}
use Rattle.mh_ledger.specs.Renewals.{left_of}
use Rattle.mh_ledger.proofs.totals.Totals.lessen.Given as goal

abbrev pub invariant-loop-worker : goal.invariant-loop-worker
invariant-loop-worker l = record {
  totals : IsTotals l.self;
  limit : l.self.limit ≡ l.fn.self.limit;
  links : length l.self.total ≡ length l.fn.self.total;
  same : length l.self.shares ≡ length l.fn.self.shares;
  before : (w : ℕ) → w < l.worker → share_of l.self w ≡ map (left_of l.hits) (share_of l.fn.self w);
  rest : (w : ℕ) → l.worker ≤ w → share_of l.self w ≡ share_of l.fn.self w;
}
