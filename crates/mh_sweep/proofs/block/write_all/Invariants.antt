use Rattle.std.proofs.Common.{◌≡◌, ℕ, length, take, true, false}
use Rattle.mh_network.specs.Selection.{member}
use Rattle.mh_sweep.specs.Sweeps.{number_at}
use Rattle.mh_sweep.proofs.block.write_all.Given as goal

abbrev pub invariant-loop-link : goal.invariant-loop-link
invariant-loop-link l = record {
  count : length l.until ≡ length l.fn.until;
  written : (j : ℕ) → member (take l.link-index l.links) j ≡ true → number_at l.until j ≡ l.number;
  others : (j : ℕ) → member (take l.link-index l.links) j ≡ false → number_at l.until j ≡ number_at l.fn.until j;
}
