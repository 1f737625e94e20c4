use Rattle.std.proofs.Common.{◌≡◌, ℕ, cond, length, slice_index_or, take}
use Rattle.std.specs.List.{sum_by}
use Rattle.mh_network.specs.Problems.{needs_point}
use Rattle.mh_profile.specs.Accounts.{left_of}
use Rattle.mh_profile.proofs.accounts.what_links_leave.Given as goal

abbrev pub invariant-loop-link : goal.invariant-loop-link
invariant-loop-link l = record {
  count : length l.sums.items ≡ length l.problem.costs;
  sums : (p : ℕ) → slice_index_or l.sums.items p 0 ≡ sum_by (λ j. cond (needs_point l.problem j p) (left_of l.problem l.plan j) 0) (take l.link-index l.plan.links);
}
