use Rattle.std.proofs.Common.{◌≡◌, ℕ, length, slice_index_or, false, take}
use Rattle.std.specs.List.{list_any}
use Rattle.mh_network.specs.Problems.{needs_point}
use Rattle.mh_cert.proofs.union.needed_points.Given as goal

abbrev pub invariant-loop-link : goal.invariant-loop-link
invariant-loop-link l = record {
  count : length l.needed.items ≡ length l.problem.costs;
  marked : (p : ℕ) → slice_index_or l.needed.items p false ≡ list_any (λ j. needs_point l.problem j p) (take l.link-index l.links);
}
