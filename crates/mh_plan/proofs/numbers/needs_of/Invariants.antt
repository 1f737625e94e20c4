use Rattle.std.proofs.Common.{◌≡◌, ◌<◌, ℕ, All, length, take}
use Rattle.std.specs.List.{list_any}
use Rattle.mh_network.specs.Problems.{needs_point}
use Rattle.mh_network.specs.Selection.{member}
use Rattle.mh_plan.proofs.numbers.needs_of.Given as goal

abbrev pub invariant-loop-link : goal.invariant-loop-link
invariant-loop-link l = record {
  inside : All (λ p. p < length l.problem.costs) l.points.items;
  value : (p : ℕ) → member l.points.items p ≡ list_any (λ j. needs_point l.problem j p) (take l.link-index l.links);
}
