use Rattle.std.proofs.Common.{◌≡◌, ℕ, length, slice_index_or, true, false, take}
use Rattle.std.specs.List.{list_any}
use Rattle.mh_network.specs.Parts.{place_of}
use Rattle.mh_network.specs.Problems.{needs_point}
use Rattle.mh_network.specs.Selection.{member}
use Rattle.mh_sweep.proofs.halving.mark_needs.Given as goal

abbrev pub invariant-loop-link : goal.invariant-loop-link
invariant-loop-link l = record {
  count : length l.marks.items ≡ length l.points;
  marked : (p : ℕ) → member l.points p ≡ true → slice_index_or l.marks.items (place_of l.points p) false ≡ list_any (λ j. needs_point l.problem j p) (take l.link-index l.links);
}
