use Rattle.std.proofs.Common.{◌≡◌, ◌||◌, ℕ, length, slice_index_or, true, false, take}
use Rattle.mh_network.specs.Parts.{place_of}
use Rattle.mh_network.specs.Selection.{member}
use Rattle.mh_sweep.proofs.halving.mark_points.Given as goal

abbrev pub invariant-loop-need : goal.invariant-loop-need
invariant-loop-need l = record {
  room : length l.marks ≡ length l.fn.marks;
  marked : (p : ℕ) → member l.points p ≡ true → slice_index_or l.marks (place_of l.points p) false ≡ (slice_index_or l.fn.marks (place_of l.points p) false || member (take l.need-index l.needs) p);
}
