use Rattle.std.proofs.Common.{◌≡◌, ◌<◌, ℕ, length, get_or}
use Rattle.mh_sweep.proofs.marking.set_places.Given as goal

abbrev pub invariant-loop-at : goal.invariant-loop-at
invariant-loop-at l = record {
  count : length l.places ≡ length l.initial.places;
  value : (i : ℕ) → i < l.at → get_or l.places (get_or l.points i 0) 0 ≡ i;
}
