use Rattle.std.proofs.Common.{◌≡◌, false, take}
use Rattle.std.specs.Prelude.{not}
use Rattle.std.specs.List.{filter, slice_index_or}
use Rattle.mh_network.specs.Parts.{place_of}
use Rattle.mh_sweep.proofs.dividing.divide.Given as goal

abbrev pub invariant-loop-at : goal.invariant-loop-at
invariant-loop-at l = record {
  marked : l.marked.items ≡ filter (λ j. slice_index_or l.marks (place_of l.numbers j) false) (take l.at l.numbers);
  others : l.others.items ≡ filter (λ j. not (slice_index_or l.marks (place_of l.numbers j) false)) (take l.at l.numbers);
}
