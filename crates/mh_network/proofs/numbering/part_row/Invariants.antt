use Rattle.std.proofs.Common.{◌≡◌, map, take}
use Rattle.mh_network.specs.Problems.{link_at}
use Rattle.mh_network.specs.Parts.{place_of}
use Rattle.mh_network.proofs.numbering.part_row.Given as goal

abbrev pub invariant-loop-point : goal.invariant-loop-point
invariant-loop-point l = l.needs.items ≡ map (place_of l.part.points) (take l.point-index (link_at l.problem l.link).needs)
