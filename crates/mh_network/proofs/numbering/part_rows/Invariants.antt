use Rattle.std.proofs.Common.{◌≡◌, map, take}
use Rattle.mh_network.specs.Parts.{part_row}
use Rattle.mh_network.proofs.numbering.part_rows.Given as goal

abbrev pub invariant-loop-link : goal.invariant-loop-link
invariant-loop-link l = l.rows.items ≡ map (part_row l.problem l.part) (take l.link-index l.part.links)
