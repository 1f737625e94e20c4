use Rattle.std.proofs.Common.{◌≡◌, map, take}
use Rattle.std.specs.List.{filter}
use Rattle.mh_network.specs.Parts.{place_of}
use Rattle.mh_network.specs.Selection.{member}
use Rattle.mh_sweep.proofs.scaling.block_needs.Given as goal

abbrev pub invariant-loop-need : goal.invariant-loop-need
invariant-loop-need l = l.listed.items ≡ map (place_of l.points) (filter (member l.points) (take l.need-index l.needs))
