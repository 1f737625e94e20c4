use Rattle.std.proofs.Common.{◌≡◌, map, take}
use Rattle.mh_network.specs.Blocks.{block_row}
use Rattle.mh_sweep.proofs.scaling.block_rows.Given as goal

abbrev pub invariant-loop-link : goal.invariant-loop-link
invariant-loop-link l = l.rows.items ≡ map (block_row l.problem l.part) (take l.link-index l.part.links)
