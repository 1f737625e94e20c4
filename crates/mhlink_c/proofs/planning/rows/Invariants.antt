use Rattle.std.proofs.Common.{◌≡◌, take}
use Rattle.std.specs.List.{All}
use Rattle.mhlink_c.specs.Problems.{HasNeeds, rows_of}
use Rattle.mhlink_c.proofs.planning.rows.Given as goal

abbrev pub invariant-loop-link : goal.invariant-loop-link
invariant-loop-link l = record {
  so_far : l.rows.items ≡ rows_of l.needs (take l.link-index l.links);
  there : All (HasNeeds l.needs) (take l.link-index l.links);
}
