use Rattle.std.proofs.Common.{◌≡◌, take, false}
use Rattle.std.specs.List.{list_any}
use Rattle.mh_site.specs.Definitions.{names_point}
use Rattle.mh_site.proofs.point_rules.is_point_name.Given as goal

abbrev pub invariant-loop-point : goal.invariant-loop-point
invariant-loop-point l = list_any (names_point l.name) (take l.point-index l.points) ≡ false
