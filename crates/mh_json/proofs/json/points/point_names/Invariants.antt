use Rattle.std.proofs.Common.{◌≡◌, take}
use Rattle.mh_json.specs.Script.{point_names_of}
use Rattle.mh_json.proofs.json.points.point_names.Given as goal

abbrev pub invariant-loop-point : goal.invariant-loop-point
invariant-loop-point l = l.names ≡ point_names_of (take l.point-index l.points)
