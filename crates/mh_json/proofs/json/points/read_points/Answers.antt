use Rattle.std.proofs.Common.{of_calls}
use Rattle.mh_json.specs.Script.{point_of, points_of}
use Rattle.mh_json.proofs.json.points.read_points.Goals as goal

pub returns : goal.returns
unfolding points_of
returns c = record { value = c.each.ensures.value point_of (search of_calls) }
