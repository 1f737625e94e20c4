use Rattle.std.proofs.Common.{of_calls}
use Rattle.mh_json.specs.Trees.{named_point_of}
use Rattle.mh_json.proofs.json.points.read_named_points.Goals as goal

pub returns : goal.returns
returns c = record { value = c.each.ensures.value (named_point_of c.args.scope.now.points) (search of_calls) }
