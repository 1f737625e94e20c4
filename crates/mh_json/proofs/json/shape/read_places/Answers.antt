use Rattle.std.proofs.Common.{of_calls, ◌^◌, ◌-◌}
use Rattle.mh_json.specs.Shape.{count_of, counts_of}
use Rattle.mh_json.proofs.json.shape.read_places.Goals as goal

pub returns : goal.returns
unfolding counts_of
returns c = record { value = c.each.ensures.value (count_of (2 ^ 63 - 1)) (search of_calls) }
