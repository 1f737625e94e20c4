use Rattle.std.proofs.Common.{of_calls, ◌^◌, ◌-◌}
use Rattle.mh_json.specs.Shape.{count_of, counts_of}
use Rattle.mh_json.proofs.json.problem.read_numbers.Goals as goal

pub returns : goal.returns
unfolding counts_of
returns c = record { value = c.each.ensures.value (count_of (2 ^ 32 - 1)) (search of_calls) }
