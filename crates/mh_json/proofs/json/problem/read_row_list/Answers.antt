use Rattle.std.proofs.Common.{of_calls}
use Rattle.mh_json.specs.Problems.{row_of}
use Rattle.mh_json.proofs.json.problem.read_row_list.Goals as goal

pub returns : goal.returns
returns c = record { value = c.each.ensures.value (row_of c.args.version) (search of_calls) }
