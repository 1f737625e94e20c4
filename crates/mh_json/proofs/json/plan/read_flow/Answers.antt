use Rattle.std.proofs.Common.{of_calls}
use Rattle.mh_json.specs.Plans.{flow_row_of}
use Rattle.mh_json.proofs.json.plan.read_flow.Goals as goal

pub returns : goal.returns
returns c = record { value = c.each.ensures.value flow_row_of (search of_calls) }
