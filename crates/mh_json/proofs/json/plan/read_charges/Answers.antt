use Rattle.std.proofs.Common.{of_calls}
use Rattle.mh_json.specs.Plans.{charge_row_of}
use Rattle.mh_json.proofs.json.plan.read_charges.Goals as goal

pub returns : goal.returns
returns c = record { value = c.each.ensures.value charge_row_of (search of_calls) }
