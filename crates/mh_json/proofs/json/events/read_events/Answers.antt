use Rattle.std.proofs.Common.{of_calls}
use Rattle.mh_json.specs.Script.{events_of, step_of}
use Rattle.mh_json.proofs.json.events.read_events.Goals as goal

pub returns : goal.returns
unfolding events_of
returns c = record { value = c.each.ensures.value (step_of c.args.declared.now) (search of_calls) }
