use Rattle.std.proofs.Common.{inr}
use Rattle.mh_json.proofs.Inputs.{json_found, json_absent}
use Rattle.mh_json.proofs.json.parse_json.Goals as goal

pub returns-in-Ok : goal.returns-in-Ok
returns-in-Ok c = record { value = json_found c.args.input.now _ c.in-Ok.ensures.ok.0 c.in-Ok.ensures.ok.1 }

pub returns-else-is_memory : goal.returns-else-is_memory
returns-else-is_memory c = record { value = rw c.wanting.ensures.value (inr (json_absent c.args.input.now (c.in-Err.ensures.err (λ memory. let known = c.is_memory.ensures.1 memory in cc)))) }
