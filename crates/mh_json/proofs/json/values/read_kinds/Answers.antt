use Rattle.std.proofs.Common.{of_calls}
use Rattle.mh_json.specs.Values.{kind_of, kinds_of}
use Rattle.mh_json.proofs.json.values.read_kinds.Goals as goal

pub returns : goal.returns
unfolding kinds_of
returns c = record { value = c.each.ensures.value kind_of (search of_calls) }
