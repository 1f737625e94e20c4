use Rattle.std.proofs.Common.{◌≡◌, map, take}
use Rattle.serde_json.specs.View.{view}
use Rattle.mh_json.specs.ValueData.{value_data}
use Rattle.mh_json.proofs.values.values_json.Given as goal

abbrev pub invariant-loop-value : goal.invariant-loop-value
invariant-loop-value l = map view l.list.items ≡ map value_data (take l.value-index l.values)
