use Rattle.std.proofs.Common.{◌≡◌, map, take}
use Rattle.serde_json.specs.View.{view}
use Rattle.mh_json.specs.ValueData.{kind_data}
use Rattle.mh_json.proofs.values.kinds_json.Given as goal

abbrev pub invariant-loop-kind : goal.invariant-loop-kind
invariant-loop-kind l = map view l.list.items ≡ map kind_data (take l.kind-index l.kinds)
