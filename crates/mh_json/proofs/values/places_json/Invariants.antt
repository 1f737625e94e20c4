use Rattle.std.proofs.Common.{◌≡◌, map, take}
use Rattle.serde_json.specs.View.{view}
use Rattle.mh_json.specs.ValueData.{place_data}
use Rattle.mh_json.proofs.values.places_json.Given as goal

abbrev pub invariant-loop-place : goal.invariant-loop-place
invariant-loop-place l = map view l.list.items ≡ map place_data (take l.place-index l.places)
