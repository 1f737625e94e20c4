use Rattle.std.proofs.Common.{ap, sym, ◌∙◌, map}
use Rattle.serde_json.specs.View.{view}
use Rattle.mh_explain.proofs.Items.{items_in_array}
use Rattle.mh_explain.proofs.values.items.Goals as goal

pub returns-in-Array : goal.returns-in-Array
returns-in-Array c = record { value = rw c.in-Array.is (ap (map view) c.as_slice.ensures.value ∙ sym (items_in_array c.in-Array.items)) }
