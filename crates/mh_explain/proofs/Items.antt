-- Arrays as lists of data.
use Rattle.std.proofs.Common.{◌≡◌, List, [], ◌∷◌, map, Vec, Global, refl, ap}
use Rattle.serde_json.specs.View.{view, items_view}
use Rattle.serde_json.specs.declared.value.Value.{Value, Array}
use Rattle.serde_json.proofs.Views.{view-Array}
use Rattle.mh_json.specs.Shape.{to_list}
use Rattle.mh_explain.specs.Unread.{items_in}

pub to_list-items_view : (vs : List Value) → to_list (items_view vs) ≡ map view vs
to_list-items_view [] = refl
to_list-items_view (v ∷ vs) = ap (λ ds. view v ∷ ds) (to_list-items_view vs)

pub items_in_array : (v : Vec Value Global) → items_in (view (Array v)) ≡ map view v.items
items_in_array v = rw (view-Array v) (to_list-items_view v.items)
