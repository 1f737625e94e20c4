-- Arrays as lists of data.
use Rattle.std.proofs.Common.{◌≡◌, List, [], ◌∷◌, map, Ok, Vec, Global, refl, ap}
use Rattle.serde_json.specs.Data.{Data}
use Rattle.serde_json.specs.View.{view, items_view}
use Rattle.serde_json.specs.declared.value.Value.{Value, Array}
use Rattle.serde_json.proofs.Views.{view-Array}
use Rattle.mh_json.specs.Shape.{to_list, list_of}

pub to_list-items_view : (vs : List Value) → to_list (items_view vs) ≡ map view vs
to_list-items_view [] = refl
to_list-items_view (v ∷ vs) = ap (λ ds. view v ∷ ds) (to_list-items_view vs)

pub list_of_array : (v : Vec Value Global) → list_of (view (Array v)) ≡ Ok (map view v.items)
list_of_array v = rw (view-Array v) (ap (λ (ds : List Data). Ok ds) (to_list-items_view v.items))
