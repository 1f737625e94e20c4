-- The filters of a node as a JSON array, one by one.
use Rattle.std.proofs.Common.{◌≡◌, refl, sym, ap, ◌∙◌, ◌<◌, ◌≤◌, ◌+◌, ◌++◌, ℕ, List, [], ◌∷◌, length, map, take, drop, get_or, Option, Some, None, option_map, arith}
use Rattle.std.proofs.lemmas.Grind.{take_at_read}
use Rattle.std.proofs.lemmas.List.{map_push}
use Rattle.std.specs.Arc.{arc_value}
use Rattle.std.specs.declared.alloc.Global.{Global}
use Rattle.std.specs.declared.sync.Arc.{Arc}
use Rattle.serde_json.specs.Data.{Data}
use Rattle.serde_json.specs.View.{view, items_of}
use Rattle.serde_json.specs.declared.value.Value.{Value}
use Rattle.mh_tree.specs.Laws.Effort.{total_effort}
use Rattle.mh_tree.specs.Laws.Trees.{filter_found, none_found}
use Rattle.mh_tree.specs.Tree.{filters_of}
use Rattle.mh_tree.specs.TreeOf.{tree_of, filter_trees}
use Rattle.mh_tree.specs.declared.node.Node.{Node}
use Rattle.mh_site.specs.Defined.{DefinitionData}
use Rattle.mh_json.specs.TreeData.{filter_data, filters_data}

-- a node's filter, and null where there is none
abbrev pub owner_data : DefinitionData → Option (Arc Node Global) → Data
owner_data d f = filter_data d (option_map (λ g. tree_of (arc_value g)) f)

pub in_items : (d : DefinitionData) (fs : List (Option (Arc Node Global))) → items_of (map (owner_data d) fs) ≡ filters_data d (filters_of (filter_trees fs))
in_items d [] = refl
in_items d (None ∷ fs) = rw (in_items d fs) refl
in_items d (Some f ∷ fs) = rw (in_items d fs) refl

-- the next filter behind those before it
pub one_more : (d : DefinitionData) (list : List Value) (v : Value) (fs : List (Option (Arc Node Global))) (i : ℕ) (f : Option (Arc Node Global))
    → i < length fs → f ≡ get_or fs i f → view v ≡ owner_data d f → map view list ≡ map (owner_data d) (take i fs)
    → map view (list ++ v ∷ []) ≡ map (owner_data d) (take (i + 1) fs)
one_more d list v fs i f below found written so_far =
    let taken : take (i + 1) fs ≡ take i fs ++ f ∷ [] = (take_at_read fs i f below).1 ∙ ap (λ (g : Option (Arc Node Global)). take i fs ++ g ∷ []) (sym found) in
    map_push view list v
    ∙ (λ j. so_far j ++ written j ∷ [])
    ∙ sym (map_push (owner_data d) (take i fs) f)
    ∙ ap (λ (gs : List (Option (Arc Node Global))). map (owner_data d) gs) (sym taken)

-- behind it less is left to do
pub less_left : (fs : List (Option (Arc Node Global))) (i : ℕ) (f : Option (Arc Node Global)) → i < length fs → f ≡ get_or fs i f
    → total_effort (filters_of (filter_trees (drop (i + 1) fs))) ≤ total_effort (filters_of (filter_trees (drop i fs)))
less_left fs i None below found = omega (arith, ap total_effort (none_found fs i below found))
less_left fs i (Some f) below found = omega (arith, ap total_effort (filter_found fs i f below found))
