-- The plain tree of a node, by its parts.
use Rattle.std.proofs.Common.{◌≡◌, ℕ, suc, ◌+◌, ◌<◌, length, drop, drop-cons, get_or, arith, refl, ap, sym, ◌∙◌, Option, Some, None, Vec, List, [], ◌∷◌, map}
use Rattle.std.specs.declared.alloc.Global.{Global}
use Rattle.mh_type.specs.declared.kind.Kind.{Kind}
use Rattle.mh_type.specs.declared.value.Value.{Value}
use Rattle.std.specs.Prelude.{option_map}
use Rattle.mh_tree.specs.Constructors.{plain_filters}
use Rattle.mh_tree.specs.Handle.{TypedTree}
use Rattle.mh_tree.specs.Tree.{Tree, insert, discard, filter, fold, guard, point, filters_of, present, absent}
use Rattle.mh_tree.specs.TreeOf.{tree_of, tree_step, filter_trees}
use Rattle.mh_tree.specs.declared.node.Node.{Node}
use Rattle.mh_tree.specs.declared.node.Node.TheViews.{Insert, Drop, Filter, Fold, Guard, Point}
use Rattle.mh_tree.specs.declared.node.Node.TheVariants.{rolls-Insert, rolls-Drop, rolls-Filter, rolls-Fold, rolls-Guard, rolls-Point}
use Rattle.mh_tree.specs.declared.node.Node.TheOpen as open_node
use Rattle.mh_tree.specs.declared.node.Node.TheFolds.{fold-roll-Node}
use Rattle.std.specs.declared.sync.Arc.{Arc}

-- two maps, one after the other, that agree with a third at each element
map_twice : {A B C : Type 0} (f : A → B) (g : B → C) (h : A → C) → ((x : A) → g (f x) ≡ h x) → (xs : List A) → map g (map f xs) ≡ map h xs
map_twice f g h e [] = refl
map_twice f g h e (x ∷ xs) = λ i. e x i ∷ map_twice f g h e xs i

-- functions of an option that agree at both variants
agrees : {A B : Type 0} (f g : Option A → B) → f None ≡ g None → ((x : A) → f (Some x) ≡ g (Some x)) → (o : Option A) → f o ≡ g o
agrees f g h k None = h
agrees f g h k (Some x) = k x

pub tree_of_filter : (target : Arc Node Global) (position : ℕ) (filters : Vec (Option (Arc Node Global)) Global)
    → tree_of (Filter target position filters) ≡ filter (tree_of target.value) position (filters_of (filter_trees filters.items))
tree_of_filter target position filters =
    ap tree_of (sym (rolls-Filter target position filters)) ∙ fold-roll-Node Tree tree_step (open_node.Filter target position filters)
    ∙ ap (λ (xs : List (Option Tree)). filter (tree_of target.value) position (filters_of xs)) (map_twice _ _ _ (agrees _ _ refl (λ x. refl)) filters.items)

-- the tree over further owners of parts
pub tree_of_owners : (target : Arc Node Global) (position : ℕ) (filters : Vec (Option (Arc Node Global)) Global) (t : Tree) (fs : List (Option TypedTree))
    → tree_of target.value ≡ t → filter_trees filters.items ≡ map (option_map (λ f. f.tree)) fs
    → tree_of (Filter target position filters) ≡ filter t position (plain_filters fs)
tree_of_owners target position filters t fs first rest =
    tree_of_filter target position filters ∙ (λ i. filter (first i) position (filters_of (rest i)))

pub tree_of_insert : (target : Arc Node Global) (position : ℕ) (values : Vec Value Global)
    → tree_of (Insert target position values) ≡ insert (tree_of target.value) position values.items
tree_of_insert target position values =
    ap tree_of (sym (rolls-Insert target position values)) ∙ fold-roll-Node Tree tree_step (open_node.Insert target position values)

pub tree_of_drop : (target : Arc Node Global) (position : ℕ) (kinds : Vec Kind Global)
    → tree_of (Drop target position kinds) ≡ discard (tree_of target.value) position kinds.items
tree_of_drop target position kinds =
    ap tree_of (sym (rolls-Drop target position kinds)) ∙ fold-roll-Node Tree tree_step (open_node.Drop target position kinds)

pub tree_of_guard : (test target fallback : Arc Node Global)
    → tree_of (Guard test target fallback) ≡ guard (tree_of test.value) (tree_of target.value) (tree_of fallback.value)
tree_of_guard test target fallback =
    ap tree_of (sym (rolls-Guard test target fallback)) ∙ fold-roll-Node Tree tree_step (open_node.Guard test target fallback)

pub tree_of_fold : (target combiner : Arc Node Global) → tree_of (Fold target combiner) ≡ fold (tree_of target.value) (tree_of combiner.value)
tree_of_fold target combiner =
    ap tree_of (sym (rolls-Fold target combiner)) ∙ fold-roll-Node Tree tree_step (open_node.Fold target combiner)

pub tree_of_point : (place : ℕ) (target fallback : Arc Node Global)
    → tree_of (Point place target fallback) ≡ point place (tree_of target.value) (tree_of fallback.value)
tree_of_point place target fallback =
    ap tree_of (sym (rolls-Point place target fallback)) ∙ fold-roll-Node Tree tree_step (open_node.Point place target fallback)

-- a list from an index on, by the element there
found_at : (xs : List (Option (Arc Node Global))) (i : ℕ) (x : Option (Arc Node Global)) → i < length xs → x ≡ get_or xs i x → drop i xs ≡ x ∷ drop (i + 1) xs
found_at xs i x below found =
    let next : suc i ≡ i + 1 = omega arith in
    drop-cons xs i x below ∙ (λ j. sym found j ∷ drop (next j) xs)

pub filter_found : (xs : List (Option (Arc Node Global))) (i : ℕ) (f : Arc Node Global) → i < length xs → Some f ≡ get_or xs i (Some f)
    → filters_of (filter_trees (drop i xs)) ≡ present (tree_of f.value) (filters_of (filter_trees (drop (i + 1) xs)))
filter_found xs i f below found = ap (λ (fs : List (Option (Arc Node Global))). filters_of (filter_trees fs)) (found_at xs i (Some f) below found)

pub none_found : (xs : List (Option (Arc Node Global))) (i : ℕ) → i < length xs → None ≡ get_or xs i None
    → filters_of (filter_trees (drop i xs)) ≡ absent (filters_of (filter_trees (drop (i + 1) xs)))
none_found xs i below found = ap (λ (fs : List (Option (Arc Node Global))). filters_of (filter_trees fs)) (found_at xs i None below found)
