-- Arrays as trees, and as lists of filters.
use Rattle.std.proofs.Common.{◌≡◌, ℕ, ◌+◌, ◌≤◌, ◌-◌, length, take, drop, get_or, List, [], ◌∷◌, map, Result, Ok, Err, Option, Vec, Global, refl, ap, sym, ◌∙◌, arith}
use Rattle.std.proofs.lemmas.List.{take_rest}
use Rattle.serde_json.specs.View.{view, items_view}
use Rattle.serde_json.specs.declared.value.Value.{Value, Array}
use Rattle.serde_json.proofs.Views.{view-Array}
use Rattle.mh_tree.specs.Handle.{TypedTree}
use Rattle.mh_json.specs.declared.key.Key.TheVariants.{Item}
use Rattle.mh_json.specs.Misreads.{MisreadData, under}
use Rattle.mh_json.specs.declared.json.scope.Scope.{Scope}
use Rattle.mh_json.specs.Gives.{◌>>=◌}
use Rattle.mh_json.specs.Shape.{text_of, items_from}
use Rattle.mh_json.specs.Trees.{part, parts_of, tree_of, filter_of, filters_of, filters_in, form_from, form_named}
use Rattle.mh_json.proofs.Loop.{with_front}

module _ (scope : Scope) where
  pub parts_of-items_view : (vs : List Value) → parts_of scope (items_view vs) ≡ map (part scope) vs
  parts_of-items_view [] = refl
  parts_of-items_view (v ∷ vs) = ap (λ ps. part scope v ∷ ps) (parts_of-items_view vs)

  -- an array is read by its form
  pub tree_of_array : (v : Vec Value Global) → tree_of scope (view (Array v)) ≡ form_from scope (map (part scope) v.items)
  tree_of_array v = rw (view-Array v) (ap (form_from scope) (parts_of-items_view v.items))

  -- a form whose first part is a word
  pub form_at : (v : Vec Value Global) (xs : List Value) (head : Value) (word : List ℕ) → xs ≡ v.items → 1 ≤ length xs → head ≡ get_or xs 0 head → text_of (view head) ≡ Ok word
      → tree_of scope (view (Array v)) ≡ form_named scope word (map (part scope) (take (length xs - 1) (drop 1 xs)))
  form_at v xs head word same long is read = tree_of_array v ∙ ap (λ ys. form_from scope (map (part scope) ys)) (sym same) ∙ by xs long is
    where
      by : (ys : List Value) → 1 ≤ length ys → head ≡ get_or ys 0 head → form_from scope (map (part scope) ys) ≡ form_named scope word (map (part scope) (take (length ys - 1) (drop 1 ys)))
      by [] long is = absurd (omega arith)
      by (y ∷ ys) long is =
          rw (take_rest, ← is, read) refl

  -- filters are read item by item
  filters_in-items_view : (vs : List Value) (n : ℕ) → filters_in scope n (items_view vs) ≡ items_from (λ _ d. filter_of scope d) n (map view vs)
  filters_in-items_view [] n = refl
  filters_in-items_view (v ∷ vs) n =
      ap (λ (r : Result (List (Option TypedTree)) MisreadData). under (Item n) (filter_of scope (view v)) >>= λ filter. r >>= λ filters. Ok (filter ∷ filters)) (filters_in-items_view vs (n + 1))

  no_front : (r : Result (List (Option TypedTree)) MisreadData) → with_front [] r ≡ r
  no_front (Ok xs) = refl
  no_front (Err e) = refl

  pub filters_of_array : (v : Vec Value Global) (xs : List Value) → xs ≡ v.items
      → with_front [] (items_from (λ _ d. filter_of scope d) 0 (map view xs)) ≡ filters_of scope (view (Array v))
  filters_of_array v xs same =
      no_front _ ∙ ap (λ ys. items_from (λ _ d. filter_of scope d) 0 (map view ys)) same ∙ sym (filters_in-items_view v.items 0) ∙ rw (view-Array v) refl
