-- Lists of filters in which points are taken as valid, or as invalid, one filter after the other.
use Rattle.std.proofs.Common.{◌≡◌, ℕ, zero, suc, ◌+◌, ◌<◌, ◌≤◌, refl, ap, sym, ◌∙◌, arith, get_or, length, take, Option, Some, None, List, [], ◌∷◌, ◌++◌, Result, Ok, Err, Bool, true, false, ◌||◌}
use Rattle.std.proofs.lemmas.List.{take_more}
use Rattle.mh_tree.specs.Limits.{size, total_size}
use Rattle.std.specs.Prelude.{IfOk}
use Rattle.std.specs.declared.alloc.Global.{Global}
use Rattle.std.specs.declared.sync.Arc.{Arc}
use Rattle.std.specs.Option.{is_some}
use Rattle.mh_tree.specs.Tree.{Tree, Filters, filter, filters_of, no_more, absent, present}
use Rattle.mh_pic.specs.Outcomes.{made_or}
use Rattle.mh_pic.proofs.Unnamed.{resolved_same}
use Rattle.mh_tree.specs.TreeOf.{tree_of, filter_trees}
use Rattle.mh_tree.specs.declared.node.Node.{Node}
use Rattle.mh_pic.specs.Specialised.{any_names, names, resolved, resolved_filters}

pub if_ok : {A E : Type 0} (P Q : A → Type 0) (r : Result A E) → ((x : A) → P x → Q x) → IfOk r P → IfOk r Q
if_ok P Q (Ok x) f h = f x h
if_ok P Q (Err e) f h = h

pub if_both : {A E : Type 0} (P Q R : A → Type 0) (r : Result A E) → ((x : A) → P x → Q x → R x) → IfOk r P → IfOk r Q → IfOk r R
if_both P Q R (Ok x) f h g = f x h g
if_both P Q R (Err e) f h g = h

abbrev plain : List (Option (Arc Node Global)) → Filters
plain xs = filters_of (filter_trees xs)

abbrev join : Filters → Filters → Filters
join no_more b = b
join (absent a) b = absent (join a b)
join (present f a) b = present f (join a b)

plain_join : (xs ys : List (Option (Arc Node Global))) → plain (xs ++ ys) ≡ join (plain xs) (plain ys)
plain_join [] ys = refl
plain_join (None ∷ xs) ys = ap absent (plain_join xs ys)
plain_join (Some x ∷ xs) ys = ap (present (tree_of x.value)) (plain_join xs ys)

resolve_join : (valid : Bool) (ps : List ℕ) (a b : Filters) → resolved_filters valid ps (join a b) ≡ join (resolved_filters valid ps a) (resolved_filters valid ps b)
resolve_join valid ps no_more b = refl
resolve_join valid ps (absent a) b = ap absent (resolve_join valid ps a b)
resolve_join valid ps (present f a) b = ap (present (resolved valid ps f)) (resolve_join valid ps a b)

pub pushed : (valid : Bool) (ps : List ℕ) (made xs : List (Option (Arc Node Global))) (n o : Option (Arc Node Global))
    → plain made ≡ resolved_filters valid ps (plain xs) → plain (n ∷ []) ≡ resolved_filters valid ps (plain (o ∷ []))
    → plain (made ++ (n ∷ [])) ≡ resolved_filters valid ps (plain (xs ++ (o ∷ [])))
pushed valid ps made xs n o h g =
    plain_join made (n ∷ []) ∙ (λ i. join (h i) (g i)) ∙ sym (resolve_join valid ps (plain xs) (plain (o ∷ []))) ∙ ap (resolved_filters valid ps) (sym (plain_join xs (o ∷ [])))

pub member_size : (xs : List (Option (Arc Node Global))) (i : ℕ) (f : Arc Node Global) → i < length xs → Some f ≡ get_or xs i (Some f) → size (tree_of f.value) ≤ total_size (plain xs)
member_size [] i f inside found = absurd (omega arith)
member_size (None ∷ xs) zero f inside found = cc
member_size (Some x ∷ xs) zero f inside found =
    let same : f ≡ x = cc in
    omega (arith, ap (λ (y : Arc Node Global). size (tree_of y.value)) same)
member_size (None ∷ xs) (suc i) f inside found = member_size xs i f (omega arith) found
member_size (Some x ∷ xs) (suc i) f inside found = omega (arith, member_size xs i f (omega arith) found)

-- one step of the loop
pub pushed_at : (valid : Bool) (ps : List ℕ) (made xs : List (Option (Arc Node Global))) (i : ℕ) (n o : Option (Arc Node Global)) → i < length xs → o ≡ get_or xs i o
    → plain made ≡ resolved_filters valid ps (plain (take i xs)) → plain (n ∷ []) ≡ resolved_filters valid ps (plain (o ∷ []))
    → plain (made ++ (n ∷ [])) ≡ resolved_filters valid ps (plain (take (i + 1) xs))
pushed_at valid ps made xs i n o inside found h g =
    let next : take (i + 1) xs ≡ take i xs ++ (o ∷ []) = take_more xs i o inside ∙ (λ j. take i xs ++ (sym found j ∷ [])) in
    rw next (pushed valid ps made (take i xs) n o h g)

pub or_false : (b : Bool) → (b || false) ≡ b
or_false true = refl
or_false false = refl

or_assoc : (a b c : Bool) → ((a || b) || c) ≡ (a || (b || c))
or_assoc true b c = refl
or_assoc false b c = refl

name_join : (ps : List ℕ) (a b : Filters) → any_names ps (join a b) ≡ (any_names ps a || any_names ps b)
name_join ps no_more b = refl
name_join ps (absent a) b = name_join ps a b
name_join ps (present f a) b = ap (λ x. names ps f || x) (name_join ps a b) ∙ sym (or_assoc (names ps f) (any_names ps a) (any_names ps b))

-- one step of the loop, for whether a filter names one of the points
pub named_at : (ps : List ℕ) (xs : List (Option (Arc Node Global))) (i : ℕ) (o : Option (Arc Node Global)) (old new : Bool) → i < length xs → o ≡ get_or xs i o
    → old ≡ any_names ps (plain (take i xs)) → new ≡ (old || any_names ps (plain (o ∷ []))) → new ≡ any_names ps (plain (take (i + 1) xs))
named_at ps xs i o old new inside found h g =
    let next : take (i + 1) xs ≡ take i xs ++ (o ∷ []) = take_more xs i o inside ∙ (λ j. take i xs ++ (sym found j ∷ [])) in
    rw next (g ∙ ap (λ b. b || any_names ps (plain (o ∷ []))) h ∙ sym (ap (any_names ps) (plain_join (take i xs) (o ∷ [])) ∙ name_join ps (plain (take i xs)) (plain (o ∷ []))))

-- a filter over a target and filters in which points are taken so: none is made just where they name none
pub filter_resolved : (valid : Bool) (ps : List ℕ) (t : Tree) (p : ℕ) (fs new : Filters) (made o : Option (Arc Node Global)) (changed : Bool)
    → made_or made t ≡ resolved valid ps t → is_some made ≡ names ps t → new ≡ resolved_filters valid ps fs → changed ≡ any_names ps fs
    → (is_some o ≡ true → (u : Tree) → made_or o u ≡ filter (made_or made t) p new) → is_some o ≡ (is_some made || changed)
    → made_or o (filter t p fs) ≡ resolved valid ps (filter t p fs)
filter_resolved valid ps t p fs new made (Some a) changed e d n c g s = g refl (filter t p fs) ∙ (λ i. filter (e i) p (n i))
filter_resolved valid ps t p fs new made None changed e d n c g s = sym (resolved_same ps valid (filter t p fs) ((λ i. sym d i || sym c i) ∙ sym s))
