-- What combinators of typed trees are.
use Rattle.std.proofs.Common.{◌≡◌, ℕ, zero, suc, arith, ◌<◌, ◌≤◌, Bool, true, false, ◌&&◌, refl, sym, subst, List, [], ◌∷◌, take, drop, map, length}
use Rattle.std.specs.Prelude.{nat_lt}
use Rattle.std.specs.List.{All, list_all}
use Rattle.std.proofs.lemmas.Bool.{ltb-true}
use Rattle.mh_type.specs.declared.kind.Kind.{Kind}
use Rattle.mh_type.specs.declared.kind.Kind.TheVariants as kind
use Rattle.mh_type.specs.Signature.{Signature}
use Rattle.mh_tree.specs.Tree.{permute, filter_return, fold, guard}
use Rattle.mh_tree.specs.Handle.{TypedTree, IsSound}
use Rattle.mh_tree.specs.Typing.{IsTyped, BeginsWith, kind_at}

pub guard_typed : (c x y : TypedTree) (m : Signature)
    → m ≡ x.signature
    → IsSound c.tree c.signature → IsSound x.tree x.signature → IsSound y.tree y.signature
    → c.signature.ret ≡ kind.Boolean
    → x.signature ≡ y.signature
    → BeginsWith x.signature.parameters c.signature.parameters
    → IsTyped (guard c.tree x.tree y.tree) m
guard_typed c x y m is_type test first second boolean same begins =
    let test_typed : IsTyped c.tree (record { ret = kind.Boolean; parameters = c.signature.parameters }) =
    subst (λ k. IsTyped c.tree (record { ret = k; parameters = c.signature.parameters })) boolean test.typed in
    let typed : IsTyped (guard c.tree x.tree y.tree) x.signature =
    (c.signature.parameters, test_typed, begins, first.typed, subst (IsTyped y.tree) (sym same) second.typed) in
    subst (IsTyped (guard c.tree x.tree y.tree)) (sym is_type) typed

pub filter_return_typed : (t f : TypedTree) (m : Signature)
    → m ≡ record { ret = f.signature.ret; parameters = t.signature.parameters }
    → IsSound t.tree t.signature → IsSound f.tree f.signature
    → f.signature.parameters ≡ t.signature.ret ∷ []
    → IsTyped (filter_return t.tree f.tree) m
filter_return_typed t f m is_type target filter fits =
    let last : IsTyped f.tree (record { ret = f.signature.ret; parameters = t.signature.ret ∷ [] }) =
    subst (λ ks. IsTyped f.tree (record { ret = f.signature.ret; parameters = ks })) fits filter.typed in
    subst (IsTyped (filter_return t.tree f.tree)) (sym is_type) (t.signature.ret, target.typed, last)

-- a list by its first element and the rest
first_and_rest : (k : Kind) (ks : List Kind) → k ∷ [] ≡ take 1 ks → ks ≡ k ∷ drop 1 ks
first_and_rest k [] h = cc
first_and_rest k (x ∷ xs) h = let same : x ≡ k = cc in λ i. same i ∷ xs

pub fold_typed : (t c : TypedTree) (m : Signature)
    → m ≡ record { ret = t.signature.ret; parameters = drop 1 t.signature.parameters }
    → IsSound t.tree t.signature → IsSound c.tree c.signature
    → c.signature.ret ∷ [] ≡ take 1 t.signature.parameters
    → BeginsWith (drop 1 t.signature.parameters) c.signature.parameters
    → IsTyped (fold t.tree c.tree) m
fold_typed t c m is_type target combiner first begins =
    let whole : IsTyped t.tree (record { ret = t.signature.ret; parameters = c.signature.ret ∷ drop 1 t.signature.parameters }) =
    subst (λ ks. IsTyped t.tree (record { ret = t.signature.ret; parameters = ks })) (first_and_rest c.signature.ret t.signature.parameters first) target.typed in
    subst (IsTyped (fold t.tree c.tree)) (sym is_type) (c.signature.ret, c.signature.parameters, whole, combiner.typed, begins)

both : (x y : Bool) → x && y ≡ true → (x ≡ true) × (y ≡ true)
both true y h = (refl, h)
both false y h = cc

-- the test of a list of places, of each place
pub all_inside : (n : ℕ) (r : List ℕ) → list_all (λ i. nat_lt i n) r ≡ true → All (λ i. i < n) r
all_inside n [] h k d below = absurd (omega (arith, below))
all_inside n (i ∷ r) h zero d below = ltb-true i n (both (nat_lt i n) (list_all (λ j. nat_lt j n) r) h).0
all_inside n (i ∷ r) h (suc k) d below =
    all_inside n r (both (nat_lt i n) (list_all (λ j. nat_lt j n) r) h).1 k d (omega (arith, below))

pub permute_typed : (t : TypedTree) (m n : Signature) (r : List ℕ)
    → n ≡ m → length m.parameters ≤ 16
    → IsSound t.tree t.signature
    → list_all (λ i. nat_lt i (length m.parameters)) r ≡ true
    → t.signature.ret ≡ m.ret
    → t.signature.parameters ≡ map (λ i. kind_at m.parameters i) r
    → IsTyped (permute t.tree m r) n
permute_typed t m n r same few target inside returns fits =
    let reorders : IsTyped (permute t.tree m r) m =
    (t.signature, target.typed, record { returns = returns; inside = all_inside _ r inside; few = few; same = fits }, refl) in
    subst (IsTyped (permute t.tree m r)) (sym same) reorders
