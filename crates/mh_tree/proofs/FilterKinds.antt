-- The kinds that filters take and return, filter by filter, and the type of a filter of typed trees.
use Rattle.std.proofs.Common.{◌≡◌, ℕ, suc, zero, ◌+◌, ◌-◌, ◌≤◌, ◌<◌, ◌∙◌, ◌&&◌, Bool, true, false, refl, ap, sym, subst, arith, Option, Some, None, List, [], ◌∷◌, ◌++◌, append_assoc, take, drop, get_or, length, length-take, length-drop}
use Rattle.std.specs.Prelude.{slice_set, nat_eq, IfSome}
use Rattle.std.specs.List.{All, list_all}
use Rattle.std.proofs.lemmas.Bool.{eqb-true}
use Rattle.std.proofs.lemmas.List.{drop_more, take-append-le, take_all, drop_at}
use Rattle.mh_type.specs.declared.kind.Kind.{Kind}
use Rattle.mh_type.specs.declared.kind.Kind.TheVariants as kind
use Rattle.mh_type.specs.Kinds.{kind_eq}
use Rattle.mh_type.specs.Signature.{Signature}
use Rattle.mh_type.specs.Laws.{kind_eq_decides}
use Rattle.mh_tree.specs.Constructors.{is_unary, return_kinds, taken_kinds, plain_filters, arguments_filtered}
use Rattle.mh_tree.specs.Handle.{TypedTree, IsSound}
use Rattle.mh_tree.specs.Tree.{filter}
use Rattle.mh_tree.specs.Typing.{IsTyped, AreTyped, kind_at}
use Rattle.mh_tree.specs.Laws.Types.{split_at, set_at}

both : (x y : Bool) → x && y ≡ true → (x ≡ true) × (y ≡ true)
both true y h = (refl, h)
both false y h = cc

-- a list from a place on, by the element there
pub found_at : (xs : List (Option TypedTree)) (i : ℕ) (x : Option TypedTree) → i < length xs → x ≡ get_or xs i x → drop i xs ≡ x ∷ drop (i + 1) xs
found_at xs i x below found = drop_more xs i x below ∙ (λ j. sym found j ∷ drop (i + 1) xs)

kind_found : (ks : List Kind) (i : ℕ) → i < length ks → drop i ks ≡ kind_at ks i ∷ drop (i + 1) ks
kind_found ks i below = drop_more ks i kind.Int below

-- a filter that returns the kind in its place leaves the answer to those behind it
pub returns_here : (fs : List (Option TypedTree)) (ks : List Kind) (i : ℕ) (f : TypedTree) → i < length fs → length fs ≤ length ks
    → Some f ≡ get_or fs i (Some f) → f.signature.ret ≡ kind_at ks i
    → return_kinds (drop (i + 1) fs) (drop (i + 1) ks) ≡ return_kinds (drop i fs) (drop i ks)
returns_here fs ks i f below enough found fits =
    let here = found_at fs i (Some f) below found in
    let kind = kind_found ks i (omega arith) in
    let rest = return_kinds (drop (i + 1) fs) (drop (i + 1) ks) in
    let same : (kind_eq f.signature.ret (kind_at ks i) && rest) ≡ rest = ap (λ t. t && rest) ((kind_eq_decides _ _).1 fits) in
    sym same ∙ (λ j. return_kinds (sym here j) (sym kind j))

-- so does a place with no filter
pub none_here : (fs : List (Option TypedTree)) (ks : List Kind) (i : ℕ) → i < length fs → length fs ≤ length ks
    → None ≡ get_or fs i None
    → return_kinds (drop (i + 1) fs) (drop (i + 1) ks) ≡ return_kinds (drop i fs) (drop i ks)
none_here fs ks i below enough found =
    let here = found_at fs i None below found in
    let kind = kind_found ks i (omega arith) in
    λ j. return_kinds (sym here j) (sym kind j)

-- a filter's parameter stands in its place
pub taken_some : (f : TypedTree) (fs : List (Option TypedTree)) (q r : ℕ) (ks : List Kind) → r ≡ q + 1 → q < length ks
    → take r (slice_set ks q (kind_at f.signature.parameters 0)) ++ taken_kinds fs (drop r (slice_set ks q (kind_at f.signature.parameters 0)))
    ≡ take q ks ++ taken_kinds (Some f ∷ fs) (drop q ks)
taken_some f fs q r ks next below =
    let x = kind_at f.signature.parameters 0 in
    let here = kind_found ks q below in
    let parts = set_at q ks (drop (q + 1) ks) (kind_at ks q) x here in
    let place : r ≡ suc q = omega arith in
    (λ i. take (place i) (slice_set ks q x) ++ taken_kinds fs (drop (place i) (slice_set ks q x)))
    ∙ (λ i. parts.0 i ++ taken_kinds fs (parts.1 i))
    ∙ append_assoc (take q ks) (x ∷ []) (taken_kinds fs (drop (q + 1) ks))
    ∙ (λ i. take q ks ++ taken_kinds (Some f ∷ fs) (sym here i))

-- where there is no filter, the kind stays
pub taken_none : (fs : List (Option TypedTree)) (q r : ℕ) (ks : List Kind) → r ≡ q + 1 → q < length ks
    → take r ks ++ taken_kinds fs (drop r ks) ≡ take q ks ++ taken_kinds (None ∷ fs) (drop q ks)
taken_none fs q r ks next below =
    let here = kind_found ks q below in
    let parts = split_at q ks (drop (q + 1) ks) (kind_at ks q) here in
    let place : r ≡ suc q = omega arith in
    (λ i. take (place i) ks ++ taken_kinds fs (drop (place i) ks))
    ∙ (λ i. parts.0 i ++ taken_kinds fs (parts.1 i))
    ∙ append_assoc (take q ks) (kind_at ks q ∷ []) (taken_kinds fs (drop (q + 1) ks))
    ∙ (λ i. take q ks ++ taken_kinds (None ∷ fs) (sym here i))

-- the answer on all that is behind a place
pub returns_behind : (fs : List (Option TypedTree)) (p : ℕ) (ks js : List Kind) (answer : Bool) → js ≡ ks
    → answer ≡ return_kinds fs (take (length js - p) (drop p js)) → answer ≡ true → return_kinds fs (drop p ks) ≡ true
returns_behind fs p ks js answer same tested passed =
    let whole : take (length js - p) (drop p js) ≡ drop p js = take_all _ _ (omega (arith, length-drop p js)) in
    (λ i. return_kinds fs (drop p (sym same i))) ∙ (λ i. return_kinds fs (sym whole i)) ∙ sym tested ∙ passed

-- a list of one kind
one_kind : (ks : List Kind) → length ks ≡ 1 → ks ≡ kind_at ks 0 ∷ []
one_kind [] one = absurd (omega arith)
one_kind (k ∷ []) one = refl
one_kind (k ∷ j ∷ ks) one = absurd (omega arith)

-- where each filter has one parameter, so has the one at a place
pub unary_at : (fs : List (Option TypedTree)) (i : ℕ) (f : TypedTree) → list_all is_unary fs ≡ true → i < length fs
    → Some f ≡ get_or fs i (Some f) → length f.signature.parameters ≡ 1
unary_at [] i f unary below found = absurd (omega (arith, below))
unary_at (o ∷ fs) zero f unary below found =
    eqb-true (length f.signature.parameters) 1 (ap is_unary found ∙ (both (is_unary o) (list_all is_unary fs) unary).0)
unary_at (o ∷ fs) (suc i) f unary below found =
    unary_at fs i f (both (is_unary o) (list_all is_unary fs) unary).1 (omega (arith, below)) found

-- a filter is well typed
abbrev pub SoundFilter : Option TypedTree → Type 0
SoundFilter o = IfSome o (λ f. IsSound f.tree f.signature)

are_typed : (fs : List (Option TypedTree)) (ks : List Kind) → All SoundFilter fs
    → list_all is_unary fs ≡ true → return_kinds fs ks ≡ true → AreTyped (plain_filters fs) ks (taken_kinds fs ks)
are_typed [] ks sound unary returns = refl
are_typed (None ∷ fs) [] sound unary returns = cc
are_typed (None ∷ fs) (k ∷ ks) sound unary returns =
    (refl, are_typed fs ks (λ i d below. sound (suc i) d (omega (arith, below))) unary returns)
are_typed (Some f ∷ fs) [] sound unary returns = cc
are_typed (Some f ∷ fs) (k ∷ ks) sound unary returns =
    let first = both (nat_eq (length f.signature.parameters) 1) (list_all is_unary fs) unary in
    let here = both (kind_eq f.signature.ret k) (return_kinds fs ks) returns in
    let gives : f.signature.ret ≡ k = (kind_eq_decides _ _).0 here.0 in
    let takes : f.signature.parameters ≡ kind_at f.signature.parameters 0 ∷ [] = one_kind _ (eqb-true _ _ first.0) in
    let whole : IsSound f.tree f.signature = sound zero None (omega arith) in
    let typed : IsTyped f.tree (record { ret = k; parameters = kind_at f.signature.parameters 0 ∷ [] }) =
    subst (IsTyped f.tree) (λ i. record { ret = gives i; parameters = takes i }) whole.typed in
    (typed, are_typed fs ks (λ i d below. sound (suc i) d (omega (arith, below))) first.1 here.1)

pub filter_typed : (t : TypedTree) (p : ℕ) (fs : List (Option TypedTree)) (m : Signature)
    → m ≡ (arguments_filtered t p fs).signature
    → IsSound t.tree t.signature
    → p + length fs ≤ length t.signature.parameters
    → All SoundFilter fs
    → list_all is_unary fs ≡ true
    → return_kinds fs (drop p t.signature.parameters) ≡ true
    → IsTyped (filter t.tree p (plain_filters fs)) m
filter_typed t p fs m is_type target inside sound unary returns =
    let old = t.signature.parameters in
    let new = taken_kinds fs (drop p old) in
    let front : length (take p old) ≡ p = omega (arith, length-take p old) in
    let first : take p (take p old ++ new) ≡ take p old =
    take-append-le p (take p old) new (omega arith) ∙ take_all p (take p old) (omega arith) in
    let behind : drop p (take p old ++ new) ≡ new = drop_at (take p old) new p front in
    let typed : IsTyped (filter t.tree p (plain_filters fs)) (arguments_filtered t p fs).signature =
    (t.signature, target.typed, omega arith, refl, first, subst (AreTyped (plain_filters fs) (drop p old)) (sym behind) (are_typed fs (drop p old) sound unary returns)) in
    subst (IsTyped (filter t.tree p (plain_filters fs))) (sym is_type) typed
