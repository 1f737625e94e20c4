-- A tree that can name none of some points stays as it is, however they are taken.
use Rattle.std.proofs.Common.{◌≡◌, ◌<◌, ℕ, refl, ap, sym, ◌∙◌, arith, nat_lt, ◌||◌, length, List, [], ◌∷◌, Bool, true, false, if◌then◌else◌}
use Rattle.std.proofs.lemmas.Bool.Decides.{nat_tests}
use Rattle.std.specs.Prelude.{◌==◌}
use Rattle.std.specs.List.{list_any}
use Rattle.mh_type.specs.declared.kind.Kind.{Kind}
use Rattle.mh_type.specs.declared.value.Value.{Value}
use Rattle.mh_tree.specs.Limits.{point_bound, greatest_bound}
use Rattle.mh_tree.specs.Tree.{Tree, Filters, constant, identity, operation, insert, discard, permute, filter, filter_return, fold, guard, point, invoke, no_more, absent, present}
use Rattle.mh_pic.specs.Keys.{key_in, decided}
use Rattle.mh_pic.specs.Specialised.{any_names, is_among, names, resolved, resolved_filters, branch, specialised}

-- no need is below the bound
abbrev pub AreAbove : List ℕ → ℕ → Type 0
AreAbove needs bound = (p : ℕ) → p < bound → is_among needs p ≡ false

either_false : (a b : Bool) → (a || b) ≡ false → (a ≡ false) × (b ≡ false)
either_false false b h = (refl, h)
either_false true b h = cc

module _ (needs : List ℕ) where
  if_unneeded : (b : Bool) (x y : Tree) → b ≡ false → (if b then x else y) ≡ y
  if_unneeded false x y h = refl
  if_unneeded true x y h = cc

  mutual
    -- a tree that names none of the needs stays
    pub resolved_same : (valid : Bool) (t : Tree) → names needs t ≡ false → resolved valid needs t ≡ t
    resolved_same valid (constant x) h = refl
    resolved_same valid (identity k) h = refl
    resolved_same valid (operation o) h = refl
    resolved_same valid (insert t p xs) h = ap (λ u. insert u p xs) (resolved_same valid t h)
    resolved_same valid (discard t p ks) h = ap (λ u. discard u p ks) (resolved_same valid t h)
    resolved_same valid (permute t m r) h = ap (λ u. permute u m r) (resolved_same valid t h)
    resolved_same valid (filter t p fs) h =
        let (first, rest) = either_false (names needs t) (any_names needs fs) h in
        (λ i. filter (resolved_same valid t first i) p (filters_same valid fs rest i))
    resolved_same valid (filter_return t f) h =
        let (first, rest) = either_false (names needs t) (names needs f) h in
        (λ i. filter_return (resolved_same valid t first i) (resolved_same valid f rest i))
    resolved_same valid (fold t c) h =
        let (first, rest) = either_false (names needs t) (names needs c) h in
        (λ i. fold (resolved_same valid t first i) (resolved_same valid c rest i))
    resolved_same valid (guard c x y) h =
        let (first, both) = either_false (names needs c) (names needs x || names needs y) h in
        let (second, third) = either_false (names needs x) (names needs y) both in
        (λ i. guard (resolved_same valid c first i) (resolved_same valid x second i) (resolved_same valid y third i))
    resolved_same valid (point p x y) h =
        let (first, both) = either_false (is_among needs p) (names needs x || names needs y) h in
        let (second, third) = either_false (names needs x) (names needs y) both in
        if_unneeded (is_among needs p) _ _ first ∙ (λ i. point p (resolved_same valid x second i) (resolved_same valid y third i))
    resolved_same valid (invoke s n) h = refl

    filters_same : (valid : Bool) (fs : Filters) → any_names needs fs ≡ false → resolved_filters valid needs fs ≡ fs
    filters_same valid no_more h = refl
    filters_same valid (absent fs) h = ap absent (filters_same valid fs h)
    filters_same valid (present f fs) h =
        let (first, rest) = either_false (names needs f) (any_names needs fs) h in
        (λ i. present (resolved_same valid f first i) (filters_same valid fs rest i))

  mutual
    -- a tree whose points are all below the needs names none of them
    above_names : (t : Tree) → AreAbove needs (point_bound t) → names needs t ≡ false
    above_names (constant x) h = refl
    above_names (identity k) h = refl
    above_names (operation o) h = refl
    above_names (insert t p xs) h = above_names t h
    above_names (discard t p ks) h = above_names t h
    above_names (permute t m r) h = above_names t h
    above_names (filter t p fs) h =
        let e = above_names t (λ q k. h q (omega (arith, k))) in
        let es = above_any_names fs (λ q k. h q (omega (arith, k))) in
        (λ i. e i || es i)
    above_names (filter_return t f) h =
        let e = above_names t (λ q k. h q (omega (arith, k))) in
        let g = above_names f (λ q k. h q (omega (arith, k))) in
        (λ i. e i || g i)
    above_names (fold t c) h =
        let e = above_names t (λ q k. h q (omega (arith, k))) in
        let g = above_names c (λ q k. h q (omega (arith, k))) in
        (λ i. e i || g i)
    above_names (guard c x y) h =
        let e = above_names c (λ q k. h q (omega (arith, k))) in
        let f = above_names x (λ q k. h q (omega (arith, k))) in
        let g = above_names y (λ q k. h q (omega (arith, k))) in
        (λ i. e i || (f i || g i))
    above_names (point p x y) h =
        let e = h p (omega arith) in
        let f = above_names x (λ q k. h q (omega (arith, k))) in
        let g = above_names y (λ q k. h q (omega (arith, k))) in
        (λ i. e i || (f i || g i))
    above_names (invoke s n) h = refl

    above_any_names : (fs : Filters) → AreAbove needs (greatest_bound fs) → any_names needs fs ≡ false
    above_any_names no_more h = refl
    above_any_names (absent fs) h = above_any_names fs h
    above_any_names (present f fs) h =
        let e = above_names f (λ q k. h q (omega (arith, k))) in
        let es = above_any_names fs (λ q k. h q (omega (arith, k))) in
        (λ i. e i || es i)

  pub resolved_unnamed : (valid : Bool) (t : Tree) → AreAbove needs (point_bound t) → resolved valid needs t ≡ t
  resolved_unnamed valid t h = resolved_same valid t (above_names t h)

-- needs of which none is below the bound
pub above_all : (needs : List ℕ) (bound : ℕ) → list_any (λ q. nat_lt q bound) needs ≡ false → AreAbove needs bound
above_all [] bound h p k = refl
above_all (q ∷ qs) bound h p k =
    let (first, rest) = either_false (nat_lt q bound) (list_any (λ r. nat_lt r bound) qs) h in
    let other : (q == p) ≡ false = grind (arith, nat_tests, first, k) in
    (λ i. other i || above_all qs bound rest p k i)

above_none : (bound : ℕ) → AreAbove [] bound
above_none bound p k = refl

-- without points the tree stays
resolved_nothing : (valid : Bool) (t : Tree) → resolved valid [] t ≡ t
resolved_nothing valid t = resolved_unnamed [] valid t (above_none (point_bound t))

pub resolved_empty : (valid : Bool) (ps : List ℕ) (t : Tree) → length ps ≡ 0 → resolved valid ps t ≡ t
resolved_empty valid [] t h = resolved_nothing valid t
resolved_empty valid (p ∷ ps) t h = absurd (omega (arith, h))

pub names_empty : (needs : List ℕ) (t : Tree) → length needs ≡ 0 → names needs t ≡ false
names_empty [] t h = above_names [] t (above_none (point_bound t))
names_empty (n ∷ ns) t h = absurd (omega (arith, h))

-- a tree that can name none of the needs is specialised as for none
pub specialised_unnamed : (needs : List ℕ) (kinds : List Kind) (key : Value) (t : Tree) → AreAbove needs (point_bound t)
    → specialised [] kinds key t ≡ specialised needs kinds key t
specialised_unnamed needs kinds key (guard c x y) h =
    let e = resolved_nothing true c ∙ sym (resolved_unnamed needs true c (λ q k. h q (omega (arith, k)))) in
    let f = specialised_unnamed needs kinds key x (λ q k. h q (omega (arith, k))) in
    let g = specialised_unnamed needs kinds key y (λ q k. h q (omega (arith, k))) in
    (λ i. branch (decided key (key_in kinds c)) (e i) (f i) (g i))
specialised_unnamed needs kinds key (point p x y) h =
    let f = specialised_unnamed needs kinds key x (λ q k. h q (omega (arith, k))) in
    let g = specialised_unnamed needs kinds key y (λ q k. h q (omega (arith, k))) in
    (λ i. point p (f i) (g i)) ∙ sym (if_unneeded needs (is_among needs p) _ _ (h p (omega arith)))
specialised_unnamed needs kinds key (constant x) h = refl
specialised_unnamed needs kinds key (identity k) h = refl
specialised_unnamed needs kinds key (operation o) h = refl
specialised_unnamed needs kinds key (insert t p xs) h = resolved_nothing true (insert t p xs) ∙ sym (resolved_unnamed needs true (insert t p xs) h)
specialised_unnamed needs kinds key (discard t p ks) h = resolved_nothing true (discard t p ks) ∙ sym (resolved_unnamed needs true (discard t p ks) h)
specialised_unnamed needs kinds key (permute t m r) h = resolved_nothing true (permute t m r) ∙ sym (resolved_unnamed needs true (permute t m r) h)
specialised_unnamed needs kinds key (filter t p fs) h = resolved_nothing true (filter t p fs) ∙ sym (resolved_unnamed needs true (filter t p fs) h)
specialised_unnamed needs kinds key (filter_return t f) h = resolved_nothing true (filter_return t f) ∙ sym (resolved_unnamed needs true (filter_return t f) h)
specialised_unnamed needs kinds key (fold t c) h = resolved_nothing true (fold t c) ∙ sym (resolved_unnamed needs true (fold t c) h)
specialised_unnamed needs kinds key (invoke s n) h = refl
