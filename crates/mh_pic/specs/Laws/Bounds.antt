-- The depth and the size of chains.
use Rattle.std.proofs.Common.{ℕ, ◌+◌, ◌*◌, ◌<◌, ◌≤◌, max, List, [], ◌∷◌, length, arith, Bool, true, false, Option, Some, None, if◌then◌else◌}
use Rattle.std.specs.List.{All}
use Rattle.mh_type.specs.declared.kind.Kind.{Kind}
use Rattle.mh_type.specs.declared.value.Value.{Value}
use Rattle.mh_tree.specs.Limits.{point_bound, greatest_bound, depth, deepest, size, total_size}
use Rattle.mh_tree.specs.Tree.{Tree, Filters, constant, identity, operation, insert, discard, permute, filter, filter_return, fold, guard, point, invoke, no_more, absent, present}
use Rattle.mh_pic.specs.Keys.{key_test, key_in, decided}
use Rattle.mh_pic.specs.Specialised.{is_among, resolved, resolved_filters, stripped, branch, specialised}
use Rattle.mh_pic.specs.Chains.{PlainEntry, points, chain, HaveFewNeeds, HaveNeedsBelow}

-- a bound on both the depth and the number of nodes
point_size : (b valid : Bool) (p : ℕ) (x y : Tree) → size (if b then (if valid then x else y) else point p x y) ≤ 1 + (size x + size y)
point_size true true p x y = omega arith
point_size true false p x y = omega arith
point_size false valid p x y = omega arith

point_depth : (b valid : Bool) (p : ℕ) (x y : Tree) → depth (if b then (if valid then x else y) else point p x y) ≤ 1 + max (depth x) (depth y)
point_depth true true p x y = omega arith
point_depth true false p x y = omega arith
point_depth false valid p x y = omega arith

mutual
  pub resolved_size : (valid : Bool) (ps : List ℕ) (t : Tree) → size (resolved valid ps t) ≤ size t
  resolved_size valid ps (constant x) = omega arith
  resolved_size valid ps (identity k) = omega arith
  resolved_size valid ps (operation o) = omega arith
  resolved_size valid ps (insert t p xs) = omega (arith, resolved_size valid ps t)
  resolved_size valid ps (discard t p ks) = omega (arith, resolved_size valid ps t)
  resolved_size valid ps (permute t m r) = omega (arith, resolved_size valid ps t)
  resolved_size valid ps (filter t p fs) = omega (arith, resolved_size valid ps t, resolved_total valid ps fs)
  resolved_size valid ps (filter_return t f) = omega (arith, resolved_size valid ps t, resolved_size valid ps f)
  resolved_size valid ps (fold t c) = omega (arith, resolved_size valid ps t, resolved_size valid ps c)
  resolved_size valid ps (guard c x y) = omega (arith, resolved_size valid ps c, resolved_size valid ps x, resolved_size valid ps y)
  resolved_size valid ps (point p x y) =
      omega (arith, point_size (is_among ps p) valid p (resolved valid ps x) (resolved valid ps y), resolved_size valid ps x, resolved_size valid ps y)
  resolved_size valid ps (invoke s n) = omega arith

  pub resolved_total : (valid : Bool) (ps : List ℕ) (fs : Filters) → total_size (resolved_filters valid ps fs) ≤ total_size fs
  resolved_total valid ps no_more = omega arith
  resolved_total valid ps (absent fs) = resolved_total valid ps fs
  resolved_total valid ps (present f fs) = omega (arith, resolved_size valid ps f, resolved_total valid ps fs)

mutual
  pub resolved_depth : (valid : Bool) (ps : List ℕ) (t : Tree) → depth (resolved valid ps t) ≤ depth t
  resolved_depth valid ps (constant x) = omega arith
  resolved_depth valid ps (identity k) = omega arith
  resolved_depth valid ps (operation o) = omega arith
  resolved_depth valid ps (insert t p xs) = omega (arith, resolved_depth valid ps t)
  resolved_depth valid ps (discard t p ks) = omega (arith, resolved_depth valid ps t)
  resolved_depth valid ps (permute t m r) = omega (arith, resolved_depth valid ps t)
  resolved_depth valid ps (filter t p fs) = omega (arith, resolved_depth valid ps t, resolved_deepest valid ps fs)
  resolved_depth valid ps (filter_return t f) = omega (arith, resolved_depth valid ps t, resolved_depth valid ps f)
  resolved_depth valid ps (fold t c) = omega (arith, resolved_depth valid ps t, resolved_depth valid ps c)
  resolved_depth valid ps (guard c x y) = omega (arith, resolved_depth valid ps c, resolved_depth valid ps x, resolved_depth valid ps y)
  resolved_depth valid ps (point p x y) =
      omega (arith, point_depth (is_among ps p) valid p (resolved valid ps x) (resolved valid ps y), resolved_depth valid ps x, resolved_depth valid ps y)
  resolved_depth valid ps (invoke s n) = omega arith

  pub resolved_deepest : (valid : Bool) (ps : List ℕ) (fs : Filters) → deepest (resolved_filters valid ps fs) ≤ deepest fs
  resolved_deepest valid ps no_more = omega arith
  resolved_deepest valid ps (absent fs) = resolved_deepest valid ps fs
  resolved_deepest valid ps (present f fs) = omega (arith, resolved_depth valid ps f, resolved_deepest valid ps fs)

branch_size : (o : Option Bool) (c x y : Tree) → size (branch o c x y) ≤ 1 + (size c + (size x + size y))
branch_size (Some true) c x y = omega arith
branch_size (Some false) c x y = omega arith
branch_size None c x y = omega arith

branch_depth : (o : Option Bool) (c x y : Tree) → depth (branch o c x y) ≤ 1 + max (depth c) (max (depth x) (depth y))
branch_depth (Some true) c x y = omega arith
branch_depth (Some false) c x y = omega arith
branch_depth None c x y = omega arith

module _ (needs : List ℕ) (kinds : List Kind) (key : Value) where
  pub specialised_size : (t : Tree) → size (specialised needs kinds key t) ≤ size t
  specialised_size (guard c x y) =
      omega (arith, branch_size (decided key (key_in kinds c)) (stripped needs c) (specialised needs kinds key x) (specialised needs kinds key y), resolved_size true needs c, specialised_size x, specialised_size y)
  specialised_size (point p x y) =
      omega (arith, point_size (is_among needs p) true p (specialised needs kinds key x) (specialised needs kinds key y), specialised_size x, specialised_size y)
  specialised_size (constant x) = resolved_size true needs (constant x)
  specialised_size (identity k) = resolved_size true needs (identity k)
  specialised_size (operation o) = resolved_size true needs (operation o)
  specialised_size (insert t p xs) = resolved_size true needs (insert t p xs)
  specialised_size (discard t p ks) = resolved_size true needs (discard t p ks)
  specialised_size (permute t n r) = resolved_size true needs (permute t n r)
  specialised_size (filter t p fs) = resolved_size true needs (filter t p fs)
  specialised_size (filter_return t f) = resolved_size true needs (filter_return t f)
  specialised_size (fold t c) = resolved_size true needs (fold t c)
  specialised_size (invoke s n) = resolved_size true needs (invoke s n)

  pub specialised_depth : (t : Tree) → depth (specialised needs kinds key t) ≤ depth t
  specialised_depth (guard c x y) =
      omega (arith, branch_depth (decided key (key_in kinds c)) (stripped needs c) (specialised needs kinds key x) (specialised needs kinds key y), resolved_depth true needs c, specialised_depth x, specialised_depth y)
  specialised_depth (point p x y) =
      omega (arith, point_depth (is_among needs p) true p (specialised needs kinds key x) (specialised needs kinds key y), specialised_depth x, specialised_depth y)
  specialised_depth (constant x) = resolved_depth true needs (constant x)
  specialised_depth (identity k) = resolved_depth true needs (identity k)
  specialised_depth (operation o) = resolved_depth true needs (operation o)
  specialised_depth (insert t p xs) = resolved_depth true needs (insert t p xs)
  specialised_depth (discard t p ks) = resolved_depth true needs (discard t p ks)
  specialised_depth (permute t n r) = resolved_depth true needs (permute t n r)
  specialised_depth (filter t p fs) = resolved_depth true needs (filter t p fs)
  specialised_depth (filter_return t f) = resolved_depth true needs (filter_return t f)
  specialised_depth (fold t c) = resolved_depth true needs (fold t c)
  specialised_depth (invoke s n) = resolved_depth true needs (invoke s n)

pub test_size : (kinds : List Kind) (key : Value) → size (key_test kinds key) ≤ 3
test_size [] key = omega arith
test_size (k ∷ kinds) key = omega arith

pub test_depth : (kinds : List Kind) (key : Value) → depth (key_test kinds key) ≤ 3
test_depth [] key = omega arith
test_depth (k ∷ kinds) key = omega arith

pub points_size : (ps : List ℕ) (x base : Tree) (n : ℕ) → size x ≤ n → size base ≤ n → size (points ps x base) ≤ length ps * (1 + n) + n
points_size [] x base n hx hb = omega arith
points_size (p ∷ rest) x base n hx hb = omega (arith, points_size rest x base n hx hb)

pub points_depth : (ps : List ℕ) (x base : Tree) (n : ℕ) → depth x ≤ n → depth base ≤ n → depth (points ps x base) ≤ length ps + n
points_depth [] x base n hx hb = omega arith
points_depth (p ∷ rest) x base n hx hb = omega (arith, points_depth rest x base n hx hb)

pub chain_size_each : (kinds : List Kind) (base : Tree) (entries : List PlainEntry) → HaveFewNeeds entries → size base ≤ 4096
    → size (chain kinds base entries) ≤ length entries * 36876 + 4096
chain_size_each kinds base [] few small = omega arith
chain_size_each kinds base (e ∷ rest) few small =
    let here : length e.needs ≤ 8 = few 0 e (omega arith) in
    let inner = specialised_size e.needs kinds e.key base in
    let cached = points_size e.needs (specialised e.needs kinds e.key base) base 4096 (omega arith) small in
    let test = test_size kinds e.key in
    let more = chain_size_each kinds base rest (λ k d below. few (ℕ.suc k) d (omega arith)) small in
    omega arith

pub chain_depth_each : (kinds : List Kind) (base : Tree) (entries : List PlainEntry) → HaveFewNeeds entries → depth base ≤ 64
    → depth (chain kinds base entries) ≤ length entries + 72
chain_depth_each kinds base [] few small = omega arith
chain_depth_each kinds base (e ∷ rest) few small =
    let here : length e.needs ≤ 8 = few 0 e (omega arith) in
    let inner = specialised_depth e.needs kinds e.key base in
    let cached = points_depth e.needs (specialised e.needs kinds e.key base) base 64 (omega arith) small in
    let test = test_depth kinds e.key in
    let more = chain_depth_each kinds base rest (λ k d below. few (ℕ.suc k) d (omega arith)) small in
    omega arith

-- a chain of at most 4 entries over a declared tree is within the limits of a handle
pub chain_size : (kinds : List Kind) (base : Tree) (entries : List PlainEntry) → HaveFewNeeds entries → length entries ≤ 4 → size base ≤ 4096
    → size (chain kinds base entries) ≤ 151600
chain_size kinds base entries few short small = omega (arith, chain_size_each kinds base entries few small)

pub chain_depth : (kinds : List Kind) (base : Tree) (entries : List PlainEntry) → HaveFewNeeds entries → length entries ≤ 4 → depth base ≤ 64
    → depth (chain kinds base entries) ≤ 76
chain_depth kinds base entries few short small = omega (arith, chain_depth_each kinds base entries few small)

-- the points that a chain names are the base's and the needs
point_bounds : (b valid : Bool) (p : ℕ) (x y : Tree) → point_bound (if b then (if valid then x else y) else point p x y) ≤ max (p + 1) (max (point_bound x) (point_bound y))
point_bounds true true p x y = omega arith
point_bounds true false p x y = omega arith
point_bounds false valid p x y = omega arith

mutual
  pub resolved_bound : (valid : Bool) (ps : List ℕ) (t : Tree) → point_bound (resolved valid ps t) ≤ point_bound t
  resolved_bound valid ps (constant x) = omega arith
  resolved_bound valid ps (identity k) = omega arith
  resolved_bound valid ps (operation o) = omega arith
  resolved_bound valid ps (insert t p xs) = resolved_bound valid ps t
  resolved_bound valid ps (discard t p ks) = resolved_bound valid ps t
  resolved_bound valid ps (permute t m r) = resolved_bound valid ps t
  resolved_bound valid ps (filter t p fs) = omega (arith, resolved_bound valid ps t, resolved_greatest valid ps fs)
  resolved_bound valid ps (filter_return t f) = omega (arith, resolved_bound valid ps t, resolved_bound valid ps f)
  resolved_bound valid ps (fold t c) = omega (arith, resolved_bound valid ps t, resolved_bound valid ps c)
  resolved_bound valid ps (guard c x y) = omega (arith, resolved_bound valid ps c, resolved_bound valid ps x, resolved_bound valid ps y)
  resolved_bound valid ps (point p x y) =
      omega (arith, point_bounds (is_among ps p) valid p (resolved valid ps x) (resolved valid ps y), resolved_bound valid ps x, resolved_bound valid ps y)
  resolved_bound valid ps (invoke s n) = omega arith

  pub resolved_greatest : (valid : Bool) (ps : List ℕ) (fs : Filters) → greatest_bound (resolved_filters valid ps fs) ≤ greatest_bound fs
  resolved_greatest valid ps no_more = omega arith
  resolved_greatest valid ps (absent fs) = resolved_greatest valid ps fs
  resolved_greatest valid ps (present f fs) = omega (arith, resolved_bound valid ps f, resolved_greatest valid ps fs)

branch_bound : (o : Option Bool) (c x y : Tree) → point_bound (branch o c x y) ≤ max (point_bound c) (max (point_bound x) (point_bound y))
branch_bound (Some true) c x y = omega arith
branch_bound (Some false) c x y = omega arith
branch_bound None c x y = omega arith

module _ (needs : List ℕ) (kinds : List Kind) (key : Value) where
  pub specialised_bound : (t : Tree) → point_bound (specialised needs kinds key t) ≤ point_bound t
  specialised_bound (guard c x y) =
      omega (arith, branch_bound (decided key (key_in kinds c)) (stripped needs c) (specialised needs kinds key x) (specialised needs kinds key y), resolved_bound true needs c, specialised_bound x, specialised_bound y)
  specialised_bound (point p x y) =
      omega (arith, point_bounds (is_among needs p) true p (specialised needs kinds key x) (specialised needs kinds key y), specialised_bound x, specialised_bound y)
  specialised_bound (constant x) = resolved_bound true needs (constant x)
  specialised_bound (identity k) = resolved_bound true needs (identity k)
  specialised_bound (operation o) = resolved_bound true needs (operation o)
  specialised_bound (insert t p xs) = resolved_bound true needs (insert t p xs)
  specialised_bound (discard t p ks) = resolved_bound true needs (discard t p ks)
  specialised_bound (permute t n r) = resolved_bound true needs (permute t n r)
  specialised_bound (filter t p fs) = resolved_bound true needs (filter t p fs)
  specialised_bound (filter_return t f) = resolved_bound true needs (filter_return t f)
  specialised_bound (fold t c) = resolved_bound true needs (fold t c)
  specialised_bound (invoke s n) = resolved_bound true needs (invoke s n)

test_bound : (kinds : List Kind) (key : Value) → point_bound (key_test kinds key) ≤ 0
test_bound [] key = omega arith
test_bound (k ∷ kinds) key = omega arith

points_bound : (ps : List ℕ) (x base : Tree) (n : ℕ) → All (λ p. p < n) ps → point_bound x ≤ n → point_bound base ≤ n → point_bound (points ps x base) ≤ n
points_bound [] x base n below hx hb = omega arith
points_bound (p ∷ rest) x base n below hx hb =
    let here : p < n = below 0 p (omega arith) in
    omega (arith, points_bound rest x base n (λ k d inside. below (ℕ.suc k) d (omega arith)) hx hb)

pub chain_bound : (kinds : List Kind) (base : Tree) (entries : List PlainEntry) (n : ℕ) → HaveNeedsBelow n entries → point_bound base ≤ n
    → point_bound (chain kinds base entries) ≤ n
chain_bound kinds base [] n below small = omega arith
chain_bound kinds base (e ∷ rest) n below small =
    let here : All (λ p. p < n) e.needs = below 0 e (omega arith) in
    let inner = specialised_bound e.needs kinds e.key base in
    let cached = points_bound e.needs (specialised e.needs kinds e.key base) base n here (omega arith) small in
    let test = test_bound kinds e.key in
    let more = chain_bound kinds base rest n (λ k d inside. below (ℕ.suc k) d (omega arith)) small in
    omega arith
