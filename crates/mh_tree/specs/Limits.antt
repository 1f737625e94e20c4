-- The depth, the size, the point bound and the site bound of a tree, its greatest number of steps, and the limits of depth and size.
use Rattle.std.specs.Prelude.{ℕ, ◌+◌, max}
use Rattle.mh_tree.specs.Tree.{Tree, Filters, constant, identity, operation, insert, discard, permute, filter, filter_return, fold, guard, point, invoke, no_more, absent, present}

abbrev mutual
  -- the number of nodes from the root to the deepest leaf
  pub depth : Tree → ℕ
  depth (constant x) = 1
  depth (identity k) = 1
  depth (operation o) = 1
  depth (insert t p xs) = 1 + depth t
  depth (discard t p ks) = 1 + depth t
  depth (permute t m r) = 1 + depth t
  depth (filter t p fs) = 1 + max (depth t) (deepest fs)
  depth (filter_return t f) = 1 + max (depth t) (depth f)
  depth (fold t c) = 1 + max (depth t) (depth c)
  depth (guard c x y) = 1 + max (depth c) (max (depth x) (depth y))
  depth (point p x y) = 1 + max (depth x) (depth y)
  depth (invoke s n) = 1

  pub deepest : Filters → ℕ
  deepest no_more = 0
  deepest (absent fs) = deepest fs
  deepest (present f fs) = max (depth f) (deepest fs)

abbrev mutual
  -- the number of nodes
  pub size : Tree → ℕ
  size (constant x) = 1
  size (identity k) = 1
  size (operation o) = 1
  size (insert t p xs) = 1 + size t
  size (discard t p ks) = 1 + size t
  size (permute t m r) = 1 + size t
  size (filter t p fs) = 1 + (size t + total_size fs)
  size (filter_return t f) = 1 + (size t + size f)
  size (fold t c) = 1 + (size t + size c)
  size (guard c x y) = 1 + (size c + (size x + size y))
  size (point p x y) = 1 + (size x + size y)
  size (invoke s n) = 1

  pub total_size : Filters → ℕ
  total_size no_more = 0
  total_size (absent fs) = total_size fs
  total_size (present f fs) = size f + total_size fs

abbrev mutual
  -- one more than the greatest point named, or 0
  pub point_bound : Tree → ℕ
  point_bound (constant x) = 0
  point_bound (identity k) = 0
  point_bound (operation o) = 0
  point_bound (insert t p xs) = point_bound t
  point_bound (discard t p ks) = point_bound t
  point_bound (permute t m r) = point_bound t
  point_bound (filter t p fs) = max (point_bound t) (greatest_bound fs)
  point_bound (filter_return t f) = max (point_bound t) (point_bound f)
  point_bound (fold t c) = max (point_bound t) (point_bound c)
  point_bound (guard c x y) = max (point_bound c) (max (point_bound x) (point_bound y))
  point_bound (point p x y) = max (p + 1) (max (point_bound x) (point_bound y))
  point_bound (invoke s n) = 0

  pub greatest_bound : Filters → ℕ
  greatest_bound no_more = 0
  greatest_bound (absent fs) = greatest_bound fs
  greatest_bound (present f fs) = max (point_bound f) (greatest_bound fs)

abbrev mutual
  -- one more than the greatest site named, or 0
  pub site_bound : Tree → ℕ
  site_bound (constant x) = 0
  site_bound (identity k) = 0
  site_bound (operation o) = 0
  site_bound (insert t p xs) = site_bound t
  site_bound (discard t p ks) = site_bound t
  site_bound (permute t m r) = site_bound t
  site_bound (filter t p fs) = max (site_bound t) (greatest_site fs)
  site_bound (filter_return t f) = max (site_bound t) (site_bound f)
  site_bound (fold t c) = max (site_bound t) (site_bound c)
  site_bound (guard c x y) = max (site_bound c) (max (site_bound x) (site_bound y))
  site_bound (point p x y) = max (site_bound x) (site_bound y)
  site_bound (invoke s n) = s + 1

  pub greatest_site : Filters → ℕ
  greatest_site no_more = 0
  greatest_site (absent fs) = greatest_site fs
  greatest_site (present f fs) = max (site_bound f) (greatest_site fs)

abbrev mutual
  -- the greatest number of steps of a tree, if an invocation takes at most c besides its own
  pub most_steps : ℕ → Tree → ℕ
  most_steps c (constant x) = 1
  most_steps c (identity k) = 1
  most_steps c (operation o) = 1
  most_steps c (insert t p xs) = 1 + most_steps c t
  most_steps c (discard t p ks) = 1 + most_steps c t
  most_steps c (permute t m r) = 1 + most_steps c t
  most_steps c (filter t p fs) = 1 + (most_steps c t + all_steps c fs)
  most_steps c (filter_return t f) = 1 + (most_steps c t + most_steps c f)
  most_steps c (fold t b) = 1 + (most_steps c t + most_steps c b)
  most_steps c (guard b x y) = 1 + (most_steps c b + (most_steps c x + most_steps c y))
  most_steps c (point p x y) = 1 + (most_steps c x + most_steps c y)
  most_steps c (invoke s n) = 1 + c

  pub all_steps : ℕ → Filters → ℕ
  all_steps c no_more = 0
  all_steps c (absent fs) = all_steps c fs
  all_steps c (present f fs) = most_steps c f + all_steps c fs

-- the depth and the size of the greatest tree
abbrev pub greatest_depth : ℕ
greatest_depth = 96

abbrev pub most_nodes : ℕ
most_nodes = 262144

-- the depth and the size of the greatest declared tree
abbrev pub greatest_declared_depth : ℕ
greatest_declared_depth = 64

abbrev pub most_declared_nodes : ℕ
most_declared_nodes = 4096

-- the greatest level of a site
abbrev pub greatest_level : ℕ
greatest_level = 3
