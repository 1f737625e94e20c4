-- The parts of a problem: the classes of links and points that are joined by chains of needs.
use Rattle.std.specs.Prelude.{ℕ, suc, ◌+◌, ◌≡◌, ◌<◌, ◌==◌, ◌&&◌, List, [], ◌∷◌, Bool, true, cond, length, map, nat_lt}
use Rattle.std.specs.List.{slice_index_or}
use Rattle.std.specs.List.Sorted.{IsStrictlyIncreasing}
use Rattle.mh_network.specs.declared.link_row.LinkRow.{LinkRow}
use Rattle.mh_network.specs.declared.part.Part.{Part}
use Rattle.mh_network.specs.Problems.{ProblemData, link_at, cost_of, needs_point}
use Rattle.mh_network.specs.Selection.{member, IsLeast}

-- a link or a point, by number
pub data Item : Type 0 where
  link : ℕ → Item
  point : ℕ → Item

abbrev pub IsItem : ProblemData → Item → Type 0
IsItem P (link j) = j < length P.links
IsItem P (point p) = p < length P.costs

-- a chain of needs leads from x to an item
pub data IsJoined (P : ProblemData) (x : Item) : Item → Type 0 where
  here : IsJoined P x x
  down : {j p : ℕ} → IsJoined P x (link j) → needs_point P j p ≡ true → IsJoined P x (point p)
  up : {j p : ℕ} → IsJoined P x (point p) → needs_point P j p ≡ true → IsJoined P x (link j)

abbrev pub no_part : Part
no_part = record { links = []; points = [] }

abbrev pub part_at : List Part → ℕ → Part
part_at parts i = slice_index_or parts i no_part

abbrev pub holds : Part → Item → Bool
holds part (link j) = member part.links j
holds part (point p) = member part.points p

-- parts with a link are ordered by their least link, and the others, of points, come after them
abbrev pub part_key : ProblemData → Part → ℕ
part_key P part = slice_index_or part.links 0 (length P.links + slice_index_or part.points 0 0)

-- the classes of joined items, in order
pub record AreParts (P : ProblemData) (parts : List Part) : Type 0 where
  pub covered : (x : Item) → IsItem P x → (i : ℕ) × (i < length parts) × (holds (part_at parts i) x ≡ true)
  pub items : (i : ℕ) (x : Item) → holds (part_at parts i) x ≡ true → IsItem P x
  pub joined : (i : ℕ) (x y : Item) → holds (part_at parts i) x ≡ true → holds (part_at parts i) y ≡ true → IsJoined P x y
  pub apart : (i k : ℕ) (x y : Item) → holds (part_at parts i) x ≡ true → holds (part_at parts k) y ≡ true → IsJoined P x y → i ≡ k
  pub links : (i : ℕ) → IsStrictlyIncreasing (part_at parts i).links
  pub points : (i : ℕ) → IsStrictlyIncreasing (part_at parts i).points
  pub some : (i : ℕ) → i < length parts → (x : Item) × (holds (part_at parts i) x ≡ true)
  pub order : IsStrictlyIncreasing (map (part_key P) parts)

-- links and points of a problem, ascending, with all points that the links need
pub record IsPartOf (P : ProblemData) (part : Part) : Type 0 where
  pub links : IsStrictlyIncreasing part.links
  pub points : IsStrictlyIncreasing part.points
  pub links_in : (j : ℕ) → member part.links j ≡ true → j < length P.links
  pub points_in : (p : ℕ) → member part.points p ≡ true → p < length P.costs
  pub needs_in : (j p : ℕ) → member part.links j ≡ true → needs_point P j p ≡ true → member part.points p ≡ true

-- the index of a number in a list
abbrev pub place_of : List ℕ → ℕ → ℕ
place_of [] p = 0
place_of (x ∷ xs) p = cond (x == p) 0 (suc (place_of xs p))

-- a table with the index of each point of a list in that list
pub record ArePlaces (points : List ℕ) (bound : ℕ) (places : List ℕ) : Type 0 where
  pub count : length places ≡ bound
  pub value : (p : ℕ) → member points p ≡ true → slice_index_or places p 0 ≡ place_of points p

-- a part as a problem of its own, with its links and points renumbered
abbrev pub part_row : ProblemData → Part → ℕ → LinkRow
part_row P part j = record { gain = (link_at P j).gain; eligible = (link_at P j).eligible; needs = map (place_of part.points) (link_at P j).needs; charge = (link_at P j).charge }

abbrev pub part_problem : ProblemData → Part → ProblemData
part_problem P part = record { links = map (part_row P part) part.links; costs = map (cost_of P) part.points }

-- a set of links, by the numbers of a part
abbrev pub restricted : (ℕ → Bool) → Part → ℕ → Bool
restricted S part k = nat_lt k (length part.links) && S (slice_index_or part.links k 0)

-- links that are least in each part, by the part's numbers, are least in the whole
abbrev pub PartsJoin : ProblemData → List Part → Type 0
PartsJoin P parts = (S : ℕ → Bool) → ((j : ℕ) → S j ≡ true → j < length P.links) →
    ((i : ℕ) → i < length parts → IsLeast (part_problem P (part_at parts i)) (restricted S (part_at parts i))) → IsLeast P S
