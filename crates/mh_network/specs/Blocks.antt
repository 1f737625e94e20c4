-- The block of links between two scales as a problem of its own, and how blocks determine the scale up to which each link is chosen.
use Rattle.std.specs.Prelude.{ℕ, ◌+◌, ◌*◌, ◌≡◌, ◌≤◌, ◌<◌, ◌⊎◌, ◌&&◌, ◌||◌, not, Bool, true, false, length, map, nat_lt}
use Rattle.std.specs.List.{filter}
use Rattle.std.specs.List.Sorted.{IsStrictlyIncreasing}
use Rattle.mh_network.specs.declared.link_row.LinkRow.{LinkRow}
use Rattle.mh_network.specs.declared.part.Part.{Part}
use Rattle.mh_network.specs.Problems.{ProblemData, cost_of, link_at, needs_point}
use Rattle.mh_network.specs.Selection.{IsLeast, member, union_of_needs}
use Rattle.mh_network.specs.Parts.{part_problem, place_of}
use Rattle.mh_network.specs.Scales.{IsUntil, net_of, scaled}

-- the problem in which links need only these points
abbrev pub needing_row : (ℕ → Bool) → LinkRow → LinkRow
needing_row V r = record { gain = r.gain; eligible = r.eligible; needs = filter V r.needs; charge = r.charge }

abbrev pub needing : ProblemData → (ℕ → Bool) → ProblemData
needing P V = record { links = map (needing_row V) P.links; costs = P.costs }

-- the links that low has and high has not, ascending, and points that high does not need, including all of these that the links need
pub record IsBlock (P : ProblemData) (low high : ℕ → Bool) (part : Part) : Type 0 where
  pub links : IsStrictlyIncreasing part.links
  pub points : IsStrictlyIncreasing part.points
  pub between : (j : ℕ) → member part.links j ≡ (low j && not (high j))
  pub links_in : (j : ℕ) → member part.links j ≡ true → j < length P.links
  pub points_in : (p : ℕ) → member part.points p ≡ true → p < length P.costs
  pub unpaid : (p : ℕ) → member part.points p ≡ true → union_of_needs P high p ≡ false
  pub needs_in : (j p : ℕ) → member part.links j ≡ true → needs_point P j p ≡ true → union_of_needs P high p ≡ false → member part.points p ≡ true

-- a block as a problem of its own, with its links and points renumbered: the needs of high are paid for
abbrev pub block_problem : ProblemData → Part → ProblemData
block_problem P part = part_problem (needing P (member part.points)) part

-- the links of a block that V has by the block's numbers, and those of high
abbrev pub with_block : (ℕ → Bool) → Part → (ℕ → Bool) → ℕ → Bool
with_block high part V j = (member part.links j && V (place_of part.links j)) || high j

-- the least best links of the block, by its numbers, are with those of high the least best links of all
abbrev pub BlockJoins : ProblemData → (ℕ → Bool) → Part → Type 0
BlockJoins P high part = (V : ℕ → Bool) → IsLeast (block_problem P part) V → IsLeast P (with_block high part V)

-- the end of a block: the least best links at that scale, or none, as past the greatest scale
abbrev pub IsEnd : ProblemData → ℕ → (ℕ → Bool) → Type 0
IsEnd P k high = IsLeast (scaled P k) high ⊎ ((j : ℕ) → high j ≡ false)

-- a block at a scale, row by row
abbrev pub block_row : ProblemData → Part → ℕ → LinkRow
block_row P part j = record { gain = 1000 * net_of P j; eligible = (link_at P j).eligible; needs = map (place_of part.points) (filter (member part.points) (link_at P j).needs); charge = 0 }

abbrev pub scaled_block : ProblemData → ℕ → Part → ProblemData
scaled_block P k part = record { links = map (block_row P part) part.links; costs = map (λ p. k * cost_of P p) part.points }

-- between two scales, the least best links of the block are with those of the upper end the least best links of all
abbrev pub ScaleBlocksJoin : ProblemData → Type 0
ScaleBlocksJoin P = (first k last : ℕ) → first ≤ k → k ≤ last → (low high : ℕ → Bool) → IsLeast (scaled P first) low → IsEnd P last high → (part : Part) → IsBlock P low high part →
    (V : ℕ → Bool) → IsLeast (scaled_block P k part) V → IsLeast (scaled P k) (with_block high part V)

-- the links that gain more than their charge
abbrev pub gaining_links : ProblemData → ℕ → Bool
gaining_links P j = nat_lt 0 (net_of P j)

-- at each scale from the first to before the last, high and the links of low with a greater number are least best
abbrev pub IsSolved : ProblemData → ℕ → ℕ → (ℕ → Bool) → (ℕ → Bool) → (ℕ → ℕ) → Type 0
IsSolved P first last low high until = (k : ℕ) → first ≤ k → k < last → IsLeast (scaled P k) (λ j. high j || (low j && nat_lt k (until j)))

-- how blocks are solved, starting with all links that gain between costs of 0 and a scale past the greatest
pub record BlocksSolve (P : ProblemData) : Type 0 where
  -- if costs are 0, all links that gain are chosen
  pub free : IsLeast (scaled P 0) (gaining_links P)
  -- between a scale and the next
  pub one : (first : ℕ) (low high : ℕ → Bool) (until : ℕ → ℕ) → IsLeast (scaled P first) low → ((j : ℕ) → high j ≡ true → low j ≡ true) →
      ((j : ℕ) → low j ≡ true → high j ≡ false → first < until j) → IsSolved P first (first + 1) low high until
  -- if no link leaves
  pub same : (first last : ℕ) (low high : ℕ → Bool) (until : ℕ → ℕ) → IsLeast (scaled P first) low → IsEnd P last high → ((j : ℕ) → low j ≡ high j) →
      IsSolved P first last low high until
  -- for two adjacent blocks
  pub two : (first k last : ℕ) (low mid high : ℕ → Bool) (until : ℕ → ℕ) → ((j : ℕ) → high j ≡ true → mid j ≡ true) → ((j : ℕ) → mid j ≡ true → low j ≡ true) →
      ((j : ℕ) → low j ≡ true → mid j ≡ false → until j ≤ k) → ((j : ℕ) → mid j ≡ true → high j ≡ false → k < until j) →
      IsSolved P first k low mid until → IsSolved P k last mid high until → IsSolved P first last low high until
  -- other links do not count
  pub kept : (first last : ℕ) (low high : ℕ → Bool) (until other : ℕ → ℕ) → ((j : ℕ) → low j ≡ true → high j ≡ false → until j ≡ other j) →
      IsSolved P first last low high until → IsSolved P first last low high other
  -- all of them
  pub whole : (most : ℕ) (until : ℕ → ℕ) → ((j : ℕ) → gaining_links P j ≡ false → until j ≡ 0) → IsSolved P 0 (most + 1) (gaining_links P) (λ _. false) until → IsUntil P most until

-- how blocks begin and split: at the links in between, into those links and the others, which do not pay for the points of the former
pub record BlocksSplit (P : ProblemData) : Type 0 where
  pub first : (part : Part) → IsStrictlyIncreasing part.links → IsStrictlyIncreasing part.points → ((j : ℕ) → member part.links j ≡ gaining_links P j) →
      ((p : ℕ) → member part.points p ≡ nat_lt p (length P.costs)) → IsBlock P (gaining_links P) (λ _. false) part
  pub upper : (low mid high : ℕ → Bool) (part : Part) → IsBlock P low high part → ((j : ℕ) → mid j ≡ true → low j ≡ true) →
      IsBlock P mid high record { links = filter mid part.links; points = part.points }
  pub lower : (low mid high : ℕ → Bool) (part : Part) → IsBlock P low high part → ((j : ℕ) → high j ≡ true → mid j ≡ true) →
      IsBlock P low mid record { links = filter (λ j. not (mid j)) part.links; points = filter (λ p. not (union_of_needs P mid p)) part.points }
