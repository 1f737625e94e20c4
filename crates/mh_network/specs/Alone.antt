-- The parts of a problem as problems of their own.
use Rattle.std.specs.Prelude.{ℕ, ◌≡◌, ◌<◌, List, Bool, true, length, pos, ◌+ℤ◌}
use Rattle.std.specs.List.{slice_index_or}
use Rattle.mh_network.specs.declared.part.Part.{Part}
use Rattle.mh_network.specs.Sums.{sum_below}
use Rattle.mh_network.specs.Problems.{ProblemData, IsProblem, needs_point, sum_of_gains}
use Rattle.mh_network.specs.Parts.{IsPartOf, PartsJoin, part_at, part_problem, place_of, restricted}
use Rattle.mh_network.specs.Selection.{member, worth}

-- if links and a value add up to all gains in each part, they do so in the whole
abbrev pub PartsAddUp : ProblemData → List Part → Type 0
PartsAddUp P parts = (S : ℕ → Bool) → ((j : ℕ) → S j ≡ true → j < length P.links) → (value : ℕ → ℕ) →
    ((i : ℕ) → i < length parts →
    worth (part_problem P (part_at parts i)) (restricted S (part_at parts i)) +ℤ pos (value i) ≡ pos (sum_of_gains (part_problem P (part_at parts i)))) →
    worth P S +ℤ pos (sum_below (length parts) value) ≡ pos (sum_of_gains P)

-- each number of a list has its index, and each index its number
pub record AreNumbered (xs : List ℕ) : Type 0 where
  pub place : (p : ℕ) → member xs p ≡ true → (place_of xs p < length xs) × (slice_index_or xs (place_of xs p) 0 ≡ p)
  pub number : (k : ℕ) → k < length xs → (member xs (slice_index_or xs k 0) ≡ true) × (place_of xs (slice_index_or xs k 0) ≡ k)

-- each part is a problem of its own: its links and points are numbered, and need each other as in the whole
pub record StandAlone (P : ProblemData) (parts : List Part) : Type 0 where
  pub part : (i : ℕ) → IsPartOf P (part_at parts i)
  pub problem : (i : ℕ) → IsProblem (part_problem P (part_at parts i))
  pub links : (i : ℕ) → AreNumbered (part_at parts i).links
  pub points : (i : ℕ) → AreNumbered (part_at parts i).points
  pub inside : (i k r : ℕ) → needs_point (part_problem P (part_at parts i)) k r ≡ true → (k < length (part_at parts i).links) × (r < length (part_at parts i).points)
  pub needs : (i k r : ℕ) → k < length (part_at parts i).links → r < length (part_at parts i).points →
      needs_point (part_problem P (part_at parts i)) k r ≡ needs_point P (slice_index_or (part_at parts i).links k 0) (slice_index_or (part_at parts i).points r 0)
  pub join : PartsJoin P parts
  pub add_up : PartsAddUp P parts
