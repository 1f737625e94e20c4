-- Labels of points.
use Rattle.std.specs.Prelude.{ℕ, ◌≡◌, ◌≤◌, ◌<◌, ◌⊎◌, ◌==◌, List, true, cond, length}
use Rattle.std.specs.List.{slice_index_or}
use Rattle.mh_network.specs.Problems.{ProblemData, needs_point}
use Rattle.mh_network.specs.Selection.{member}
use Rattle.mh_network.specs.Parts.{IsJoined}
use Rattle.mh_network.specs.Parts.Item.{point}

abbrev pub label_of : List ℕ → ℕ → ℕ
label_of labels p = slice_index_or labels p 0

abbrev pub relabelled : ℕ → ℕ → ℕ → ℕ
relabelled from to label = cond (label == from) to label

abbrev pub AreOwnLabels : ℕ → List ℕ → Type 0
AreOwnLabels n labels = (length labels ≡ n) × ((p : ℕ) → p < n → label_of labels p ≡ p)

-- the points of a list now have one label, points of one label still have one, and points that now have one label had one, or had labels of
-- points of the list
pub record IsRelabelled (needs old new : List ℕ) : Type 0 where
  pub count : length new ≡ length old
  pub one : (p q : ℕ) → member needs p ≡ true → member needs q ≡ true → label_of new p ≡ label_of new q
  pub kept : (p q : ℕ) → p < length old → q < length old → label_of old p ≡ label_of old q → label_of new p ≡ label_of new q
  pub within : (m : ℕ) → ((p : ℕ) → p < length old → label_of old p < m) → (p : ℕ) → p < length old → label_of new p < m
  pub origin : (p q : ℕ) → p < length old → q < length old → label_of new p ≡ label_of new q →
      (label_of old p ≡ label_of old q)
      ⊎ ((a : ℕ) × (b : ℕ) × (member needs a ≡ true) × (member needs b ≡ true) × (label_of old p ≡ label_of old a) × (label_of old q ≡ label_of old b))

-- a table that leads down to labels: each point leads to none greater, of the same label, and one leading to itself is its own label
pub record LeadsDown (table labels : List ℕ) : Type 0 where
  pub count : length table ≡ length labels
  pub down : (p : ℕ) → label_of table p ≤ p
  pub low : (p : ℕ) → label_of labels p ≤ p
  pub same : (p : ℕ) → p < length table → label_of labels (label_of table p) ≡ label_of labels p
  pub root : (p : ℕ) → p < length table → label_of table p ≡ p → label_of labels p ≡ p

-- two points that one of the first n links needs have one label, and points with one label are joined
pub record AreLabels (P : ProblemData) (n : ℕ) (labels : List ℕ) : Type 0 where
  pub count : length labels ≡ length P.costs
  pub within : (p : ℕ) → p < length P.costs → label_of labels p < length P.costs
  pub same : (j p q : ℕ) → j < n → needs_point P j p ≡ true → needs_point P j q ≡ true → label_of labels p ≡ label_of labels q
  pub sound : (p q : ℕ) → p < length P.costs → q < length P.costs → label_of labels p ≡ label_of labels q → IsJoined P (point p) (point q)
