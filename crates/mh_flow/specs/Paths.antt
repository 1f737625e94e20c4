-- Paths up the levels, and the effect of a push along one (Dinitz 1970).
use Rattle.std.specs.Prelude.{ℕ, ◌+◌, ◌≡◌, ◌≤◌, ◌<◌, List, [], ◌∷◌, cond, ◌==◌, length, map, min}
use Rattle.std.specs.List.{All, sum_by}
use Rattle.mh_flow.specs.declared.need_row.NeedRow.{NeedRow}
use Rattle.mh_flow.specs.declared.path.Turn.{Turn}
use Rattle.mh_flow.specs.Carried.{row_at, out_of_link, into_point, carried, number_at}
use Rattle.mh_network.specs.Limits.{greatest_sum}

-- one turn of a path: back over one row of a link and forth over another, to point p
pub record IsTurn (rows : List NeedRow) (links points : ℕ → ℕ) (p forth back : ℕ) : Type 0 where
  pub forth_in_range : forth < length rows
  pub back_in_range : back < length rows
  pub to_point : (row_at rows forth).point ≡ p
  pub link_level : links (row_at rows forth).link + 1 ≡ points p
  pub same_link : (row_at rows back).link ≡ (row_at rows forth).link
  pub point_level : points (row_at rows back).point + 1 ≡ links (row_at rows back).link
  pub some : 0 < (row_at rows back).amount

-- the row over which a path begins: of a link with gain left, to point p
pub record IsFirst (rows : List NeedRow) (gain_left : List ℕ) (links points : ℕ → ℕ) (p first : ℕ) : Type 0 where
  pub in_range : first < length rows
  pub to_point : (row_at rows first).point ≡ p
  pub link_level : links (row_at rows first).link + 1 ≡ points p
  pub start : links (row_at rows first).link ≡ 1
  pub some : 0 < number_at gain_left (row_at rows first).link

-- a path from the source to point p, stored from p on: turns, and the row over which it begins. Each edge has residual capacity and leads
-- from one level to the next.
abbrev pub IsPath : List NeedRow → List ℕ → (ℕ → ℕ) → (ℕ → ℕ) → ℕ → List Turn → ℕ → Type 0
IsPath rows gain_left links points p [] first = IsFirst rows gain_left links points p first
IsPath rows gain_left links points p (turn ∷ rest) first =
    IsTurn rows links points p turn.forth turn.back × IsPath rows gain_left links points (row_at rows turn.back).point rest first

-- the least of a number and those of a list
abbrev pub least_of : ℕ → List ℕ → ℕ
least_of n [] = n
least_of n (m ∷ rest) = least_of (min n m) rest

-- the residual capacity of a path, if `limit` is left of the edge to the sink: from the source what is left of the gain, and back over each
-- row the amount that it carries
abbrev pub room : List NeedRow → List ℕ → ℕ → List Turn → ℕ → ℕ
room rows gain_left limit turns first =
    least_of (min limit (number_at gain_left (row_at rows first).link)) (map (λ t. (row_at rows t.back).amount) turns)

-- the turns lead from point p down to point q
abbrev pub IsWalk : List NeedRow → (ℕ → ℕ) → (ℕ → ℕ) → ℕ → List Turn → ℕ → Type 0
IsWalk rows links points p [] q = p ≡ q
IsWalk rows links points p (turn ∷ rest) q =
    IsTurn rows links points p turn.forth turn.back × IsWalk rows links points (row_at rows turn.back).point rest q

pub record IsSameRow (r s : NeedRow) : Type 0 where
  pub link : r.link ≡ s.link
  pub point : r.point ≡ s.point

-- d more units reach point p
pub record IsPushed (old new : List NeedRow) (old_left new_left : List ℕ) (links points : ℕ → ℕ) (top p d : ℕ) : Type 0 where
  pub length : length new ≡ length old
  pub places : (k : ℕ) → IsSameRow (row_at new k) (row_at old k)
  pub kept : (k : ℕ) → top ≤ links (row_at old k).link → row_at new k ≡ row_at old k
  pub into : (q : ℕ) → into_point new q ≡ into_point old q + cond (p == q) d 0
  pub grown : (k : ℕ) → (row_at old k).amount < (row_at new k).amount → links (row_at old k).link + 1 ≡ points (row_at old k).point
  pub less : (j : ℕ) → number_at new_left j ≤ number_at old_left j
  pub out : (j : ℕ) → number_at new_left j + out_of_link new j ≡ number_at old_left j + out_of_link old j
  pub value : carried new ≡ carried old + d

-- d for each time that k is in a list
abbrev pub times : ℕ → ℕ → List ℕ → ℕ
times d k xs = sum_by (λ x. cond (x == k) d 0) xs

-- d more units go forth over the rows of a path and are taken back over others; the amounts of other rows do not change
abbrev pub IsSent : List NeedRow → List NeedRow → List Turn → ℕ → ℕ → Type 0
IsSent old new turns first d = (k : ℕ) →
    (row_at new k).amount + times d k (map (λ t. t.back) turns) ≡ (row_at old k).amount + times d k (first ∷ map (λ t. t.forth) turns)

pub record IsWithin (rows : List NeedRow) (gain_left : List ℕ) : Type 0 where
  pub links : All (λ r. r.link < length gain_left) rows
  pub gains : (j : ℕ) → number_at gain_left j + out_of_link rows j ≤ greatest_sum

-- part of the amount of row `back` goes to row `forth`, of the same link
pub record IsMoved (old new : List NeedRow) (back forth amount : ℕ) : Type 0 where
  pub length : length new ≡ length old
  pub places : (k : ℕ) → IsSameRow (row_at new k) (row_at old k)
  pub others : (k : ℕ) → ((row_at old k).link ≡ (row_at old back).link → ⊥) → row_at new k ≡ row_at old k
  pub into : (q : ℕ) → into_point new q + cond ((row_at old back).point == q) amount 0 ≡ into_point old q + cond ((row_at old forth).point == q) amount 0
  pub grown : (k : ℕ) → (k ≡ forth → ⊥) → (row_at new k).amount ≤ (row_at old k).amount
  pub moved : (k : ℕ) → (row_at new k).amount + cond (back == k) amount 0 ≡ (row_at old k).amount + cond (forth == k) amount 0
  pub out : (j : ℕ) → out_of_link new j ≡ out_of_link old j
  pub value : carried new ≡ carried old
