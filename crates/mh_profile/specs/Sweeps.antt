-- What a sweep of all scales of the costs says of the links of a profile.
use Rattle.std.specs.Prelude.{ℕ, ◌≡◌, ◌≤◌, ◌<◌, ◌+◌, ◌*◌, ◌/◌, ◌%◌, Bool, true, false, List, [], ◌++◌, codes, cond, length, Option, Some, None, IsSomeAnd}
use Rattle.std.specs.Fmt.{decimal}
use Rattle.mh_network.specs.declared.fault.ProblemFault.TheVariants.{GainTooLarge}
use Rattle.mh_network.specs.Limits.{greatest_sum}
use Rattle.mh_network.specs.Problems.{ProblemData, link_at, sum_of_gains}
use Rattle.mh_network.specs.Scales.{IsUntil}
use Rattle.mh_sweep.specs.declared.sweep.Sweep.{Sweep}
use Rattle.mh_sweep.specs.Sweeps.{IsMost, number_at}
use Rattle.mh_json.specs.declared.fault.Fault.{Fault}
use Rattle.mh_json.specs.declared.fault.InputFault.TheVariants.{Problem}
use Rattle.mh_json.specs.declared.fault.TextFault.TheVariants.{Input}
use Rattle.mh_profile.specs.declared.named.NamedProblem.{NamedProblem}

-- the sweep of a problem: up to which scale it goes, and up to which scale each link is selected, at most one thousandth past it
pub record IsSweep (P : ProblemData) (s : Sweep) : Type 0 where
  pub gains : 1000 * sum_of_gains P ≤ greatest_sum
  pub most : IsMost P s.most
  pub until : IsUntil P s.most (number_at s.until)
  pub bound : (j : ℕ) → number_at s.until j ≤ s.most + 1
  pub count : length s.until ≡ length P.links

-- the sweep of a problem, if it is asked for
abbrev pub IsSweepWhere : Bool → ProblemData → Option Sweep → Type 0
IsSweepWhere true P sweep = IsSomeAnd sweep (IsSweep P)
IsSweepWhere false P sweep = sweep ≡ None

-- a problem whose gains are too large for the sweep that is asked for, which is a fault of its last line
abbrev pub IsNotSwept : Bool → NamedProblem → Fault → Type 0
IsNotSwept asked n e =
    (asked ≡ true) × (greatest_sum < 1000 * sum_of_gains n.problem) × (e ≡ record { kind = Input (Problem GainTooLarge); at = n.last })

-- a number of thousandths as a decimal with three digits after the point
abbrev pub thousandths_text : ℕ → List ℕ
thousandths_text n = decimal (n / 1000) ++ (codes "." ++ (decimal (n / 100 % 10) ++ (decimal (n / 10 % 10) ++ decimal (n % 10))))

-- up to which scale a sweep goes
abbrev pub swept_text : Option Sweep → List ℕ
swept_text None = []
swept_text (Some s) = codes " sweep " ++ thousandths_text s.most

-- up to which scale a link is selected, unless it is not eligible
abbrev pub until_text : ProblemData → Option Sweep → ℕ → List ℕ
until_text P None j = []
until_text P (Some s) j = cond (link_at P j).eligible (codes " until " ++ thousandths_text (number_at s.until j)) []
