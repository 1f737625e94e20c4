-- Plans whose points have other costs.
use Rattle.std.specs.Prelude.{ℕ, ◌+◌, ◌≤◌, ◌<◌, cond, length, slice_set}
use Rattle.mh_network.specs.Problems.{ProblemData, cost_of}
use Rattle.mh_network.specs.Selection.{IsBest, member}
use Rattle.mh_cert.specs.declared.plan.Plan.{Plan}
use Rattle.mh_profile.specs.Accounts.{slack_of}

-- the problem in which a point has this cost
abbrev pub with_cost : ProblemData → ℕ → ℕ → ProblemData
with_cost P p c = record { links = P.links; costs = slice_set P.costs p c }

-- a cost of a point that rose by at most its slack if it is selected, or fell by at most its slack if it is not
abbrev pub IsWithinSlack : ProblemData → Plan → ℕ → ℕ → Type 0
IsWithinSlack P plan p c =
    cond (member plan.points p) ((cost_of P p ≤ c) × (c ≤ cost_of P p + slack_of P plan p)) ((c ≤ cost_of P p) × (cost_of P p ≤ c + slack_of P plan p))

-- the links of a plan are optimal if one point has such a cost
abbrev pub StaysBest : ProblemData → Plan → Type 0
StaysBest P plan = (p c : ℕ) → p < length P.costs → IsWithinSlack P plan p c → IsBest (with_cost P p c) (member plan.links)
