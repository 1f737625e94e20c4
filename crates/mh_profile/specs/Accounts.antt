-- Accounts of a flow: what each link keeps, and what each point gets.
use Rattle.std.specs.Prelude.{ℕ, ◌≡◌, ◌+◌, ◌-◌, ◌==◌, List, cond, filter, length, slice_index_or}
use Rattle.std.specs.List.{sum_by}
use Rattle.mh_network.specs.Problems.{ProblemData, gain_of, cost_of, needs_point}
use Rattle.mh_network.specs.Selection.{Row, member, from_link, into_charge, into_point}
use Rattle.mh_cert.specs.declared.plan.Plan.{Plan}
use Rattle.mh_profile.specs.declared.accounts.Account.{Account}

-- the rows of a link
abbrev pub rows_of : List Row → ℕ → List Row
rows_of flow j = filter (λ r. r.0 == j) flow

-- what a link keeps of its gain
abbrev pub left_of : ProblemData → Plan → ℕ → ℕ
left_of P plan j = gain_of P j - (from_link plan.flow j + into_charge plan.charges j)

-- what the selected links that need a point keep together
abbrev pub left_around : ProblemData → Plan → ℕ → ℕ
left_around P plan p = sum_by (λ j. cond (needs_point P j p) (left_of P plan j) 0) plan.links

-- the slack of a point: by how much its cost may rise if it is selected, or fall if it is not, while the links of the plan remain optimal
abbrev pub slack_of : ProblemData → Plan → ℕ → ℕ
slack_of P plan p = cond (member plan.points p) (left_around P plan p) (cost_of P p - into_point plan.flow p)

-- the account of a plan: what each point gets, and what the selected links that need it keep
pub record IsAccount (P : ProblemData) (plan : Plan) (a : Account) : Type 0 where
  pub counted : length a.gets ≡ length P.costs
  pub counted_too : length a.leaves ≡ length P.costs
  pub gets : (p : ℕ) → slice_index_or a.gets p 0 ≡ into_point plan.flow p
  pub leaves : (p : ℕ) → slice_index_or a.leaves p 0 ≡ left_around P plan p
