-- The plans that match a problem, and the reasons to refuse others.
use Rattle.std.specs.Prelude.{ℕ, ◌+◌, ◌≡◌, ◌≤◌, ◌<◌, List, All, AllPairs, length, true, pos, ◌-ℤ◌, codes}
use Rattle.std.specs.List.Sorted.{IsStrictlyIncreasing}
use Rattle.mh_network.specs.Problems.{ProblemData, link_at, gain_of, charge_of, cost_of, needs_point, sum_of_gains}
use Rattle.mh_network.specs.Selection.{Row, Charge, IsBefore, IsChargeBefore, member, union_of_needs, from_link, into_charge, into_point, worth, value_of}
use Rattle.mh_base.specs.Tests.{Tests, no_more, test, only, nothing, Passes}
use Rattle.mh_cert.specs.declared.plan.Plan.{Plan}
use Rattle.mh_cert.specs.declared.fault.CheckFault.{CheckFault}
use Rattle.mh_cert.specs.declared.fault.CheckFault.TheVariants.{LinkNotEligible, LinksNotAscending, PointsNotUnion, BadFlowRow, GainExceeded, CostExceeded, ValueWrong, FlowNotMatching, NoMemory, ChargeExceeded}

abbrev pub fault_number : CheckFault → ℕ
fault_number LinkNotEligible = 1
fault_number LinksNotAscending = 2
fault_number PointsNotUnion = 3
fault_number BadFlowRow = 4
fault_number GainExceeded = 5
fault_number CostExceeded = 6
fault_number ValueWrong = 7
fault_number FlowNotMatching = 8
fault_number NoMemory = 9
fault_number ChargeExceeded = 10

-- the number and the name
abbrev pub check_fault_text : CheckFault → List ℕ
check_fault_text LinkNotEligible = codes "1 LinkNotEligible"
check_fault_text LinksNotAscending = codes "2 LinksNotAscending"
check_fault_text PointsNotUnion = codes "3 PointsNotUnion"
check_fault_text BadFlowRow = codes "4 BadFlowRow"
check_fault_text GainExceeded = codes "5 GainExceeded"
check_fault_text CostExceeded = codes "6 CostExceeded"
check_fault_text ValueWrong = codes "7 ValueWrong"
check_fault_text FlowNotMatching = codes "8 FlowNotMatching"
check_fault_text NoMemory = codes "9 NoMemory"
check_fault_text ChargeExceeded = codes "10 ChargeExceeded"

-- the points that the links need, ascending
pub record IsUnion (P : ProblemData) (links points : List ℕ) : Type 0 where
  pub ascending : IsStrictlyIncreasing points
  pub same : (p : ℕ) → member points p ≡ union_of_needs P (member links) p

-- positive amounts over needs, ascending by link and then point
pub record AreRows (P : ProblemData) (rows : List Row) : Type 0 where
  pub needed : All (λ r. needs_point P r.0 r.1 ≡ true) rows
  pub positive : All (λ r. 0 < r.2) rows
  pub ordered : AllPairs IsBefore rows

-- positive amounts of links' charges, ascending by link
pub record AreCharges (P : ProblemData) (charges : List Charge) : Type 0 where
  pub listed : All (λ r. r.0 < length P.links) charges
  pub positive : All (λ r. 0 < r.1) charges
  pub ordered : AllPairs IsChargeBefore charges

-- eligible links, the points that they need, a flow, and the worth of the links, which is also what the flow leaves of all gains: the parts
-- of a matching plan, in the order in which they are tested
abbrev pub plan_tests : ProblemData → Plan → Tests CheckFault
plan_tests P plan =
    test (All (λ j. (link_at P j).eligible ≡ true) plan.links) (only LinkNotEligible)
    (test (IsStrictlyIncreasing plan.links) (only LinksNotAscending)
    (test (IsUnion P plan.links plan.points) (only PointsNotUnion)
    (test (AreRows P plan.flow × AreCharges P plan.charges) (only BadFlowRow)
    (test ((j : ℕ) → from_link plan.flow j + into_charge plan.charges j ≤ gain_of P j) (only GainExceeded)
    (test ((p : ℕ) → into_point plan.flow p ≤ cost_of P p) (only CostExceeded)
    (test ((j : ℕ) → into_charge plan.charges j ≤ charge_of P j) (only ChargeExceeded)
    (test (plan.value ≡ worth P (member plan.links)) (only ValueWrong)
    (test (plan.value ≡ pos (sum_of_gains P) -ℤ pos (value_of plan.flow plan.charges)) (only FlowNotMatching) (no_more nothing)))))))))

-- all parts hold
abbrev pub Matches : ProblemData → Plan → Type 0
Matches P plan = Passes (plan_tests P plan)
