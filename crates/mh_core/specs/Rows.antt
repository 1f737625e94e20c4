-- The tests of a record.
use Rattle.std.specs.Prelude.{◌≡◌, ℕ, ◌+◌, ◌<◌, ◌≤◌, List, length}
use Rattle.std.specs.List.{All}
use Rattle.mh_tree.specs.Limits.{point_bound, site_bound}
use Rattle.mh_network.specs.Problems.{sum_of_gains}
use Rattle.mh_cert.specs.Plans.{Matches, plan_tests}
use Rattle.mh_cert.specs.declared.fault.CheckFault.{CheckFault}
use Rattle.mh_cert.specs.declared.plan.Plan.{Plan}
use Rattle.mh_site.specs.Defined.{DefinitionData, site_at}
use Rattle.mh_site.specs.Invoking.{InvokesLower, InvokesOfType}
use Rattle.mh_site.specs.Links.{links}
use Rattle.mh_core.specs.declared.record.Record.{Record}
use Rattle.mh_core.specs.declared.record.Record.TheVariants.{Flushed, Targeted, Invalidated, Snapped, Published, Installed}
use Rattle.mh_core.specs.declared.refusal.Refusal.{Refusal}
use Rattle.mh_core.specs.declared.refusal.Refusal.TheVariants.{NoSite, WrongType, NoPoint, WrongLevel, HistoryFull, NoSnapshot, NoPlan, PlanRefused, OldPlan, TotalTooLarge, GainTooLarge}
use Rattle.mh_core.specs.Installations.{IsPublished}
use Rattle.mh_core.specs.Limits.{LimitsData, most_snapshots, most_plans}
use Rattle.mh_network.specs.Limits.{greatest_sum}
use Rattle.mh_core.specs.Problems.{IsTaken, problem_after, problem_at}
use Rattle.mh_core.specs.Records.{total, snapshots, plans, hits_of}
use Rattle.mh_base.specs.Tests.{Tests, test, only, Refuses}
use Rattle.mh_core.specs.Refusals.{memory_last, take_memory}

-- no total would exceed the limit
abbrev pub TotalsFit : DefinitionData → LimitsData → List Record → List (ℕ × ℕ) → Type 0
TotalsFit d l r hits = (j : ℕ) → j < length (links d) → total r j + hits_of hits j ≤ l.total

-- the refusal of a plan that does not match: it reports the first part that is wrong
abbrev pub tells_fault : DefinitionData → List Record → ℕ → Plan → Refusal → Type 0
tells_fault d r n plan told = (fault : CheckFault) × (told ≡ PlanRefused fault) × Refuses (plan_tests (problem_at d r n) plan) fault

-- there is room for one more published plan after these records, given that this many events were accepted
abbrev pub HasRoomForPlan : LimitsData → ℕ → List Record → Type 0
HasRoomForPlan l accepted r = (accepted < l.history) × (plans r < most_plans)

-- the tests of a record after others, in order, given that this many events were accepted
abbrev pub tests_of_record : DefinitionData → LimitsData → ℕ → List Record → Record → Tests Refusal
tests_of_record d l accepted r (Flushed w hits) =
    test (accepted < l.history) (only HistoryFull)
    (test (TotalsFit d l r hits) (only TotalTooLarge) memory_last)
tests_of_record d l accepted r (Targeted s tree) =
    test ((s < length d.sites) × (site_bound tree.tree ≤ length d.sites)) (only NoSite)
    (test ((tree.signature ≡ (site_at d s).method_type) × InvokesOfType d.sites tree.tree) (only WrongType)
    (test (point_bound tree.tree ≤ length d.points) (only NoPoint)
    (test (InvokesLower d.sites (site_at d s).level tree.tree) (only WrongLevel)
    (test (accepted < l.history) (only HistoryFull) memory_last))))
tests_of_record d l accepted r (Invalidated points) =
    test (All (λ p. p < length d.points) points) (only NoPoint)
    (test (accepted < l.history) (only HistoryFull) memory_last)
tests_of_record d l accepted r Snapped =
    test ((accepted < l.history) × (snapshots r < most_snapshots)) (only HistoryFull)
    (test (sum_of_gains (problem_after d r) ≤ greatest_sum) (only GainTooLarge) memory_last)
tests_of_record d l accepted r (Published n plan) =
    test (IsTaken r n) (only NoSnapshot)
    (take_memory
    (test (Matches (problem_at d r n) plan) (tells_fault d r n plan)
    (test (HasRoomForPlan l accepted r) (only HistoryFull) memory_last)))
tests_of_record d l accepted r (Installed m) =
    test (IsPublished r m) (only NoPlan)
    (test (m ≡ plans r) (only (OldPlan (plans r)))
    (test (accepted < l.history) (only HistoryFull) memory_last))
