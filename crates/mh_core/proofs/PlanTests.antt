-- Why a plan is refused.
use Rattle.std.proofs.Common.{◌≡◌, ◌⊎◌, inl, inr, ℕ, List, subst}
use Rattle.mh_network.specs.Problems.{ProblemData}
use Rattle.mh_cert.specs.Plans.{Matches, plan_tests}
use Rattle.mh_cert.specs.declared.fault.CheckFault.{CheckFault}
use Rattle.mh_cert.specs.declared.plan.Plan.{Plan}
use Rattle.mh_site.specs.Defined.{DefinitionData}
use Rattle.mh_core.specs.declared.record.Record.{Record}
use Rattle.mh_core.specs.declared.record.Record.TheVariants.{Published}
use Rattle.mh_core.specs.declared.refusal.Refusal.{Refusal}
use Rattle.mh_core.specs.declared.refusal.Refusal.TheVariants.{NoMemory, PlanRefused}
use Rattle.mh_core.specs.Limits.{LimitsData}
use Rattle.mh_core.specs.Problems.{IsTaken, problem_at}
use Rattle.mh_core.specs.Rows.{tests_of_record}
use Rattle.mh_base.specs.Tests.{Refuses}

-- out of memory, or the first part of the plan that is wrong
abbrev pub Refused : ProblemData → Plan → Refusal → Type 0
Refused P plan told = (told ≡ NoMemory) ⊎ ((Matches P plan → ⊥) × ((fault : CheckFault) × (told ≡ PlanRefused fault) × Refuses (plan_tests P plan) fault))

plan_is_refused : (d : DefinitionData) (l : LimitsData) (accepted : ℕ) (r : List Record) (n : ℕ) (plan : Plan) (told : Refusal) → IsTaken r n → Refused (problem_at d r n) plan told
    → Refuses (tests_of_record d l accepted r (Published n plan)) told
plan_is_refused d l accepted r n plan told taken (inl wanting) = inr (taken, inl wanting)
plan_is_refused d l accepted r n plan told taken (inr wrong) = inr (taken, inr (inl wrong))

pub plan_refused : (d : DefinitionData) (l : LimitsData) (accepted : ℕ) (r : List Record) (n : ℕ) (plan given : Plan) (P : ProblemData) (told : Refusal) → IsTaken r n → P ≡ problem_at d r n → given ≡ plan
    → Refused P given told → Refuses (tests_of_record d l accepted r (Published n plan)) told
plan_refused d l accepted r n plan given P told taken problem same refused =
    plan_is_refused d l accepted r n plan told taken
    (subst (λ (p : Plan). Refused (problem_at d r n) p told) same (subst (λ (Q : ProblemData). Refused Q given told) problem refused))

-- a plan that matches its problem as they are read
pub plan_matches : (d : DefinitionData) (r : List Record) (n : ℕ) (plan given : Plan) (P : ProblemData) → P ≡ problem_at d r n → given ≡ plan → Matches P given → Matches (problem_at d r n) plan
plan_matches d r n plan given P problem same matching =
    subst (λ (p : Plan). Matches (problem_at d r n) p) same (subst (λ (Q : ProblemData). Matches Q given) problem matching)
