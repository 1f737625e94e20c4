-- A problem and then a plan, as they are read and checked.
use Rattle.std.proofs.Common.{◌≡◌, ◌⊎◌, inl, inr, refl, sym, ap, Result, Ok, Err, IfSome, List, ℕ, Option, Some, None}
use Rattle.std.specs.Io.KnownBytes.{Keeps}
use Rattle.serde_json.specs.Data.{Data}
use Rattle.mh_network.specs.Problems.{ProblemData}
use Rattle.mh_cert.specs.declared.plan.Plan.{Plan}
use Rattle.mh_json.specs.declared.fault.Fault.{Fault}
use Rattle.mh_json.specs.declared.json.problem.ProblemRows.{ProblemRows}
use Rattle.mh_text.specs.declared.lines.verdict.Verdict.{Verdict}
use Rattle.mh_text.specs.Checks.{IsFirstOf, IsClaim, IsFound, IsVerdict, IsVerdictBy, IsCutOff, FailsCheckBy}
use Rattle.mh_json.specs.Gives.{no_memory, outside}
use Rattle.mh_json.specs.Problems.{MakesProblem}

-- the first fault of a problem comes first
pub problem_fails : (problem : Result ProblemRows Fault) (read : Result Plan Fault) (e : Fault) → MakesProblem problem (Err e) → (e ≡ outside no_memory) ⊎ IsFirstOf problem read e
problem_fails (Ok rows) read e (inl memory) = inl memory
problem_fails (Ok rows) read e (inr fails) = inr (inr (rows, refl, inl fails))
problem_fails (Err first) read e (inl memory) = inl memory
problem_fails (Err first) read e (inr same) = inr (inl (ap Err (sym same)))

-- the first fault of a plan, where the problem has none
pub plan_fails : (problem : Result ProblemRows Fault) (read : Result Plan Fault) (p : ProblemData) (e : Fault) → MakesProblem problem (Ok p)
    → (e ≡ outside no_memory) ⊎ (read ≡ Err e) → (e ≡ outside no_memory) ⊎ IsFirstOf problem read e
plan_fails (Ok rows) read p e made (inl memory) = inl memory
plan_fails (Ok rows) read p e made (inr same) = inr (inr (rows, refl, inr (made.0, same)))
plan_fails (Err first) read p e made h = absurd made

-- what is found of a claim that an input has
pub found_in : (input : Option (List ℕ)) (p : ProblemData) (plan : Plan) (verdict : Verdict) → IfSome input (λ bytes. IsClaim bytes p plan) → IsFound p plan verdict → IfSome input (λ bytes. IsVerdict bytes verdict)
found_in None p plan verdict known found = known
found_in (Some bytes) p plan verdict claim found = (p, plan, claim, found)

-- a line that was not written to its end
pub unwritten : {A : Type 0} (json : A → Result Data Fault) (source : Option A) (old new : Option (List ℕ)) (ReadHasFailed WriteHasFailed : Type 0) (e : Fault) (verdict : Verdict)
    → IfSome source (λ it. IsVerdictBy json it verdict) → (Keeps old new × (e ≡ outside no_memory)) ⊎ IsCutOff old new WriteHasFailed e verdict
    → FailsCheckBy json source old new ReadHasFailed WriteHasFailed e
unwritten json source old new ReadHasFailed WriteHasFailed e verdict found (inl (kept, memory)) = inl (kept, inl memory)
unwritten json source old new ReadHasFailed WriteHasFailed e verdict found (inr cut) = inr (verdict, found, cut)
