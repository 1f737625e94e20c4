-- A problem that was read is that of the input, or the fault is its first; and what is written of its plan.
use Rattle.std.proofs.Common.{◌≡◌, ◌⊎◌, inl, inr, refl, sym, ap, ℕ, List, Option, Some, None, Result, Ok, Err, IfOk, IfErr, IfSome}
use Rattle.std.specs.Io.KnownBytes.{Appends}
use Rattle.serde_json.specs.Data.{Data}
use Rattle.mh_network.specs.Problems.{ProblemData}
use Rattle.mh_json.specs.declared.fault.Fault.{Fault}
use Rattle.mh_json.specs.declared.json.problem.ProblemRows.{ProblemRows}
use Rattle.mh_json.specs.Gives.{no_memory, outside}
use Rattle.mh_text.specs.declared.streams.planning.PlanOptions.{PlanOptions}
use Rattle.mh_text.specs.Planning.{IsProblemBy, IsProblemFaultBy, IsProblemInput, IsPlanOf, IsPlanned}
use Rattle.mh_json.specs.Problems.{rows_by, IsMade, IsNotMade, MakesProblem}

made_of : (rows : Result ProblemRows Fault) (p : ProblemData) → MakesProblem rows (Ok p) → (r : ProblemRows) × (rows ≡ Ok r) × IsMade r p
made_of (Ok rows) p made = (rows, refl, made)
made_of (Err first) p made = absurd made

fault_of : (rows : Result ProblemRows Fault) (e : Fault) → MakesProblem rows (Err e) → (e ≡ outside no_memory) ⊎ ((rows ≡ Err e) ⊎ ((r : ProblemRows) × (rows ≡ Ok r) × IsNotMade r e))
fault_of (Ok rows) e (inl memory) = inl memory
fault_of (Ok rows) e (inr fails) = inr (inr (rows, refl, fails))
fault_of (Err first) e (inl memory) = inl memory
fault_of (Err first) e (inr same) = inr (inl (ap Err (sym same)))

module _ {A : Type 0} (json : A → Result Data Fault) (source : A) where
  pub is_problem : (r : Result ProblemData Fault) → MakesProblem (rows_by json None source) r → IfOk r (IsProblemBy json source)
  is_problem (Ok p) made = made_of (rows_by json None source) p made
  is_problem (Err e) made = tt

  pub is_fault : (r : Result ProblemData Fault) → MakesProblem (rows_by json None source) r → IfErr r (λ e. (e ≡ outside no_memory) ⊎ IsProblemFaultBy json source e)
  is_fault (Ok p) made = tt
  is_fault (Err e) made = fault_of (rows_by json None source) e made

-- the lines of a plan are those of the input's problem
pub planned_in : (options : PlanOptions) (input : Option (List ℕ)) (p : ProblemData) (text : List ℕ)
    → IfSome input (λ bytes. IsProblemInput bytes p) → IsPlanOf options p text → IfSome input (λ bytes. IsPlanned options bytes text)
planned_in options None p text known plan = known
planned_in options (Some bytes) p text is plan = (p, is, plan)

-- and where they stand written, the answer does
pub written_in : (options : PlanOptions) (input old new : Option (List ℕ)) (p : ProblemData) (text : List ℕ)
    → IfSome input (λ bytes. IsProblemInput bytes p) → IsPlanOf options p text → Appends old new text
    → IfSome input (λ bytes. (text : List ℕ) × IsPlanned options bytes text × Appends old new text)
written_in options None old new p text known plan written = known
written_in options (Some bytes) old new p text is plan written = (text, (p, is, plan), written)
