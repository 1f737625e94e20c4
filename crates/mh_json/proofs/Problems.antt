-- What the making of a problem refuses, as a fault of the input.
use Rattle.std.proofs.Common.{◌≡◌, ◌⊎◌, ◌∙◌, List, inl, inr, Ok, Err, ap, sym, refl}
use Rattle.serde_json.specs.Data.{Data}
use Rattle.mh_base.specs.Listed.{made_unless}
use Rattle.mh_network.specs.declared.fault.ProblemFault.{ProblemFault}
use Rattle.mh_network.specs.declared.fault.ProblemFault.TheVariants.{NoMemory, GainTooLarge, CostTooLarge, NeedOutOfRange, NeedsNotAscending, TooManyLinks, TooManyPoints, TooManyNeeds}
use Rattle.mh_base.specs.Tests.{Passes, Refuses}
use Rattle.mh_network.specs.Problems.{ProblemData, problem_of}
use Rattle.mh_json.specs.declared.fault.Fault.{Fault}
use Rattle.mh_json.specs.declared.fault.InputFault.TheVariants as input
use Rattle.mh_json.specs.declared.fault.TextFault.TheVariants as text
use Rattle.mh_json.specs.declared.json.problem.ProblemRows.{ProblemRows}
use Rattle.mh_json.specs.Gives.{of_problem, no_memory, outside}
use Rattle.mh_json.specs.Misfits.{keys_in_problem, of_problem_misfit}
use Rattle.mh_json.specs.Misreads.{MisreadData}
use Rattle.mh_json.specs.declared.key.Key.{Key}
use Rattle.mh_network.specs.declared.place.ProblemMisfit.{ProblemMisfit}
use Rattle.mh_json.specs.Problems.{misread_in, place_in, rows_of, problem_made, problem_read, IsMade, IsNotMade}
use Rattle.mh_json.specs.Versions.{version_tests}
use Rattle.mh_json.proofs.ProblemTests.{decided}

module _ (rows : ProblemRows) where
  abbrev IsCause : ProblemFault → Type 0
  IsCause cause = Refuses (version_tests rows.version rows.links rows.costs) cause ⊎ (Passes (version_tests rows.version rows.links rows.costs) × (cause ≡ NoMemory))

  of_tests : (cause : ProblemFault) (e : Fault) → e ≡ record { kind = text.Input (input.Problem cause); at = 0 } → (cause ≡ NoMemory → ⊥) → IsCause cause → (e ≡ outside no_memory) ⊎ IsNotMade rows e
  of_tests cause e is other (inl refuses) = inr (cause, refuses, is)
  of_tests cause e is other (inr (passes, memory)) = absurd (other memory)

  -- it is memory, or the first test that fails
  pub not_made : (cause : ProblemFault) (e : Fault) → e ≡ record { kind = text.Input (of_problem cause); at = 0 } → IsCause cause → (e ≡ outside no_memory) ⊎ IsNotMade rows e
  not_made NoMemory e is refused = inl is
  not_made GainTooLarge e is refused = of_tests GainTooLarge e is (λ same. cc) refused
  not_made CostTooLarge e is refused = of_tests CostTooLarge e is (λ same. cc) refused
  not_made NeedOutOfRange e is refused = of_tests NeedOutOfRange e is (λ same. cc) refused
  not_made NeedsNotAscending e is refused = of_tests NeedsNotAscending e is (λ same. cc) refused
  not_made TooManyLinks e is refused = of_tests TooManyLinks e is (λ same. cc) refused
  not_made TooManyPoints e is refused = of_tests TooManyPoints e is (λ same. cc) refused
  not_made TooManyNeeds e is refused = of_tests TooManyNeeds e is (λ same. cc) refused

module _ (d : Data) (rows : ProblemRows) where
  abbrev problem : ProblemData
  problem = problem_of rows.links rows.costs

  -- links and costs that pass make their problem
  pub problem_is_read : (p : ProblemData) → rows_of d ≡ Ok rows → IsMade rows p → problem_read d ≡ Ok p
  problem_is_read p read is =
      let made : problem_made rows ≡ Ok problem = ap (made_unless problem) ((decided rows).passes is.0) in
      rw (read, made, is.1) refl

  -- and else the fault is that of the first test that fails, at its place
  pub problem_is_refused : (misfit : ProblemMisfit) (m : MisreadData) → rows_of d ≡ Ok rows → IsCause rows misfit.fault
      → (misfit.fault ≡ NoMemory) ⊎ (keys_in_problem misfit.place ≡ place_in rows.links rows.costs misfit.fault)
      → (m.fault ≡ input.NoMemory) ⊎ (m ≡ of_problem_misfit misfit) → (m.fault ≡ input.NoMemory) ⊎ (problem_read d ≡ Err m)
  problem_is_refused misfit m read cause stands (inl memory) = inl memory
  problem_is_refused misfit m read (inl refuses) (inl wanting) (inr is) = inl (ap (λ (m : MisreadData). m.fault) is ∙ ap of_problem wanting)
  problem_is_refused misfit m read (inr memory) stands (inr is) = inl (ap (λ (m : MisreadData). m.fault) is ∙ ap of_problem memory.1)
  problem_is_refused misfit m read (inl refuses) (inr stands) (inr is) =
      let refused : problem_made rows ≡ Err misfit.fault = ap (made_unless problem) ((decided rows).refuses misfit.fault refuses) in
      let told : Err (misread_in rows misfit.fault) ≡ Err m = ap (λ (path : List Key). Err (record { fault = of_problem misfit.fault; path = path })) (sym stands) ∙ ap Err (sym is) in
      inr ((rw (read, refused) refl) ∙ told)
