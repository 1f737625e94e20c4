-- The first fault of a value, whose path is known, is that of an input that has this value.
use Rattle.std.proofs.Common.{◌≡◌, ◌⊎◌, ◌∙◌, ℕ, List, Option, Some, None, Result, Ok, Err, codes, inl, inr, refl, ap, sym, subst}
use Rattle.serde_json.specs.Data.{Data}
use Rattle.serde_json.specs.Find.{get}
use Rattle.mh_base.specs.Listed.{first_failing, made_unless}
use Rattle.mh_base.specs.Tests.{Passes, Refuses}
use Rattle.mh_cert.specs.declared.plan.Plan.{Plan}
use Rattle.mh_network.specs.Problems.{ProblemData, problem_of}
use Rattle.mh_network.specs.declared.fault.ProblemFault.{ProblemFault}
use Rattle.mh_network.specs.declared.fault.ProblemFault.TheVariants.{NoMemory, GainTooLarge, CostTooLarge, NeedOutOfRange, NeedsNotAscending, TooManyLinks, TooManyPoints, TooManyNeeds}
use Rattle.mh_json.specs.Claims.{claim_read}
use Rattle.mh_text.specs.Checks.{IsClaimFault}
use Rattle.mh_json.specs.Gives.{◌>>=◌, at_place, no_memory, of_problem, or_fault, outside}
use Rattle.mh_json.specs.Inputs.{json_of_input}
use Rattle.mh_json.specs.Keys.{field_name}
use Rattle.mh_json.specs.Misfits.{fitted}
use Rattle.mh_json.specs.Misreads.{MisreadData, behind, here, under}
use Rattle.mh_text.specs.Output.{IsScriptFault}
use Rattle.mh_text.specs.Planning.{IsProblemFault}
use Rattle.mh_json.specs.Plans.{plan_at, plan_of, plan_of_input}
use Rattle.mh_json.specs.Problems.{decided_tests, misread_in, problem_made, problem_read, row_list_of, rows_at, rows_of, rows_of_input, IsNotMade}
use Rattle.mh_json.specs.Script.{script_of, script_read}
use Rattle.mh_json.specs.Shape.{counts_of, member_of}
use Rattle.mh_json.specs.Versions.{version_of, version_tests}
use Rattle.mh_json.specs.declared.fault.Fault.{Fault}
use Rattle.mh_json.specs.declared.fault.InputFault.TheVariants.{BadShape}
use Rattle.mh_json.specs.declared.fault.TextFault.TheVariants.{Input}
use Rattle.mh_json.specs.declared.json.problem.ProblemRows.{ProblemRows}
use Rattle.mh_json.specs.declared.key.Field.TheVariants as field
use Rattle.mh_json.specs.declared.key.Key.TheVariants.{Member}
use Rattle.mh_json.specs.declared.json.claim.Claim.{Claim}
use Rattle.mh_command.specs.inner.Findings.{event_of, fault_in}
use Rattle.mh_command.proofs.Placed.{AreOutside, IsOutside, both_outside, member_outside, no_err, ok_outside, same_err, script_fails}
use Rattle.mh_json.proofs.ProblemTests.{decided}

-- a fault outside the events, at 0
at_0 : (m : MisreadData) → IsOutside m → fault_in m ≡ record { kind = Input m.fault; at = 0 }
at_0 m outside = ap (λ (n : ℕ). record { kind = Input m.fault; at = n }) outside

-- what could not be read outside the events
fails_at_0 : {A : Type 0} (r : Result A MisreadData) → AreOutside r → (m : MisreadData) → r ≡ Err m → at_place 0 r ≡ Err (fault_in m)
fails_at_0 r outside m is = ap (λ (r : Result _ MisreadData). at_place 0 r) is ∙ ap (λ (e : Fault). Err e) (sym (at_0 m (outside m is)))

rows_outside : (d : Data) → AreOutside (rows_of d)
rows_outside d =
    both_outside (member_of field.Version version_of d) _ (member_outside field.Version (λ rest. refl) version_of (get (field_name field.Version) d)) (λ version.
    both_outside (member_of field.Costs (counts_of 9223372036854775807) d) _ (member_outside field.Costs (λ rest. refl) (counts_of 9223372036854775807) (get (field_name field.Costs) d)) (λ costs.
    both_outside (member_of field.Links (row_list_of version) d) _ (member_outside field.Links (λ rest. refl) (row_list_of version) (get (field_name field.Links) d)) (λ links. ok_outside _)))

-- A problem that links and costs do not make: its fault, or out of memory.
abbrev IsRefused : ProblemRows → Fault → Type 0
IsRefused rows e = (e ≡ outside no_memory) ⊎ IsNotMade rows e

refused_rows : (rows : ProblemRows) (cause : ProblemFault) → Refuses (version_tests rows.version rows.links rows.costs) cause
    → IsRefused rows (record { kind = Input (of_problem cause); at = 0 })
refused_rows rows NoMemory refuses = inl refl
refused_rows rows GainTooLarge refuses = inr (GainTooLarge, refuses, refl)
refused_rows rows CostTooLarge refuses = inr (CostTooLarge, refuses, refl)
refused_rows rows NeedOutOfRange refuses = inr (NeedOutOfRange, refuses, refl)
refused_rows rows NeedsNotAscending refuses = inr (NeedsNotAscending, refuses, refl)
refused_rows rows TooManyLinks refuses = inr (TooManyLinks, refuses, refl)
refused_rows rows TooManyPoints refuses = inr (TooManyPoints, refuses, refl)
refused_rows rows TooManyNeeds refuses = inr (TooManyNeeds, refuses, refl)

module _ (rows : ProblemRows) where
  abbrev problem : ProblemData
  problem = problem_of rows.links rows.costs

  abbrev of_told : Option ProblemFault → Result ProblemData MisreadData
  of_told told = fitted (misread_in rows) (made_unless problem told)

  not_made : (told : Option ProblemFault) → first_failing (decided_tests rows) ≡ told → (m : MisreadData) → of_told told ≡ Err m
      → IsRefused rows (record { kind = Input m.fault; at = 0 })
  not_made None failing m is = absurd (no_err _ m is)
  not_made (Some cause) failing m is =
      subst (λ (m : MisreadData). IsRefused rows (record { kind = Input m.fault; at = 0 })) (same_err (misread_in rows cause) m is)
      (refused_rows rows cause ((decided rows).refused cause failing))

  made : (told : Option ProblemFault) → first_failing (decided_tests rows) ≡ told → (p : ProblemData) → of_told told ≡ Ok p
      → Passes (version_tests rows.version rows.links rows.costs)
  made None failing p is = (decided rows).passed failing
  made (Some cause) failing p is = absurd (no_err p _ (sym is))

-- the fault of a problem, at 0
abbrev IsProblemOf : Result ProblemRows MisreadData → Fault → Type 0
IsProblemOf rows e = (e ≡ outside no_memory) ⊎ (at_place 0 rows ≡ Err e) ⊎ ((r : ProblemRows) × (rows ≡ Ok r) × IsNotMade r e)

of_refused : (rows : Result ProblemRows MisreadData) (r : ProblemRows) → rows ≡ Ok r → (e : Fault) → IsRefused r e → IsProblemOf rows e
of_refused rows r is e (inl memory) = inl memory
of_refused rows r is e (inr not) = inr (inr (r, is, not))

problem_of_rows : (rows : Result ProblemRows MisreadData) (m : MisreadData) → (rows >>= λ r. fitted (misread_in r) (problem_made r)) ≡ Err m
    → IsProblemOf rows (record { kind = Input m.fault; at = 0 })
problem_of_rows (Ok r) m is = of_refused (Ok r) r refl _ (not_made r (first_failing (decided_tests r)) refl m is)
problem_of_rows (Err e) m is = inr (inl (ap (λ (m : MisreadData). Err (record { kind = Input m.fault; at = 0 })) (same_err e m is)))

-- no fault of links and costs stands among events
cause_outside : (rows : ProblemRows) (cause : ProblemFault) → IsOutside (misread_in rows cause)
cause_outside rows NoMemory = refl
cause_outside rows GainTooLarge = refl
cause_outside rows CostTooLarge = refl
cause_outside rows NeedOutOfRange = refl
cause_outside rows NeedsNotAscending = refl
cause_outside rows TooManyLinks = refl
cause_outside rows TooManyPoints = refl
cause_outside rows TooManyNeeds = refl

problem_outside : (d : Data) → AreOutside (problem_read d)
problem_outside d = both_outside (rows_of d) _ (rows_outside d) (λ rows. caused_outside rows (first_failing (decided_tests rows)))
  where
    caused_outside : (rows : ProblemRows) (told : Option ProblemFault) → AreOutside (of_told rows told)
    caused_outside rows None m is = ok_outside _ m is
    caused_outside rows (Some cause) m is =
        ap (λ (m : MisreadData). event_of m.path) (sym (same_err (misread_in rows cause) m is)) ∙ cause_outside rows cause

module _ (bytes : List ℕ) (d : Data) (json : json_of_input bytes ≡ Ok d) where
  pub script_fault : (m : MisreadData) → script_read d ≡ Err m → IsScriptFault bytes (fault_in m)
  script_fault m is = ap (λ (j : Result Data Fault). j >>= script_of) json ∙ script_fails d m is

  rows_are : (key : Option (List ℕ)) → rows_of_input key bytes ≡ at_place 0 (rows_at key d)
  rows_are key = ap (λ (j : Result Data Fault). j >>= λ value. at_place 0 (rows_at key value)) json

  plan_is : (key : Option (List ℕ)) → plan_of_input key bytes ≡ at_place 0 (plan_at key d)
  plan_is key = ap (λ (j : Result Data Fault). j >>= λ value. at_place 0 (plan_at key value)) json

  read_rows : (key : Option (List ℕ)) (rows : ProblemRows) → rows_at key d ≡ Ok rows → rows_of_input key bytes ≡ Ok rows
  read_rows key rows is = rows_are key ∙ ap (λ (r : Result ProblemRows MisreadData). at_place 0 r) is

  problem_fault_at_0 : (e : Fault) → IsProblemOf (rows_of d) e → (e ≡ outside no_memory) ⊎ IsProblemFault bytes e
  problem_fault_at_0 e (inl memory) = inl memory
  problem_fault_at_0 e (inr (inl unread)) = inr (inl (rows_are None ∙ unread))
  problem_fault_at_0 e (inr (inr (rows, read, not))) = inr (inr (rows, read_rows None rows read, not))

  pub problem_fault : (m : MisreadData) → problem_read d ≡ Err m → (fault_in m ≡ outside no_memory) ⊎ IsProblemFault bytes (fault_in m)
  problem_fault m is =
      problem_fault_at_0 (fault_in m) (subst (IsProblemOf (rows_of d)) (sym (at_0 m (problem_outside d m is))) (problem_of_rows (rows_of d) m is))

  abbrev problem_key : Option (List ℕ)
  problem_key = Some (codes "problem")

  abbrev plan_key : Option (List ℕ)
  plan_key = Some (codes "plan")

  -- the fault of the problem of a claim
  first_of_problem : (e : Fault) → IsProblemOf (rows_at problem_key d) e → (e ≡ outside no_memory) ⊎ IsClaimFault bytes e
  first_of_problem e (inl memory) = inl memory
  first_of_problem e (inr (inl unread)) = inr (inl (rows_are problem_key ∙ unread))
  first_of_problem e (inr (inr (rows, read, not))) = inr (inr (rows, read_rows problem_key rows read, inl not))

  abbrev problem_in : Option Data → Result ProblemData MisreadData
  problem_in o = or_fault BadShape o >>= λ part. under (Member field.Problem) (problem_read part)

  abbrev rows_in : Option Data → Result ProblemRows MisreadData
  rows_in o = or_fault BadShape o >>= rows_of

  under_problem : (part : Data) (r : Result ProblemData MisreadData) → problem_read part ≡ r → (m : MisreadData) → under (Member field.Problem) r ≡ Err m
      → IsProblemOf (rows_of part) (record { kind = Input m.fault; at = 0 })
  under_problem part (Ok p) read m is = absurd (no_err p m is)
  under_problem part (Err e) read m is =
      subst (λ (m : MisreadData). IsProblemOf (rows_of part) (record { kind = Input m.fault; at = 0 })) (same_err (behind (Member field.Problem) e) m is)
      (problem_of_rows (rows_of part) e read)

  problem_in_fails : (o : Option Data) (m : MisreadData) → problem_in o ≡ Err m → IsProblemOf (rows_in o) (record { kind = Input m.fault; at = 0 })
  problem_in_fails None m is = inr (inl (ap (λ (m : MisreadData). Err (record { kind = Input m.fault; at = 0 })) (same_err (here BadShape) m is)))
  problem_in_fails (Some part) m is = under_problem part (problem_read part) refl m is

  -- the rows of a problem that was read pass its tests
  abbrev IsPassed : Result ProblemRows MisreadData → Type 0
  IsPassed rows = (r : ProblemRows) × (rows ≡ Ok r) × Passes (version_tests r.version r.links r.costs)

  of_problem_read : (rows : Result ProblemRows MisreadData) (p : ProblemData) → (rows >>= λ r. fitted (misread_in r) (problem_made r)) ≡ Ok p → IsPassed rows
  of_problem_read (Ok r) p is = (r, refl, made r (first_failing (decided_tests r)) refl p is)
  of_problem_read (Err e) p is = absurd (no_err p e (sym is))

  under_passed : (part : Data) (r : Result ProblemData MisreadData) → problem_read part ≡ r → (p : ProblemData) → under (Member field.Problem) r ≡ Ok p → IsPassed (rows_of part)
  under_passed part (Ok q) read p is = of_problem_read (rows_of part) q read
  under_passed part (Err e) read p is = absurd (no_err p _ (sym is))

  problem_in_passes : (o : Option Data) (p : ProblemData) → problem_in o ≡ Ok p → IsPassed (rows_in o)
  problem_in_passes None p is = absurd (no_err p _ (sym is))
  problem_in_passes (Some part) p is = under_passed part (problem_read part) refl p is

  -- the fault of the plan of a claim
  under_plan : (r : Result Plan MisreadData) (m : MisreadData) → under (Member field.Plan) r ≡ Err m → at_place 0 r ≡ Err (record { kind = Input m.fault; at = 0 })
  under_plan (Ok plan) m is = absurd (no_err plan m is)
  under_plan (Err e) m is = ap (λ (m : MisreadData). Err (record { kind = Input m.fault; at = 0 })) (same_err (behind (Member field.Plan) e) m is)

  plan_in_fails : (o : Option Data) (m : MisreadData) → (or_fault BadShape o >>= λ part. under (Member field.Plan) (plan_of part)) ≡ Err m
      → at_place 0 (or_fault BadShape o >>= plan_of) ≡ Err (record { kind = Input m.fault; at = 0 })
  plan_in_fails None m is = ap (λ (m : MisreadData). Err (record { kind = Input m.fault; at = 0 })) (same_err (here BadShape) m is)
  plan_in_fails (Some part) m is = under_plan (plan_of part) m is

  abbrev with_plan : ProblemData → Result Plan MisreadData → Result Claim MisreadData
  with_plan p r = r >>= λ plan. Ok (record { problem = p; plan = plan })

  plan_fails : (p : ProblemData) (r : Result Plan MisreadData) (m : MisreadData) → with_plan p r ≡ Err m → r ≡ Err m
  plan_fails p (Ok plan) m is = absurd (no_err _ m is)
  plan_fails p (Err e) m is = ap (λ (m : MisreadData). Err m) (same_err e m is)

  first_of_plan : IsPassed (rows_at problem_key d) → (e : Fault) → at_place 0 (plan_at plan_key d) ≡ Err e → IsClaimFault bytes e
  first_of_plan (rows, read, passes) e unread = inr (rows, read_rows problem_key rows read, inr (passes, plan_is plan_key ∙ unread))

  abbrev plan_read : Result Plan MisreadData
  plan_read = member_of field.Plan plan_of d

  of_parts : (r : Result ProblemData MisreadData) → member_of field.Problem problem_read d ≡ r → (m : MisreadData) → (r >>= λ p. with_plan p plan_read) ≡ Err m
      → (record { kind = Input m.fault; at = 0 } ≡ outside no_memory) ⊎ IsClaimFault bytes (record { kind = Input m.fault; at = 0 })
  of_parts (Ok p) read m is =
      inr (first_of_plan (problem_in_passes (get (field_name field.Problem) d) p read) _ (plan_in_fails (get (field_name field.Plan) d) m (plan_fails p plan_read m is)))
  of_parts (Err e) read m is = first_of_problem _ (problem_in_fails (get (field_name field.Problem) d) m (read ∙ ap (λ (m : MisreadData). Err m) (same_err e m is)))

  claim_outside : AreOutside (claim_read d)
  claim_outside =
      both_outside (member_of field.Problem problem_read d) _ (member_outside field.Problem (λ rest. refl) problem_read (get (field_name field.Problem) d)) (λ problem.
      both_outside (member_of field.Plan plan_of d) _ (member_outside field.Plan (λ rest. refl) plan_of (get (field_name field.Plan) d)) (λ plan. ok_outside _))

  pub claim_fault : (m : MisreadData) → claim_read d ≡ Err m → (fault_in m ≡ outside no_memory) ⊎ IsClaimFault bytes (fault_in m)
  claim_fault m is =
      subst (λ (e : Fault). (e ≡ outside no_memory) ⊎ IsClaimFault bytes e) (sym (at_0 m (claim_outside m is)))
      (of_parts (member_of field.Problem problem_read d) refl m is)
