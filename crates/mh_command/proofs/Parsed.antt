-- Work over a JSON value is work over the input that has it.
use Rattle.std.proofs.Common.{◌≡◌, inl, refl, sym, subst, ℕ, List, [], Option, Some, Result, Ok}
use Rattle.std.specs.Io.KnownBytes.{Appends}
use Rattle.serde_json.specs.Data.{Data}
use Rattle.mh_text.specs.Checks.{FailsCheckBy, IsVerdictBy, verdict_line}
use Rattle.mh_json.specs.Gives.{◌>>=◌, outside}
use Rattle.mh_json.specs.Inputs.{json_of_input}
use Rattle.mh_text.specs.Output.{first, run_text, AppendsRun, FailedBy}
use Rattle.mh_text.specs.Planning.{FailsPlanBy, IsPlannedBy}
use Rattle.mh_text.specs.Refused.{refused_behind}
use Rattle.mh_json.specs.Script.{script_of}
use Rattle.mh_json.specs.declared.fault.Fault.{Fault}
use Rattle.mh_json.specs.declared.fault.TextFault.TheVariants.{NoReader}
use Rattle.mh_json.specs.declared.json.script.Script.{Script}
use Rattle.mh_text.specs.declared.lines.verdict.Verdict.{Verdict}
use Rattle.mh_text.specs.declared.streams.planning.PlanOptions.{PlanOptions}
use Rattle.mh_json.specs.declared.refused.RefusedEvent.{RefusedEvent}
use Rattle.mh_text.specs.declared.streams.run.RunOptions.{RunOptions}
use Rattle.mh_stress.specs.Stress.{FailsStressBy, IsScriptBy, IsStressedBy}
use Rattle.mh_stress.specs.declared.stress.StressOptions.{StressOptions}
use Rattle.mh_command.specs.Answers.{FailsOn, WorksOn}
use Rattle.mh_command.specs.Statuses.{status_found}
use Rattle.mh_command.specs.declared.request.Request.TheVariants.{Run, Check, Plan, Stress}
use Rattle.mh_command.proofs.Works.{check_works, plan_works, stress_works}

module _ (bytes : List ℕ) (d : Data) (parsed : json_of_input bytes ≡ Ok d) (old new : Option (List ℕ)) where
  as_input : (P : Result Data Fault → Type 0) → P (Ok d) → P (json_of_input bytes)
  as_input P = subst P (sym parsed)

  pub run_worked : (options : RunOptions) (refused : List RefusedEvent)
      → (script : Script) × (script_of d ≡ Ok script) × AppendsRun options (first script) script.steps refused old new → WorksOn (Run options) (Some bytes) refused old new 0
  run_worked options refused (script, is, (replies, last, run, are, written)) =
      (run_text options (first script).setting replies last, refused_behind 0 replies, inl (script, replies, last, as_input (λ json. (json >>= script_of) ≡ Ok script) is, run, refl), are, written)

  pub check_worked : (verdict : Verdict) (status : ℕ) → status ≡ status_found verdict → IsVerdictBy Ok d verdict → Appends old new (verdict_line verdict) → WorksOn Check (Some bytes) [] old new status
  check_worked verdict status is found written = check_works old new (Some bytes) verdict status is (as_input (λ json. IsVerdictBy (λ (r : Result Data Fault). r) json verdict) found) written

  pub plan_worked : (options : PlanOptions) → (text : List ℕ) × IsPlannedBy Ok options d text × Appends old new text → WorksOn (Plan options) (Some bytes) [] old new 0
  plan_worked options (text, planned, written) = plan_works old new (Some bytes) options (text, as_input (λ json. IsPlannedBy (λ (r : Result Data Fault). r) options json text) planned, written)

  pub stress_worked : (options : StressOptions) → (text : List ℕ) × IsStressedBy Ok options d text × Appends old new text → WorksOn (Stress options) (Some bytes) [] old new 0
  stress_worked options (text, stressed, written) = stress_works old new (Some bytes) options (text, as_input (λ json. IsStressedBy (λ (r : Result Data Fault). r) options json text) stressed, written)

  module _ (B : Type 0) (e : Fault) where
    pub run_failed : (options : RunOptions) → FailedBy Ok options (Some d) old new ⊥ B e → FailsOn (Run options) (Some bytes) old new ⊥ B e
    run_failed options = as_input (λ json. FailedBy (λ (r : Result Data Fault). r) options (Some json) old new ⊥ B e)

    pub check_failed : FailsCheckBy Ok (Some d) old new ⊥ B e → FailsOn Check (Some bytes) old new ⊥ B e
    check_failed = as_input (λ json. FailsCheckBy (λ (r : Result Data Fault). r) (Some json) old new ⊥ B e)

    pub plan_failed : (options : PlanOptions) → FailsPlanBy Ok options (Some d) old new ⊥ B e → FailsOn (Plan options) (Some bytes) old new ⊥ B e
    plan_failed options = as_input (λ json. FailsPlanBy (λ (r : Result Data Fault). r) options (Some json) old new ⊥ B e)

    pub stress_failed : (options : StressOptions) → FailsStressBy Ok options (Some d) old new ⊥ B e → (e ≡ outside NoReader → IsScriptBy Ok d)
        → FailsOn (Stress options) (Some bytes) old new ⊥ B e
    stress_failed options failed script =
        (as_input (λ json. FailsStressBy (λ (r : Result Data Fault). r) options (Some json) old new ⊥ B e) failed, λ is. as_input (λ json. IsScriptBy (λ (r : Result Data Fault). r) json) (script is))
