-- Runs, and the bytes that they write.
use Rattle.std.proofs.Common.{◌≡◌, ℕ, ◌+◌, ◌<◌, List, [], ◌∷◌, ◌++◌, length, take, get_or, Option, Some, None, Result, Ok, Err, Bool, true, false, refl, sym, ap, ◌∙◌, subst, inl, inr, MatchResult, arith}
use Rattle.std.proofs.lemmas.List.{append-nil, append_assoc, take_more, flat_map_more}
use Rattle.std.proofs.Math.Seq.{take-length}
use Rattle.std.proofs.lemmas.Str.{is_utf8-from_IsUtf8, IsUtf8-from_is_utf8}
use Rattle.std.proofs.KnownBytes.{Appends-trans}
use Rattle.std.specs.Io.KnownBytes.{Appends}
use Rattle.std.specs.Str.{IsUtf8, is_utf8}
use Rattle.serde_json.specs.Data.{Data}
use Rattle.serde_json.specs.Read.{read}
use Rattle.mh_json.specs.declared.fault.InputFault.TheVariants as fault
use Rattle.mh_core.specs.declared.event.Event.{Event}
use Rattle.mh_text.specs.Lines.{line_of, lines_of}
use Rattle.mh_core.specs.Legal.{Setting, MachineState}
use Rattle.mh_site.specs.Defined.{DefinitionData}
use Rattle.mh_json.specs.declared.fault.Fault.{Fault}
use Rattle.mh_json.specs.declared.json.script.Script.{Script}
use Rattle.mh_json.specs.declared.json.step.Step.{Step}
use Rattle.mh_text.specs.Bytes.{AppendsFront, HasFailed}
use Rattle.mh_json.specs.Inputs.{json_in}
use Rattle.mh_json.specs.Misreads.{here}
use Rattle.mh_text.specs.Refused.{AreRefused, refusal_in, refused_at, refused_behind}
use Rattle.mh_json.specs.declared.refused.RefusedEvent.{RefusedEvent}
use Rattle.mh_text.specs.Steps.{Told, Takes, Run}
use Rattle.mh_text.specs.declared.streams.run.RunOptions.{RunOptions}
use Rattle.mh_text.specs.Output.{first, report_where, with_report, AppendsRun, EndsIn, EndsEarly, FailsReport, IsEnd, RunsTo}
use Rattle.mh_text.specs.Report.{report_text}

run_push : (x : Setting) (h : List Event) (steps : List Step) (replies : List Told) (mid : List Event) (step : Step) (told : Told) (new : List Event)
    → Run x h steps replies mid → Takes x mid step told new → Run x h (steps ++ step ∷ []) (replies ++ told ∷ []) new
run_push x h [] [] mid step told new same takes = (new, subst (λ (g : List Event). Takes x g step told new) same takes, refl)
run_push x h (s ∷ steps) (t ∷ replies) mid step told new run takes = (run.0, run.1, run_push x run.0 steps replies mid step told new run.2 takes)
run_push x h [] (t ∷ replies) mid step told new run takes = absurd run
run_push x h (s ∷ steps) [] mid step told new run takes = absurd run

-- a run of as many steps as a loop has at number i, and one more for the next
pub run_next : (x start : Setting) (h : List Event) (steps : List Step) (i n : ℕ) (replies : List Told) (mid : List Event) (step : Step) (told : Told) (new : List Event)
    → i ≡ n → (n < length steps) × (step ≡ get_or steps n step) → Run start h (take i steps) replies mid → x ≡ start → Takes x mid step told new
    → Run start h (take (i + 1) steps) (replies ++ told ∷ []) new
run_next x start h steps i n replies mid step told new at turn run same takes =
    let inside : i < length steps = subst (λ k. k < length steps) (sym at) turn.0 in
    let next = subst (λ s. Takes x mid s told new) (turn.1 ∙ ap (λ k. get_or steps k step) (sym at)) takes in
    let here = subst (λ (y : Setting). Takes y mid (get_or steps i step) told new) same next in
    subst (λ ss. Run start h ss (replies ++ told ∷ []) new) (sym (take_more steps i step inside))
    (run_push start h (take i steps) replies mid (get_or steps i step) told new run here)

-- a run of as many steps as there are
pub run_whole : (x : Setting) (h : List Event) (steps : List Step) (n : ℕ) (replies : List Told) (new : List Event)
    → n ≡ length steps → Run x h (take n steps) replies new → Run x h steps replies new
run_whole x h steps n replies new same run =
    subst (λ ss. Run x h ss replies new) (ap (λ k. take k steps) same ∙ take-length steps) run

pub lines_more : (d : DefinitionData) (replies : List Told) (told : Told) → lines_of d replies ++ line_of d told ≡ lines_of d (replies ++ told ∷ [])
lines_more d replies told = flat_map_more (line_of d) [] replies told

-- the lines so far, and one more
pub line_written : (x start : Setting) (a b c : Option (List ℕ)) (replies : List Told) (told : Told) → x ≡ start
    → Appends a b (lines_of start.definition replies) → Appends b c (line_of x.definition told) → Appends a c (lines_of start.definition (replies ++ told ∷ []))
line_written x start a b c replies told same before now =
    let here = subst (λ (y : Setting). Appends b c (line_of y.definition told)) same now in
    subst (Appends a c) (lines_more start.definition replies told) (Appends-trans a b c _ _ before here)

-- the refused events so far, and that of one more reply
pub refused_more : (n k : ℕ) (replies : List Told) (told : Told) → k ≡ n + length replies + 1
    → refused_behind n replies ++ refused_at k (refusal_in told.1) ≡ refused_behind n (replies ++ told ∷ [])
refused_more n k [] told at =
    ap (λ (i : ℕ). refused_at i (refusal_in told.1)) (omega (arith, at)) ∙ sym (append-nil (refused_at (n + 1) (refusal_in told.1)))
refused_more n k (first ∷ rest) told at =
    append_assoc (refused_at (n + 1) (refusal_in first.1)) (refused_behind (n + 1) rest) (refused_at k (refusal_in told.1))
    ∙ ap (λ (more : List RefusedEvent). refused_at (n + 1) (refusal_in first.1) ++ more) (refused_more (n + 1) k rest told (omega (arith, at)))

-- events that are all of them while none was lost, and none once one was
pub all_or_none : (has_all : Bool) (replies : List Told) (events : List RefusedEvent) → (has_all ≡ true → events ≡ refused_behind 0 replies) → (has_all ≡ false → events ≡ [])
    → AreRefused replies events
all_or_none true replies events all none = inr (all refl)
all_or_none false replies events all none = inl (none refl)

-- what was written is the line of a reply, where it is the same text
pub line_with : {X : Type 0} (r : Result X Fault) (old new : Option (List ℕ)) (at : ℕ) (text : List ℕ) (d : DefinitionData) (told : Told) → text ≡ line_of d told
    → MatchResult r (λ _. Appends old new text) (λ f. (f.at ≡ at) × AppendsFront old new text)
    → MatchResult r (λ _. Appends old new (line_of d told)) (λ f. (f.at ≡ at) × AppendsFront old new (line_of d told))
line_with r old new at text d told same =
    subst (λ (line : List ℕ). MatchResult r (λ _. Appends old new line) (λ f. (f.at ≡ at) × AppendsFront old new line)) same

-- a line with the names of one definition is that of an equal one
pub line_by : {X : Type 0} (r : Result X Fault) (old new : Option (List ℕ)) (at : ℕ) (d e : DefinitionData) (told : Told) → d ≡ e
    → MatchResult r (λ _. Appends old new (line_of d told)) (λ f. (f.at ≡ at) × AppendsFront old new (line_of d told))
    → MatchResult r (λ _. Appends old new (line_of e told)) (λ f. (f.at ≡ at) × AppendsFront old new (line_of e told))
line_by r old new at d e told same = line_with r old new at (line_of d told) e told (ap (λ (b : DefinitionData). line_of b told) same)

-- lines, and the report behind them, where it is asked for
report_behind : (b : Bool) (x : Setting) (last : MachineState) (lines : List ℕ) (o p q : Option (List ℕ)) → last.setting ≡ x → Appends o p lines → Appends p q (report_where b last)
    → Appends o q (with_report b lines (record { setting = x; history = last.history }))
report_behind true x last lines o p q same before report =
    subst (λ (y : Setting). Appends o q (lines ++ report_text (record { setting = y; history = last.history }))) same (Appends-trans o p q lines (report_text last) before report)
report_behind false x last lines o p q same before report =
    subst (Appends o q) (append-nil lines) (Appends-trans o p q lines [] before report)

-- a script's machine and steps, as they were opened
module _ (options : RunOptions) (script : Script) (machine : MachineState) (steps : List Step) (opened : machine ≡ first script) (same : steps ≡ script.steps) where
  runs_script : (last : MachineState) (refused : List RefusedEvent) (old new : Option (List ℕ)) → RunsTo machine steps last refused old new → RunsTo (first script) script.steps last refused old new
  runs_script last refused old new runs =
      subst (λ (m : MachineState). RunsTo m script.steps last refused old new) opened (subst (λ (ss : List Step). RunsTo machine ss last refused old new) same runs)

  -- a whole run, with its report
  pub run_written : (last : MachineState) (refused : List RefusedEvent) (o p q : Option (List ℕ)) → RunsTo machine steps last refused o p → Appends p q (report_where options.report last)
      → AppendsRun options (first script) script.steps refused o q
  run_written last refused o p q runs report =
      let (replies, run, setting, are, lines) = runs_script last refused o p runs in
      (replies, last.history, run, are, report_behind options.report (first script).setting last (lines_of script.definition replies) o p q setting lines report)

  -- a run that ended in the line of a step ended early
  pub early_in_line : (old new : Option (List ℕ)) (WriteHasFailed : Type 0) (e : Fault) → IsEnd WriteHasFailed e.kind → EndsIn machine steps e old new → EndsEarly options script old new WriteHasFailed e
  early_in_line old new WriteHasFailed e kind ends =
      inr (inl (kind, subst (λ (m : MachineState). EndsIn m script.steps e old new) opened (subst (λ (ss : List Step). EndsIn machine ss e old new) same ends)))

  -- and so did one that ended in its report
  pub early_in_report : (e : Fault) (last : MachineState) (refused : List RefusedEvent) (o p q : Option (List ℕ)) (before between after : ℕ) → between ≡ before → RunsTo machine steps last refused o p
      → FailsReport options last p q (HasFailed between after) e → EndsEarly options script o q (HasFailed before after) e
  early_in_report e last refused o p q before between after quiet runs fails =
      inr (inr (last, refused, p, runs_script last refused o p runs, subst (λ (n : ℕ). FailsReport options last p q (HasFailed n after) e) quiet fails))
