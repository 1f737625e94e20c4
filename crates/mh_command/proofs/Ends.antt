-- How what is asked ends: its work, the last flush, and what is written of it.
use Rattle.std.proofs.Common.{◌≡◌, ◌≢◌, ◌⊎◌, ◌<◌, ◌≤◌, inl, inr, refl, sym, ap, ◌∙◌, subst, ℕ, false, List, [], ◌∷◌, ◌++◌, append-nil, Option, Some, None, Result, Ok, Err, IfOk, IfErr, IfSome, OnErr, OnOk, arith}
use Rattle.std.proofs.KnownBytes.{Appends-kept, Keeps-refl, Keeps-trans}
use Rattle.std.specs.Io.KnownBytes.{Appends, Keeps}
use Rattle.mh_core.specs.Legal.{MachineState}
use Rattle.mh_json.specs.declared.json.step.Step.{Step}
use Rattle.mh_text.specs.Bytes.{HasFailed, one_more}
use Rattle.mh_json.specs.Faults.{fault_line}
use Rattle.mh_json.specs.Gives.{IsEndOf, no_memory, outside}
use Rattle.mh_text.specs.Honest.{IsHonest, NoOtherFailed}
use Rattle.mh_text.specs.Lines.{lines_of}
use Rattle.mh_text.specs.Output as output
use Rattle.mh_text.specs.Output.{first, EndsEarly, Failed}
use Rattle.mh_json.specs.declared.fault.Fault.{Fault}
use Rattle.mh_json.specs.declared.fault.InputFault.{InputFault}
use Rattle.mh_json.specs.declared.fault.InputFault.TheVariants.{NoMemory, TooLong, NotJson, BadShape, BadValue, UnknownShared, UnknownSite, Tree, Definition, Problem, BadType, UnknownPoint, PointTwice, NeedTwice}
use Rattle.mh_json.specs.declared.fault.TextFault.{TextFault}
use Rattle.mh_json.specs.declared.fault.TextFault.TheVariants.{Input, ReadFailed, WriteFailed, NoReader}
use Rattle.mh_json.specs.declared.json.script.Script.{Script}
use Rattle.mh_json.specs.declared.refused.RefusedEvent.{RefusedEvent}
use Rattle.mh_text.specs.declared.streams.run.RunOptions.{RunOptions}
use Rattle.mh_explain.specs.Refused.{NamesRefused}
use Rattle.mh_command.specs.Answers.{Answers, AreKnown, FailsIn, FailsOn, IsAnswerOf, IsAnswerTo, IsAnswerUnless, IsHelp, IsStopped, Works, answered, turned_down}
use Rattle.mh_command.specs.Statuses.{status_told}
use Rattle.mh_command.proofs.Beginnings.{one_more_fails}
use Rattle.mh_command.specs.Readings.{fault_explained, refused_at, IsExplainedWith}
use Rattle.mh_command.proofs.Works.{none_helped}
use Rattle.mh_command.specs.Streams.{IsDone, IsShown, IsTold}
use Rattle.mh_command.specs.declared.request.Asked.{Asked}
use Rattle.mh_command.specs.declared.request.Request.{Request}
use Rattle.mh_command.specs.declared.request.Request.TheVariants.{Run, Check, CheckProfile, Plan, Stress, Profile}

pub four_is_no_two : {n : ℕ} → n ≡ 4 → n ≢ 2
four_is_no_two four two = omega (arith, four, two)

pub four_is_no_zero : {n : ℕ} → n ≡ 4 → n ≢ 0
four_is_no_zero four zero = omega (arith, four, zero)

pub four_is_not_below_two : {n : ℕ} → n ≡ 4 → n < 2 → ⊥
four_is_not_below_two four small = omega (arith, four, small)

-- memory kept a text back
pub nothing_shown : (old : Option (List ℕ)) (failures status wanted : ℕ) → status ≡ 4 → IsShown old old failures failures status wanted
nothing_shown old failures status wanted four = (10 ∷ [], λ is. cc, inr (inr (four, (Keeps-refl old, refl))))

pub nothing_appended : (old new : Option (List ℕ)) → Keeps old new → Appends old new []
nothing_appended None new kept = tt
nothing_appended (Some xs) None kept = absurd kept
nothing_appended (Some xs) (Some ys) kept = kept ∙ sym (append-nil xs)

appended_nothing : (old new : Option (List ℕ)) → Appends old new [] → Keeps old new
appended_nothing None new written = tt
appended_nothing (Some xs) None written = absurd written
appended_nothing (Some xs) (Some ys) written = written ∙ append-nil xs

some_is_no_none : (e : Fault) → Some e ≡ None → ⊥
some_is_no_none e is = cc

-- memory kept what is asked from its work
pub nothing_done : (asked : Asked) (input old : Option (List ℕ)) (A B : Type 0) → FailsIn asked input old old A B (outside no_memory)
nothing_done asked input old A B = inl (Keeps-refl old, inl refl)

-- the statuses of faults
pub told_range : (k : TextFault) → (0 < status_told k) × (status_told k ≤ 4) × (status_told k ≢ 2)
told_range (Input NoMemory) = (omega arith, omega arith, omega arith)
told_range (Input TooLong) = (omega arith, omega arith, omega arith)
told_range (Input NotJson) = (omega arith, omega arith, omega arith)
told_range (Input BadShape) = (omega arith, omega arith, omega arith)
told_range (Input BadValue) = (omega arith, omega arith, omega arith)
told_range (Input UnknownShared) = (omega arith, omega arith, omega arith)
told_range (Input UnknownSite) = (omega arith, omega arith, omega arith)
told_range (Input UnknownPoint) = (omega arith, omega arith, omega arith)
told_range (Input PointTwice) = (omega arith, omega arith, omega arith)
told_range (Input NeedTwice) = (omega arith, omega arith, omega arith)
told_range (Input (Tree cause)) = (omega arith, omega arith, omega arith)
told_range (Input (Definition cause)) = (omega arith, omega arith, omega arith)
told_range (Input (Problem cause)) = (omega arith, omega arith, omega arith)
told_range ReadFailed = (omega arith, omega arith, omega arith)
told_range WriteFailed = (omega arith, omega arith, omega arith)
told_range (Input (BadType cause)) = (omega arith, omega arith, omega arith)
told_range NoReader = (omega arith, omega arith, omega arith)

-- the status 3 is that of a stream that failed
stream_failed : (A B : Type 0) (k : TextFault) → status_told k ≡ 3 → IsEndOf A B k → A ⊎ B
stream_failed A B (Input NoMemory) three end = absurd (omega (arith, three))
stream_failed A B (Input TooLong) three end = absurd (omega (arith, three))
stream_failed A B (Input NotJson) three end = absurd (omega (arith, three))
stream_failed A B (Input BadShape) three end = absurd (omega (arith, three))
stream_failed A B (Input BadValue) three end = absurd (omega (arith, three))
stream_failed A B (Input UnknownShared) three end = absurd (omega (arith, three))
stream_failed A B (Input UnknownSite) three end = absurd (omega (arith, three))
stream_failed A B (Input UnknownPoint) three end = absurd (omega (arith, three))
stream_failed A B (Input PointTwice) three end = absurd (omega (arith, three))
stream_failed A B (Input NeedTwice) three end = absurd (omega (arith, three))
stream_failed A B (Input (Tree cause)) three end = absurd (omega (arith, three))
stream_failed A B (Input (Definition cause)) three end = absurd (omega (arith, three))
stream_failed A B (Input (Problem cause)) three end = absurd (omega (arith, three))
stream_failed A B ReadFailed three end = inl end
stream_failed A B WriteFailed three end = inr end
stream_failed A B (Input (BadType cause)) three end = absurd (omega (arith, three))
stream_failed A B NoReader three end = absurd (omega (arith, three))

-- what was left written stands after a flush, which keeps it
module _ (old mid new : Option (List ℕ)) (kept : Keeps mid new) where
  ends_kept : (m : MachineState) (steps : List Step) (e : Fault) → output.EndsIn m steps e old mid → output.EndsIn m steps e old new
  ends_kept m steps e (replies, reply, last, front, rest, count, left, run, line, written) =
      (replies, reply, last, front, rest, count, left, run, line, Appends-kept old mid new (lines_of m.setting.definition replies ++ front) written kept)

  report_kept : (options : RunOptions) (m : MachineState) (before : Option (List ℕ)) (B : Type 0) (e : Fault)
      → output.FailsReport options m before mid B e → output.FailsReport options m before new B e
  report_kept options m before B e (asked, inl (same, memory)) = (asked, inl (Keeps-trans before mid new same kept, memory))
  report_kept options m before B e (asked, inr (is, failed, (front, rest, left, split, begun))) =
      (asked, inr (is, failed, (front, rest, left, split, Appends-kept before mid new front begun kept)))

  early_kept : (options : RunOptions) (script : Script) (B : Type 0) (e : Fault) → EndsEarly options script old mid B e → EndsEarly options script old new B e
  early_kept options script B e (inl (same, memory)) = inl (Keeps-trans old mid new same kept, memory)
  early_kept options script B e (inr (inl (end, ends))) = inr (inl (end, ends_kept (first script) _ _ ends))
  early_kept options script B e (inr (inr (last, refused, between, runs, fails))) = inr (inr (last, refused, between, runs, report_kept options last between B e fails))

  on_kept : (request : Request) (input : Option (List ℕ)) (A B : Type 0) (e : Fault) → FailsOn request input old mid A B e → FailsOn request input old new A B e
  on_kept (Run options) input A B e (inl (same, unread)) = inl (Keeps-trans old mid new same kept, unread)
  on_kept (Run options) None A B e (inr known) = inr known
  on_kept (Run options) (Some bytes) A B e (inr (script, is, early)) = inr (script, is, early_kept options script B e early)
  on_kept Check input A B e (inl (same, unread)) = inl (Keeps-trans old mid new same kept, unread)
  on_kept Check input A B e (inr (verdict, found, (is, failed, (front, rest, left, split, begun)))) =
      inr (verdict, found, (is, failed, (front, rest, left, split, Appends-kept old mid new front begun kept)))
  on_kept CheckProfile input A B e (inl (same, unread)) = inl (Keeps-trans old mid new same kept, unread)
  on_kept CheckProfile input A B e (inr (verdict, found, (is, failed, (front, rest, left, split, begun)))) =
      inr (verdict, found, (is, failed, (front, rest, left, split, Appends-kept old mid new front begun kept)))
  on_kept (Plan options) input A B e (inl (same, unread)) = inl (Keeps-trans old mid new same kept, unread)
  on_kept (Plan options) input A B e (inr (text, planned, (is, failed, (front, rest, left, split, begun)))) =
      inr (text, planned, (is, failed, (front, rest, left, split, Appends-kept old mid new front begun kept)))
  on_kept (Stress options) input A B e (inl (same, unread), script) = (inl (Keeps-trans old mid new same kept, unread), script)
  on_kept (Stress options) input A B e (inr (text, stressed, (is, failed, (front, rest, left, split, begun))), script) =
      (inr (text, stressed, (is, failed, (front, rest, left, split, Appends-kept old mid new front begun kept))), script)
  on_kept (Profile options) input A B e (inl (same, unread)) = inl (Keeps-trans old mid new same kept, unread)
  on_kept (Profile options) input A B e (inr (text, planned, (is, failed, (front, rest, left, split, begun)))) =
      inr (text, planned, (is, failed, (front, rest, left, split, Appends-kept old mid new front begun kept)))

  fails_kept : (asked : Asked) (input : Option (List ℕ)) (A B : Type 0) (e : Fault) → FailsIn asked input old mid A B e → FailsIn asked input old new A B e
  fails_kept asked input A B e (inl (same, unread)) = inl (Keeps-trans old mid new same kept, unread)
  fails_kept asked input A B e (inr (unrefused, fails)) = inr (unrefused, on_kept asked.request input A B e fails)

  works_kept : (asked : Asked) (input : Option (List ℕ)) (known : List RefusedEvent) (status : ℕ) → Works asked input known old mid status → Works asked input known old new status
  works_kept asked None known status works = works
  works_kept asked (Some bytes) known status (text, refused, is, are, written) = (text, refused, is, are, Appends-kept old mid new text written kept)

abbrev IsTurnedOn : Option (List ℕ) → Option (List ℕ) → Fault → Request → List ℕ → Type 0
IsTurnedOn old new e request bytes = IsAnswerOf request bytes (turned_down e) × Keeps old new

abbrev IsTurned : Option (List ℕ) → Option (List ℕ) → Fault → Asked → List ℕ → Type 0
IsTurned old new e asked bytes = IsAnswerTo asked bytes (turned_down e) × Keeps old new

-- a fault of status 1 is one of the input, and nothing was written
module _ (old new : Option (List ℕ)) (A B : Type 0) (e : Fault) (small : status_told e.kind < 2) where
  not_of : (k : TextFault) → 2 < status_told k → e.kind ≡ k → ⊥
  not_of k large is = let now : status_told k < 2 = subst (λ kind. status_told kind < 2) is small in omega (arith, large, now)

  not_outside : (k : TextFault) → 2 < status_told k → e ≡ outside k → ⊥
  not_outside k large is = not_of k large (ap (λ f. f.kind) is)

  refuses_on : (request : Request) (bytes : List ℕ) → FailsOn request (Some bytes) old new A B e → IsTurnedOn old new e request bytes
  refuses_on (Run options) bytes (inl (kept, inl memory)) = absurd (not_outside no_memory (omega arith) memory)
  refuses_on (Run options) bytes (inl (kept, inr (inl (read, failed)))) = absurd (not_outside ReadFailed (omega arith) read)
  refuses_on (Run options) bytes (inl (kept, inr (inr (inl fault)))) = (inr (e, fault, refl), kept)
  refuses_on (Run options) bytes (inl (kept, inr (inr (inr (memory, reached))))) = absurd (not_of no_memory (omega arith) memory)
  refuses_on (Run options) bytes (inr (script, is, inl (kept, memory))) = absurd (not_outside no_memory (omega arith) memory)
  refuses_on (Run options) bytes (inr (script, is, inr (inl (inl memory, ends)))) = absurd (not_of no_memory (omega arith) memory)
  refuses_on (Run options) bytes (inr (script, is, inr (inl (inr (write, failed), ends)))) = absurd (not_of WriteFailed (omega arith) write)
  refuses_on (Run options) bytes (inr (script, is, inr (inr (last, refused, between, runs, (asked, inl (kept, memory)))))) = absurd (not_outside no_memory (omega arith) memory)
  refuses_on (Run options) bytes (inr (script, is, inr (inr (last, refused, between, runs, (asked, inr (write, failed, begun)))))) = absurd (not_outside WriteFailed (omega arith) write)
  refuses_on Check bytes (inl (kept, inl memory)) = absurd (not_outside no_memory (omega arith) memory)
  refuses_on Check bytes (inl (kept, inr (inl (read, failed)))) = absurd (not_outside ReadFailed (omega arith) read)
  refuses_on Check bytes (inl (kept, inr (inr fault))) = (inr (e, fault, refl), kept)
  refuses_on Check bytes (inr (verdict, found, (is, failed, begun))) = absurd (not_outside WriteFailed (omega arith) is)
  refuses_on CheckProfile bytes (inl (kept, inl memory)) = absurd (not_outside no_memory (omega arith) memory)
  refuses_on CheckProfile bytes (inl (kept, inr (inl (read, failed)))) = absurd (not_outside ReadFailed (omega arith) read)
  refuses_on CheckProfile bytes (inl (kept, inr (inr fault))) = (inr (e, fault, refl), kept)
  refuses_on CheckProfile bytes (inr (verdict, found, (is, failed, begun))) = absurd (not_outside WriteFailed (omega arith) is)
  refuses_on (Plan options) bytes (inl (kept, inl memory)) = absurd (not_outside no_memory (omega arith) memory)
  refuses_on (Plan options) bytes (inl (kept, inr (inl (read, failed)))) = absurd (not_outside ReadFailed (omega arith) read)
  refuses_on (Plan options) bytes (inl (kept, inr (inr fault))) = (inr (e, fault, refl), kept)
  refuses_on (Plan options) bytes (inr (text, planned, (is, failed, begun))) = absurd (not_outside WriteFailed (omega arith) is)
  refuses_on (Stress options) bytes (inl (kept, inl (inl memory)), script) = absurd (not_outside no_memory (omega arith) memory)
  refuses_on (Stress options) bytes (inl (kept, inl (inr (inl (read, failed)))), script) = absurd (not_outside ReadFailed (omega arith) read)
  refuses_on (Stress options) bytes (inl (kept, inl (inr (inr (inl fault)))), script) = (inr (e, fault, refl), kept)
  refuses_on (Stress options) bytes (inl (kept, inl (inr (inr (inr (memory, reached))))), script) = absurd (not_of no_memory (omega arith) memory)
  refuses_on (Stress options) bytes (inl (kept, inr reader), script) = absurd (not_outside NoReader (omega arith) reader)
  refuses_on (Stress options) bytes (inr (text, stressed, (is, failed, begun)), script) = absurd (not_outside WriteFailed (omega arith) is)
  refuses_on (Profile options) bytes (inl (kept, inl memory)) = absurd (not_outside no_memory (omega arith) memory)
  refuses_on (Profile options) bytes (inl (kept, inr (inl (read, failed)))) = absurd (not_outside ReadFailed (omega arith) read)
  refuses_on (Profile options) bytes (inl (kept, inr (inr fault))) = (inr (e, fault, refl), kept)
  refuses_on (Profile options) bytes (inr (text, planned, (is, failed, begun))) = absurd (not_outside WriteFailed (omega arith) is)

  refuses_input : (asked : Asked) (input : Option (List ℕ)) → FailsIn asked input old new A B e → IfSome input (IsTurned old new e asked)
  refuses_input asked None fails = tt
  refuses_input asked (Some bytes) (inl (kept, inl memory)) = absurd (not_outside no_memory (omega arith) memory)
  refuses_input asked (Some bytes) (inl (kept, inr (inl (read, failed)))) = absurd (not_outside ReadFailed (omega arith) read)
  refuses_input asked (Some bytes) (inl (kept, inr (inr (at, refused, is)))) =
      (subst (λ o. IsAnswerUnless o asked.request bytes (turned_down e)) (sym refused) (ap turned_down is), kept)
  refuses_input asked (Some bytes) (inr (unrefused, fails)) =
      let turned = refuses_on asked.request bytes fails in
      (subst (λ o. IsAnswerUnless o asked.request bytes (turned_down e)) (sym unrefused) turned.0, turned.1)

-- a failed flush is no fault of the input
not_explained : (at : Option ℕ) → fault_explained at None ≡ fault_explained at (Some (outside WriteFailed))
not_explained None = refl
not_explained (Some at) = refl

-- the help of an answer is that of the fault of its last flush
help_of_flush : (asked : Asked) (input : Option (List ℕ)) (status : ℕ) (known : List RefusedEvent) (help : List ℕ) → IsHelp asked input (Ok status) known help
    → IsHelp asked input (Err (outside WriteFailed)) known help
help_of_flush asked None status known help helped = record { unexplained = helped.unexplained; silent = tt; explained = tt }
help_of_flush asked (Some bytes) status known help helped = record {
  unexplained = helped.unexplained;
  silent = tt;
  explained = subst (λ cause. IsExplainedWith asked.request bytes cause known help) (not_explained (refused_at asked bytes)) helped.explained;
}

-- a fault may be written with nothing behind it
pub nothing_told : (asked : Asked) (input : Option (List ℕ)) (e : Fault) → IsHelp asked input (Err e) [] []
nothing_told asked input e = none_helped asked input (Err e) [] refl

-- help that speaks of the refused events that are known speaks of those of the answer
module _ (asked : Asked) (bytes : List ℕ) (refused known : List RefusedEvent) (are : AreKnown refused known) (help : List ℕ) where
  named_as : (events : List ℕ) → (events ≡ []) ⊎ NamesRefused known events → (events ≡ []) ⊎ NamesRefused refused events
  named_as events (inl none) = inl none
  named_as events (inr named) = elim are [
    | inl none ↦ inl (subst (λ (k : List RefusedEvent). NamesRefused k events) none named)
    | inr all ↦ inr (subst (λ (k : List RefusedEvent). NamesRefused k events) all named)
  ]

  explained_as : (cause : Option InputFault) → IsExplainedWith asked.request bytes cause known help → IsExplainedWith asked.request bytes cause refused help
  explained_as cause (front, events, split, explained, named) = (front, events, split, explained, named_as events named)

  clear_as : refused ≡ [] → known ≡ []
  clear_as clear = elim are [
    | inl none ↦ none
    | inr all ↦ all ∙ clear
  ]

-- The work of what is asked from the output o to m, a flush to n, and what is written from the errors e to f.
-- The numbers are the failures of the input, of the output and of the errors.
module _ (asked : Asked) (input o m n e f : Option (List ℕ)) (in_old in_new out_old out_mid out_new err_old err_new result : ℕ) (help : List ℕ) (known : List RefusedEvent) (kept : Keeps m n) where
  abbrev pub A : Type 0
  A = HasFailed in_old in_new

  abbrev pub B : Type 0
  B = HasFailed out_old out_mid

  abbrev pub IsEnded : Fault → Type 0
  IsEnded fault = IsTold e f err_old err_new help result fault × (out_new ≡ out_mid)

  abbrev pub IsFinished : ℕ → Type 0
  IsFinished status = (IsDone e f err_old err_new help result status × (out_new ≡ out_mid))
      ⊎ (IsTold e f err_old err_new help result (outside WriteFailed) × (out_new ≡ one_more out_mid))

  abbrev pub IsWritten : Type 0
  IsWritten = Answers asked input result o n e f

  abbrev pub Stops : Type 0
  Stops = IsStopped asked input o n A (HasFailed out_old out_new) e f err_old err_new result

  told_known : (fault : Fault) → IsTold e f err_old err_new help result fault → (0 < result) × (result ≤ 4) × (result ≢ 2)
  told_known fault (inl (is, (line, quiet))) = subst (λ s. (0 < s) × (s ≤ 4) × (s ≢ 2)) (sym is) (told_range fault.kind)
  told_known fault (inr (inl (three, cut))) = (omega (arith, three), omega (arith, three), omega (arith, three))
  told_known fault (inr (inr (four, idle))) = (omega (arith, four), omega (arith, four), omega (arith, four))

  pub is_known : (worked : Result ℕ Fault) → IfOk worked (λ status. status < 2) → IfOk worked IsFinished → IfErr worked IsEnded → (result ≤ 4) × (result ≢ 2)
  is_known (Ok status) small (inl (inl (is, (written, quiet)), same)) told = (omega (arith, is, small), omega (arith, is, small))
  is_known (Ok status) small (inl (inr (some, three, failed), same)) told = (omega (arith, three), omega (arith, three))
  is_known (Ok status) small (inr (failed, more)) told = let k = told_known (outside WriteFailed) failed in (k.1, k.2)
  is_known (Err fault) small done (told, same) = let k = told_known fault told in (k.1, k.2)

  answer_done : (i : Option (List ℕ)) (status : ℕ) → result ≡ status → Appends e f help → Works asked i known o m status → IsHelp asked i (Ok status) known help → Answers asked i result o n e f
  answer_done None status is told works helped = tt
  answer_done (Some bytes) status is told (text, refused, answer, are, written) helped = (
    answered status text refused,
    help,
    answer,
    record {
      unexplained = helped.unexplained;
      silent = λ none read clear. helped.silent read (clear_as asked bytes refused known are help clear);
      explained = explained_as asked bytes refused known are help _ helped.explained;
    },
    sym is,
    Appends-kept o m n text written kept,
    told,
  )

  answer_turned : (i : Option (List ℕ)) (fault : Fault) → result ≡ status_told fault.kind → result < 2 → IfSome i (IsTurned o m fault asked)
      → Appends e f (fault_line fault ++ help) → known ≡ [] → IsHelp asked i (Err fault) known help → Answers asked i result o n e f
  answer_turned None fault is small turned line clear helped = tt
  answer_turned (Some bytes) fault is small (answer, same) line clear helped =
      let range = told_range fault.kind in
      let above = range.0 in (
        turned_down fault,
        help,
        answer,
        record {
          unexplained = helped.unexplained;
          silent = λ none read silent. absurd (some_is_no_none fault none);
          explained = subst (λ (k : List RefusedEvent). IsExplainedWith asked.request bytes (fault_explained (refused_at asked bytes) (Some fault)) k help) clear helped.explained;
        },
        omega (arith, is, small, above),
        nothing_appended o n (Keeps-trans o m n same kept),
        line,
      )

  pub answers : (worked : Result ℕ Fault) → IfOk worked (Works asked input known o m) → IfErr worked (FailsIn asked input o m A B) → OnErr worked (known ≡ []) → IsHelp asked input worked known help
      → IfOk worked IsFinished → IfErr worked IsEnded → result < 2 → IsWritten
  answers (Ok status) works fails clear helped (inl (inl (is, (written, quiet)), same)) told small = answer_done input status is written works helped
  answers (Ok status) works fails clear helped (inl (inr (some, three, failed), same)) told small = absurd (omega (arith, three, small))
  answers (Ok status) works fails clear helped (inr (inl (is, (line, quiet)), more)) told small = absurd (omega (arith, is, small))
  answers (Ok status) works fails clear helped (inr (inr (inl (is, failed)), more)) told small = absurd (omega (arith, is, small))
  answers (Ok status) works fails clear helped (inr (inr (inr (is, idle)), more)) told small = absurd (omega (arith, is, small))
  answers (Err fault) works fails clear helped done (inl (is, (line, quiet)), same) small =
      let low : status_told fault.kind < 2 = omega (arith, is, small) in
      answer_turned input fault is small (refuses_input o m A B fault low asked input fails) line clear helped
  answers (Err fault) works fails clear helped done (inr (inl (is, failed)), same) small = absurd (omega (arith, is, small))
  answers (Err fault) works fails clear helped done (inr (inr (is, idle)), same) small = absurd (omega (arith, is, small))

  pub stops : (worked : Result ℕ Fault) → IfOk worked (λ status. status < 2) → IfOk worked (Works asked input known o m) → IfErr worked (FailsIn asked input o m A B) → OnErr worked (known ≡ []) → IsHelp asked input worked known help
      → IsHonest worked in_old in_new out_old out_mid → IfOk worked IsFinished → IfErr worked IsEnded → 2 ≤ result → Stops
  stops (Ok status) small works fails clear helped honest (inl (inl (is, (written, quiet)), same)) told large = absurd (omega (arith, is, small, large))
  stops (Ok status) small works fails clear helped honest (inl (inr (some, three, cut), same)) told large =
      inr (three, (status, known, works_kept o m n kept asked input known status works, (help, helped, cut)))
  stops (Ok status) small works fails clear helped honest (inr (failed, more)) told large =
      let counted : HasFailed out_old out_new = subst (λ k. HasFailed k out_new) honest.1 (subst (HasFailed out_mid) (sym more) (one_more_fails out_mid (one_more out_mid) refl)) in
      let flushed = help_of_flush asked input status known help helped in
      inl (outside WriteFailed, known, inr (refl, counted, (status, works_kept o m n kept asked input known status works)), (help, flushed, failed))
  stops (Err fault) small works fails clear helped honest done (told, same) large =
      let fails_still = subst (λ k. FailsIn asked input o n A (HasFailed out_old k) fault) (sym same) (fails_kept o m n kept asked input A B fault fails) in
      inl (fault, known, inl (fails_still, clear), (help, helped, told))

  pub some_failed : (worked : Result ℕ Fault) → IfOk worked (λ status. status < 2) → IsHonest worked in_old in_new out_old out_mid
      → IfOk worked IsFinished → IfErr worked IsEnded → result ≡ 3 → A ⊎ HasFailed out_old out_new ⊎ HasFailed err_old err_new
  some_failed (Ok status) small honest (inl (inl (is, (written, quiet)), same)) told three = absurd (omega (arith, is, small, three))
  some_failed (Ok status) small honest (inl (inr (some, is, cut), same)) told three = inr (inr cut.0)
  some_failed (Ok status) small honest (inr (failed, more)) told three =
      inr (inl (subst (λ k. HasFailed k out_new) honest.1 (subst (HasFailed out_mid) (sym more) (one_more_fails out_mid (one_more out_mid) refl))))
  some_failed (Err fault) small honest done (inl (is, (line, same_errors)), same) three =
      elim (stream_failed A B fault.kind (sym is ∙ three) honest) [
        | inl read ↦ inl read
        | inr write ↦ inr (inl (subst (HasFailed out_old) (sym same) write))
      ]
  some_failed (Err fault) small honest done (inr (inl (is, cut)), same) three = inr (inr cut.0)
  some_failed (Err fault) small honest done (inr (inr (four, idle)), same) three = absurd (omega (arith, four, three))

  not_told : (fault : Fault) (k : TextFault) → status_told k ≡ 3 → result ≡ status_told fault.kind → result < 3 → fault.kind ≢ k
  not_told fault k three is small same =
      let now : status_told k < 3 = subst (λ status. status < 3) (is ∙ ap status_told same) small in
      omega (arith, three, now)

  pub is_quiet : (worked : Result ℕ Fault) → IsHonest worked in_old in_new out_old out_mid
      → IfErr worked (λ fault. NoOtherFailed fault.kind in_old in_new out_old out_mid) → IfOk worked IsFinished → IfErr worked IsEnded → result < 3
      → (in_new ≡ in_old) × (out_new ≡ out_old) × (err_new ≡ err_old)
  is_quiet (Ok status) honest others (inl (inl (is, (written, quiet)), same)) told small = (honest.0, same ∙ honest.1, quiet)
  is_quiet (Ok status) honest others (inl (inr (some, three, cut), same)) told small = absurd (omega (arith, three, small))
  is_quiet (Ok status) honest others (inr (inl (is, (line, quiet)), more)) told small = absurd (omega (arith, is, small))
  is_quiet (Ok status) honest others (inr (inr (inl (three, cut)), more)) told small = absurd (omega (arith, three, small))
  is_quiet (Ok status) honest others (inr (inr (inr (four, idle)), more)) told small = absurd (omega (arith, four, small))
  is_quiet (Err fault) honest others done (inl (is, (line, quiet)), same) small = (
    others.0 (not_told fault ReadFailed refl is small),
    same ∙ others.1 (not_told fault WriteFailed refl is small),
    quiet,
  )
  is_quiet (Err fault) honest others done (inr (inl (three, cut)), same) small = absurd (omega (arith, three, small))
  is_quiet (Err fault) honest others done (inr (inr (four, idle)), same) small = absurd (omega (arith, four, small))

  pub is_at_end : (worked : Result ℕ Fault) (IsEnd : Type 0) → OnOk worked IsEnd → IfErr worked IsEnded → result ≡ 0 → IsEnd
  is_at_end (Ok status) IsEnd end told zero = end
  is_at_end (Err fault) IsEnd end (told, same) zero = let k = told_known fault told in let above = k.0 in absurd (omega (arith, above, zero))

  pub is_unexplained : (worked : Result ℕ Fault) → IsHelp asked input worked known help → IfOk worked IsFinished → IfErr worked IsEnded → result ≡ 0
      → asked.reading.explain ≡ false → Keeps e f
  is_unexplained (Ok status) helped (inl (inl (is, (written, quiet)), same)) told zero plain = appended_nothing e f (subst (Appends e f) (helped.unexplained plain) written)
  is_unexplained (Ok status) helped (inl (inr (some, three, failed), same)) told zero plain = absurd (omega (arith, three, zero))
  is_unexplained (Ok status) helped (inr (failed, more)) told zero plain = let k = told_known (outside WriteFailed) failed in let above = k.0 in absurd (omega (arith, above, zero))
  is_unexplained (Err fault) helped done (told, same) zero plain = let k = told_known fault told in let above = k.0 in absurd (omega (arith, above, zero))
