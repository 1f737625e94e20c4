-- Work over an input that was read, and the same of what is left in a reader.
use Rattle.std.proofs.Common.{◌≡◌, ◌≢◌, ◌⊎◌, ◌<◌, inl, inr, refl, sym, ap, ◌∙◌, subst, ℕ, Bool, true, false, List, [], ◌++◌, append-nil, length, Option, Some, None, Result, Ok, Err, IfErr, IfOk, IfSome, codes}
use Rattle.std.proofs.lemmas.Bool.{lt-leb}
use Rattle.std.specs.Prelude.{if◌then◌else◌}
use Rattle.std.proofs.KnownBytes.{Keeps-refl}
use Rattle.std.specs.Io.KnownBytes.{Appends, Keeps}
use Rattle.mh_text.specs.Bytes.{HasFailed}
use Rattle.mh_json.specs.Inputs.{most_bytes, json_of_input}
use Rattle.mh_json.specs.Gives.{IsEndOf, no_memory, too_long, ◌>>=◌, at_place, outside}
use Rattle.mh_text.specs.Honest.{IsHonest}
use Rattle.mh_text.specs.Checks.{IsClaimFault, IsVerdict, verdict_line}
use Rattle.mh_text.specs.Output.{EndsReading, IsUnread}
use Rattle.mh_text.specs.Planning.{IsPlanned, IsProblemFault}
use Rattle.mh_text.specs.declared.streams.planning.PlanOptions.{PlanOptions}
use Rattle.mh_text.specs.declared.lines.verdict.Verdict.{Verdict}
use Rattle.mh_stress.specs.Stress.{IsStressed}
use Rattle.mh_stress.specs.declared.stress.StressOptions.{StressOptions}
use Rattle.mh_profile.specs.Claims as claim
use Rattle.mh_profile.specs.Planning as profile
use Rattle.mh_profile.specs.declared.planning.ProfileOptions.{ProfileOptions}
use Rattle.mh_command.specs.Statuses.{status_found}
use Rattle.mh_profile.specs.Claims.{IsReadClaimFault}
use Rattle.mh_json.specs.Problems.{rows_at}
use Rattle.mh_json.specs.Script.{script_of}
use Rattle.mh_json.specs.declared.fault.Fault.{Fault}
use Rattle.mh_json.specs.declared.fault.InputFault.{InputFault}
use Rattle.mh_json.specs.declared.fault.InputFault.TheVariants.{BadShape}
use Rattle.mh_json.specs.declared.fault.TextFault.{TextFault}
use Rattle.mh_json.specs.declared.fault.TextFault.TheVariants.{Input, ReadFailed, WriteFailed, NoReader}
use Rattle.mh_explain.specs.Refused.{NamesRefused}
use Rattle.mh_explain.specs.Unread.{first_unread, first_of_read}
use Rattle.mh_json.specs.declared.refused.RefusedEvent.{RefusedEvent}
use Rattle.mh_json.specs.declared.json.form.InputForm.{InputForm}
use Rattle.mh_command.specs.Answers.{FailsIn, FailsOn, IsAnswerUnless, IsFaultOf, IsHelp, Works, WorksOn, answered, fault_at, output_alone}
use Rattle.mh_command.specs.Readings.{fault_explained, fault_told, form_of, refused_at, unread_fault, unread_in, IsExplained, IsExplainedWith, IsRefusal}
use Rattle.mh_command.specs.declared.request.Asked.{Asked}
use Rattle.mh_command.specs.declared.request.Request.{Request}
use Rattle.mh_command.specs.declared.request.Request.TheVariants.{Run, Check, CheckProfile, Plan, Stress, Profile}

memory_is_no_reader : no_memory ≢ NoReader
memory_is_no_reader is = cc

-- memory kept a request from its work
nothing_worked : (request : Request) (input old new : Option (List ℕ)) (A B : Type 0) → Keeps old new → FailsOn request input old new A B (outside no_memory)
nothing_worked (Run options) input old new A B kept = inl (kept, inl refl)
nothing_worked Check input old new A B kept = inl (kept, inl refl)
nothing_worked CheckProfile input old new A B kept = inl (kept, inl refl)
nothing_worked (Plan options) input old new A B kept = inl (kept, inl refl)
nothing_worked (Stress options) input old new A B kept = (inl (kept, inl (inl refl)), λ is. absurd (memory_is_no_reader (ap (λ f. f.kind) is)))
nothing_worked (Profile options) input old new A B kept = inl (kept, inl refl)

memory_is_no_read : no_memory ≢ ReadFailed
memory_is_no_read is = cc

write_is_no_read : WriteFailed ≢ ReadFailed
write_is_no_read is = cc

no_reader_is_no_read : NoReader ≢ ReadFailed
no_reader_is_no_read is = cc

-- a read of a request's input failed: nothing was written
module _ (input old new : Option (List ℕ)) (A B : Type 0) (e : Fault) (read : e.kind ≡ ReadFailed) where
  not_of : (k : TextFault) → k ≢ ReadFailed → e.kind ≡ k → ⊥
  not_of k other is = other (sym is ∙ read)

  not_outside : (k : TextFault) → k ≢ ReadFailed → e ≡ outside k → ⊥
  not_outside k other is = not_of k other (ap (λ f. f.kind) is)

  keeps_unread : (request : Request) (bytes : List ℕ) → FailsOn request (Some bytes) old new A B e → Keeps old new
  keeps_unread (Run options) bytes (inl (kept, unread)) = kept
  keeps_unread (Run options) bytes (inr (script, is, inl (kept, memory))) = kept
  keeps_unread (Run options) bytes (inr (script, is, inr (inl (inl memory, ends)))) = absurd (not_of no_memory memory_is_no_read memory)
  keeps_unread (Run options) bytes (inr (script, is, inr (inl (inr (write, failed), ends)))) = absurd (not_of WriteFailed write_is_no_read write)
  keeps_unread (Run options) bytes (inr (script, is, inr (inr (last, refused, between, runs, (asked, inl (kept, memory)))))) = absurd (not_outside no_memory memory_is_no_read memory)
  keeps_unread (Run options) bytes (inr (script, is, inr (inr (last, refused, between, runs, (asked, inr (write, failed, begun)))))) = absurd (not_outside WriteFailed write_is_no_read write)
  keeps_unread Check bytes (inl (kept, unread)) = kept
  keeps_unread Check bytes (inr (verdict, found, (is, failed, begun))) = absurd (not_outside WriteFailed write_is_no_read is)
  keeps_unread CheckProfile bytes (inl (kept, unread)) = kept
  keeps_unread CheckProfile bytes (inr (verdict, found, (is, failed, begun))) = absurd (not_outside WriteFailed write_is_no_read is)
  keeps_unread (Plan options) bytes (inl (kept, unread)) = kept
  keeps_unread (Plan options) bytes (inr (text, planned, (is, failed, begun))) = absurd (not_outside WriteFailed write_is_no_read is)
  keeps_unread (Stress options) bytes (inl (kept, unread), script) = kept
  keeps_unread (Stress options) bytes (inr (text, stressed, (is, failed, begun)), script) = absurd (not_outside WriteFailed write_is_no_read is)
  keeps_unread (Profile options) bytes (inl (kept, unread)) = kept
  keeps_unread (Profile options) bytes (inr (text, planned, (is, failed, begun))) = absurd (not_outside WriteFailed write_is_no_read is)

-- where no read fails, it does not matter what a failed read says
module _ (old new : Option (List ℕ)) (A C B : Type 0) (e : Fault) (bytes : List ℕ) (never : e ≡ outside ReadFailed → A → C) where
  unread_by : (IsFault : List ℕ → Fault → Type 0) → IsUnread IsFault (Some bytes) A e → IsUnread IsFault (Some bytes) C e
  unread_by IsFault (inl memory) = inl memory
  unread_by IsFault (inr (inl (read, failed))) = inr (inl (read, never read failed))
  unread_by IsFault (inr (inr fault)) = inr (inr fault)

  pub fails_by : (request : Request) → FailsOn request (Some bytes) old new A B e → FailsOn request (Some bytes) old new C B e
  fails_by (Run options) (inl (kept, unread)) = inl (kept, unread_by EndsReading unread)
  fails_by (Run options) (inr early) = inr early
  fails_by Check (inl (kept, unread)) = inl (kept, unread_by IsClaimFault unread)
  fails_by Check (inr cut) = inr cut
  fails_by CheckProfile (inl (kept, unread)) = inl (kept, unread_by IsReadClaimFault unread)
  fails_by CheckProfile (inr cut) = inr cut
  fails_by (Plan options) (inl (kept, unread)) = inl (kept, unread_by IsProblemFault unread)
  fails_by (Plan options) (inr cut) = inr cut
  fails_by (Stress options) (inl (kept, inl unread), script) = (inl (kept, inl (unread_by EndsReading unread)), script)
  fails_by (Stress options) (inl (kept, inr reader), script) = (inl (kept, inr reader), script)
  fails_by (Stress options) (inr cut, script) = (inr cut, script)
  fails_by (Profile options) (inl (kept, unread)) = inl (kept, unread_by (profile.IsPlanFault options) unread)
  fails_by (Profile options) (inr cut) = inr cut

is_read_failed : (k : TextFault) → (k ≡ ReadFailed) ⊎ (k ≢ ReadFailed)
is_read_failed (Input cause) = inr (λ is. cc)
is_read_failed ReadFailed = inl refl
is_read_failed WriteFailed = inr (λ is. cc)
is_read_failed NoReader = inr (λ is. cc)

-- A fault of a read comes as out of memory, and any other as it is.
module _ (e told : Fault) (read : e.kind ≡ ReadFailed → told ≡ outside no_memory) (other : e.kind ≢ ReadFailed → told ≡ e) where
  pub fails_held : (request : Request) (bytes : List ℕ) (old new : Option (List ℕ)) (A B : Type 0)
      → FailsOn request (Some bytes) old new A B e → FailsOn request (Some bytes) old new ⊥ B told
  fails_held request bytes old new A B fails = elim (is_read_failed e.kind) [
    | inl is ↦ subst (FailsOn request (Some bytes) old new ⊥ B) (sym (read is))
        (nothing_worked request (Some bytes) old new ⊥ B (keeps_unread (Some bytes) old new A B e is request bytes fails))
    | inr not ↦ subst (FailsOn request (Some bytes) old new ⊥ B) (sym (other not))
        (fails_by old new A ⊥ B e bytes (λ same failed. absurd (not (ap (λ f. f.kind) same))) request fails)
  ]

  end_by : (A C B : Type 0) (k : TextFault) → k ≢ ReadFailed → IsEndOf A B k → IsEndOf C B k
  end_by A C B (Input cause) not end = end
  end_by A C B ReadFailed not end = absurd (not refl)
  end_by A C B WriteFailed not end = end
  end_by A C B NoReader not end = end

  pub ends_held : (A C B : Type 0) → IsEndOf A B e.kind → IsEndOf C B told.kind
  ends_held A C B end = elim (is_read_failed e.kind) [
    | inl is ↦ subst (λ (f : Fault). IsEndOf C B f.kind) (sym (read is)) tt
    | inr not ↦ subst (λ (f : Fault). IsEndOf C B f.kind) (sym (other not)) (end_by A C B e.kind not end)
  ]

  -- where it is no failed write, none failed
  pub others_held : (old new : ℕ) → (e.kind ≢ WriteFailed → new ≡ old) → told.kind ≢ WriteFailed → new ≡ old
  others_held old new quiet not = elim (is_read_failed e.kind) [
    | inl is ↦ quiet (λ write. cc)
    | inr kept ↦ quiet (λ write. not (ap (λ f. f.kind) (other kept) ∙ write))
  ]

-- The work of a request that refuses no event.
module _ (old new : Option (List ℕ)) where
  pub check_works : (input : Option (List ℕ)) (verdict : Verdict) (status : ℕ) → status ≡ status_found verdict → IfSome input (λ bytes. IsVerdict bytes verdict)
      → Appends old new (verdict_line verdict) → WorksOn Check input [] old new status
  check_works None verdict status is found written = tt
  check_works (Some bytes) verdict status is found written =
      (verdict_line verdict, [], inl (verdict, found, ap (λ (s : ℕ). output_alone s (verdict_line verdict)) is), inl refl, written)

  pub profile_check_works : (input : Option (List ℕ)) (verdict : Verdict) (status : ℕ) → status ≡ status_found verdict → IfSome input (λ bytes. claim.IsVerdict bytes verdict)
      → Appends old new (verdict_line verdict) → WorksOn CheckProfile input [] old new status
  profile_check_works None verdict status is found written = tt
  profile_check_works (Some bytes) verdict status is found written =
      (verdict_line verdict, [], inl (verdict, found, ap (λ (s : ℕ). output_alone s (verdict_line verdict)) is), inl refl, written)

  pub plan_works : (input : Option (List ℕ)) (options : PlanOptions) → IfSome input (λ bytes. (text : List ℕ) × IsPlanned options bytes text × Appends old new text)
      → WorksOn (Plan options) input [] old new 0
  plan_works None options works = tt
  plan_works (Some bytes) options (text, planned, written) = (text, [], inl (text, planned, refl), inl refl, written)

  pub stress_works : (input : Option (List ℕ)) (options : StressOptions) → IfSome input (λ bytes. (text : List ℕ) × IsStressed options bytes text × Appends old new text)
      → WorksOn (Stress options) input [] old new 0
  stress_works None options works = tt
  stress_works (Some bytes) options (text, stressed, written) = (text, [], inl (text, stressed, refl), inl refl, written)

  pub profile_works : (input : Option (List ℕ)) (options : ProfileOptions) → IfSome input (λ bytes. (text : List ℕ) × profile.IsPlanned options bytes text × Appends old new text)
      → WorksOn (Profile options) input [] old new 0
  profile_works None options works = tt
  profile_works (Some bytes) options (text, planned, written) = (text, [], inl (text, planned, refl), inl refl, written)

-- the work is done for what is asked where the input is not refused
pub works_unrefused : (asked : Asked) (bytes : List ℕ) (known : List RefusedEvent) (old new : Option (List ℕ)) (status : ℕ) → refused_at asked bytes ≡ None
    → WorksOn asked.request (Some bytes) known old new status → Works asked (Some bytes) known old new status
works_unrefused asked bytes known old new status none (text, refused, answer, are, written) =
    (text, refused, subst (λ o. IsAnswerUnless o asked.request bytes (answered status text refused)) (sym none) answer, are, written)

not_refused : (strict : Bool) (found : Option ℕ) → strict ≡ false → (if strict then found else None) ≡ None
not_refused true found is = cc
not_refused false found is = refl

-- an input that no key is looked for in is not refused for one
pub plain_unrefused : (asked : Asked) → asked.reading.strict ≡ false → (bytes : List ℕ) → refused_at asked bytes ≡ None
plain_unrefused asked plain bytes = not_refused asked.reading.strict (unread_in (form_of asked.request) bytes) plain

module _ (asked : Asked) (never : (bytes : List ℕ) → refused_at asked bytes ≡ None) where
  unrefused : (input : Option (List ℕ)) → IfSome input (λ bytes. refused_at asked bytes ≡ None)
  unrefused None = tt
  unrefused (Some bytes) = never bytes

  pub works_plain : (input : Option (List ℕ)) (known : List RefusedEvent) (old new : Option (List ℕ)) (status : ℕ) → WorksOn asked.request input known old new status → Works asked input known old new status
  works_plain None known old new status works = works
  works_plain (Some bytes) known old new status works = works_unrefused asked bytes known old new status (never bytes) works

  pub fails_plain : (input old new : Option (List ℕ)) (A B : Type 0) (e : Fault) → FailsOn asked.request input old new A B e → FailsIn asked input old new A B e
  fails_plain input old new A B e fails = inr (unrefused input, fails)

-- What holds of the bytes that were read holds of those that a reader had left, where these are known to be the same.
module _ (asked : Asked) (bytes : List ℕ) where
  pub works_whole : (input : Option (List ℕ)) (events : List RefusedEvent) (old new : Option (List ℕ)) (status : ℕ) → IfSome input (λ all. bytes ≡ all)
      → Works asked (Some bytes) events old new status → Works asked input events old new status
  works_whole None events old new status same works = tt
  works_whole (Some all) events old new status same works = subst (λ bs. Works asked (Some bs) events old new status) same works

  unknown : (request : Request) (old new : Option (List ℕ)) (A B : Type 0) (e : Fault) → FailsOn request (Some bytes) old new ⊥ B e → FailsOn request None old new A B e
  unknown (Run options) old new A B e fails = inr tt
  unknown Check old new A B e (inl (kept, unread)) = inl (kept, inr (inr tt))
  unknown Check old new A B e (inr (verdict, found, cut)) = inr (verdict, tt, cut)
  unknown CheckProfile old new A B e (inl (kept, unread)) = inl (kept, inr (inr tt))
  unknown CheckProfile old new A B e (inr (verdict, found, cut)) = inr (verdict, tt, cut)
  unknown (Plan options) old new A B e (inl (kept, unread)) = inl (kept, inr (inr tt))
  unknown (Plan options) old new A B e (inr (text, planned, cut)) = inr (text, tt, cut)
  unknown (Stress options) old new A B e (inl (kept, inl unread), script) = (inl (kept, inl (inr (inr tt))), λ is. tt)
  unknown (Stress options) old new A B e (inl (kept, inr reader), script) = (inl (kept, inr reader), λ is. tt)
  unknown (Stress options) old new A B e (inr (text, stressed, cut), script) = (inr (text, tt, cut), λ is. tt)
  unknown (Profile options) old new A B e (inl (kept, unread)) = inl (kept, inr (inr tt))
  unknown (Profile options) old new A B e (inr (text, planned, cut)) = inr (text, tt, cut)

  known : (all : List ℕ) (old new : Option (List ℕ)) (A B : Type 0) (e : Fault) → FailsIn asked (Some all) old new ⊥ B e → FailsIn asked (Some all) old new A B e
  known all old new A B e (inl (kept, unread)) = inl (kept, unread_by old new ⊥ A B e all (λ same never. absurd never) (IsRefusal asked) unread)
  known all old new A B e (inr (none, fails)) = inr (none, fails_by old new ⊥ A B e all (λ same never. absurd never) asked.request fails)

  pub fails_whole : (input old new : Option (List ℕ)) (A B : Type 0) (e : Fault) → IfSome input (λ all. bytes ≡ all) → FailsIn asked (Some bytes) old new ⊥ B e → FailsIn asked input old new A B e
  fails_whole None old new A B e same (inl (kept, unread)) = inl (kept, inr (inr tt))
  fails_whole None old new A B e same (inr (none, fails)) = inr (tt, unknown asked.request old new A B e fails)
  fails_whole (Some all) old new A B e same fails = known all old new A B e (subst (λ bs. FailsIn asked (Some bs) old new ⊥ B e) same fails)

  -- the same of an end that may be none
  pub fails_end : (input old new : Option (List ℕ)) (A B : Type 0) (end : Result ℕ Fault) → IfSome input (λ all. bytes ≡ all)
      → IfErr end (FailsIn asked (Some bytes) old new ⊥ B) → IfErr end (FailsIn asked input old new A B)
  fails_end input old new A B (Ok status) same fails = tt
  fails_end input old new A B (Err e) same fails = fails_whole input old new A B e same fails

  pub help_whole : (input : Option (List ℕ)) (end : Result ℕ Fault) (events : List RefusedEvent) (help : List ℕ) → IfSome input (λ all. bytes ≡ all)
      → IsHelp asked (Some bytes) end events help → IsHelp asked input end events help
  help_whole (Some all) end events help same helped = subst (λ bs. IsHelp asked (Some bs) end events help) same helped
  help_whole None (Ok status) events help same helped = record { unexplained = helped.unexplained; silent = tt; explained = tt }
  help_whole None (Err e) events help same helped = record { unexplained = helped.unexplained; silent = tt; explained = tt }

-- help that speaks of no refused event
pub plain_help : (request : Request) (bytes : List ℕ) (fault : Option InputFault) (help : List ℕ) → IsExplained request bytes fault help → IsExplainedWith request bytes fault [] help
plain_help request bytes fault help explained = (help, [], sym (append-nil help), explained, inl refl)

-- where there is no help, nothing is to be explained
pub none_helped : (asked : Asked) (input : Option (List ℕ)) (end : Result ℕ Fault) (help : List ℕ) → help ≡ [] → IsHelp asked input end [] help
none_helped asked None (Ok status) help none = record { unexplained = λ plain. none; silent = tt; explained = tt }
none_helped asked None (Err e) help none = record { unexplained = λ plain. none; silent = tt; explained = tt }
none_helped asked (Some bytes) (Ok status) help none = record { unexplained = λ plain. none; silent = λ read clear. none; explained = plain_help asked.request bytes _ help (inl none) }
none_helped asked (Some bytes) (Err e) help none = record { unexplained = λ plain. none; silent = tt; explained = plain_help asked.request bytes _ help (inl none) }

-- the help for an input that is refused for a key
pub refused_helped : (asked : Asked) (bytes : List ℕ) (at : ℕ) (help : List ℕ) → refused_at asked bytes ≡ Some at
    → IsExplained asked.request bytes (Some BadShape) help → (asked.reading.explain ≡ false → help ≡ []) → IsHelp asked (Some bytes) (Err (unread_fault at)) [] help
refused_helped asked bytes at help is explained plain =
    record {
      unexplained = plain;
      silent = tt;
      explained = subst (λ o. IsExplainedWith asked.request bytes (fault_explained o (Some (unread_fault at))) [] help) (sym is) (plain_help asked.request bytes (Some BadShape) help explained);
    }

-- the help for the end of the work, over an input that is not refused
module _ (asked : Asked) (bytes : List ℕ) (fault : Option InputFault) (help : List ℕ) (unrefused : refused_at asked bytes ≡ None) (explained : IsExplained asked.request bytes fault help) where
  explained_as : (o : Option Fault) → fault ≡ fault_told o → IsExplainedWith asked.request bytes (fault_explained (refused_at asked bytes) o) [] help
  explained_as o is =
      subst (λ r. IsExplainedWith asked.request bytes (fault_explained r o) [] help) (sym unrefused)
      (subst (λ (f : Option InputFault). IsExplainedWith asked.request bytes f [] help) is (plain_help asked.request bytes fault help explained))

  pub worked_helped : (end : Result ℕ Fault) → fault ≡ fault_told (fault_at end) → (asked.reading.explain ≡ false → help ≡ [])
      → (fault ≡ None → unread_in (form_of asked.request) bytes ≡ None → help ≡ []) → IsHelp asked (Some bytes) end [] help
  worked_helped (Ok status) is plain silent = record { unexplained = plain; silent = λ read clear. silent is read; explained = explained_as None is }
  worked_helped (Err e) is plain silent = record { unexplained = plain; silent = tt; explained = explained_as (Some e) is }

-- help, and behind it the lines of the refused events that are known
module _ (asked : Asked) (bytes : List ℕ) (status : ℕ) (known : List RefusedEvent) (help events all : List ℕ) (plain : asked.reading.explain ≡ false → all ≡ help)
    (helped : IsHelp asked (Some bytes) (Ok status) [] help) (are : all ≡ help ++ events) (named : (events ≡ []) ⊎ NamesRefused known events) where
  none_of : (es : List ℕ) → (es ≡ []) ⊎ NamesRefused [] es → es ≡ []
  none_of es (inl none) = none
  none_of es (inr none) = none

  silent_of : unread_in (form_of asked.request) bytes ≡ None → known ≡ [] → all ≡ []
  silent_of read clear =
      let no_help = helped.silent read refl in
      let no_events = none_of events (subst (λ (k : List RefusedEvent). (events ≡ []) ⊎ NamesRefused k events) clear named) in
      are ∙ rw (no_help, no_events) refl

  explained_of : (cause : Option InputFault) → IsExplainedWith asked.request bytes cause [] help → IsExplainedWith asked.request bytes cause known all
  explained_of cause (front, before, split, explained, told) =
      let same : help ≡ front = split ∙ (ap (λ (es : List ℕ). front ++ es) (none_of before told) ∙ append-nil front) in
      (front, events, are ∙ ap (λ (xs : List ℕ). xs ++ events) same, explained, named)

  pub known_helped : IsHelp asked (Some bytes) (Ok status) known all
  known_helped = record {
    unexplained = λ not. plain not ∙ helped.unexplained not;
    silent = silent_of;
    explained = explained_of _ helped.explained;
  }

ends_at : (A B : Type 0) (k : TextFault) → IsEndOf (HasFailed 0 0) B k → IsEndOf A B k
ends_at A B (Input cause) end = end
ends_at A B ReadFailed end = absurd (end refl)
ends_at A B WriteFailed end = end
ends_at A B NoReader end = end

-- the failures of a reader that never fails say nothing
pub honest_whole : (worked : Result ℕ Fault) (reads_old reads_new writes_old writes_new : ℕ) → reads_new ≡ reads_old
    → IsHonest worked 0 0 writes_old writes_new → IsHonest worked reads_old reads_new writes_old writes_new
honest_whole (Ok status) reads_old reads_new writes_old writes_new same honest = (same, honest.1)
honest_whole (Err e) reads_old reads_new writes_old writes_new same honest =
    ends_at (HasFailed reads_old reads_new) (HasFailed writes_old writes_new) e.kind honest

long_is_no_reader : too_long ≢ NoReader
long_is_no_reader is = cc

-- an input that is too long has that fault in any form, and no key that is refused
module _ (bytes : List ℕ) (long : most_bytes < length bytes) where
  is_long : json_of_input bytes ≡ Err (outside too_long)
  is_long = rw (lt-leb (length bytes) most_bytes long) refl

  none_unread : (form : Option InputForm) → unread_in form bytes ≡ None
  unfolding first_unread
  none_unread None = refl
  none_unread (Some form) = ap (first_of_read form) is_long

  none_refused : (strict : Bool) (form : Option InputForm) → (if strict then unread_in form bytes else None) ≡ None
  none_refused true form = none_unread form
  none_refused false form = refl

  long_fails : (request : Request) (old : Option (List ℕ)) (A B : Type 0) → form_of request ≢ None → FailsOn request (Some bytes) old old A B (outside too_long)
  long_fails (Run options) old A B formed = inl (Keeps-refl old, inr (inr (inl (ap (λ d. d >>= script_of) is_long))))
  long_fails Check old A B formed = inl (Keeps-refl old, inr (inr (inl (ap (λ d. d >>= (λ value. at_place 0 (rows_at (Some (codes "problem")) value))) is_long))))
  long_fails CheckProfile old A B formed = absurd (formed refl)
  long_fails (Plan options) old A B formed = inl (Keeps-refl old, inr (inr (inl (ap (λ d. d >>= (λ value. at_place 0 (rows_at None value))) is_long))))
  long_fails (Stress options) old A B formed =
      (inl (Keeps-refl old, inl (inr (inr (inl (ap (λ d. d >>= script_of) is_long))))), λ is. absurd (long_is_no_reader (ap (λ f. f.kind) is)))
  long_fails (Profile options) old A B formed = absurd (formed refl)

-- an input that could not be read to its end
module _ (asked : Asked) (old : Option (List ℕ)) (A B : Type 0) (formed : form_of asked.request ≢ None) where
  too_long_fails : (input : Option (List ℕ)) → IfSome input (λ bytes. most_bytes < length bytes) → FailsIn asked input old old A B (outside too_long)
  too_long_fails None long = inl (Keeps-refl old, inr (inr tt))
  too_long_fails (Some bytes) long = inr (none_refused bytes long asked.reading.strict (form_of asked.request), long_fails bytes long asked.request old A B formed)

  pub unread_fails : (input : Option (List ℕ)) (k : TextFault) → (k ≡ no_memory) ⊎ (k ≡ too_long) ⊎ (k ≡ ReadFailed)
      → (k ≡ too_long → IfSome input (λ bytes. most_bytes < length bytes)) → (k ≡ ReadFailed → A) → FailsIn asked input old old A B (outside k)
  unread_fails input k (inl memory) long failed = inl (Keeps-refl old, inl (ap outside memory))
  unread_fails input k (inr (inl is)) long failed = subst (λ kind. FailsIn asked input old old A B (outside kind)) (sym is) (too_long_fails input (long is))
  unread_fails input k (inr (inr is)) long failed = inl (Keeps-refl old, inr (inl (ap outside is, failed is)))

-- an input that has the lines of a profile could not be kept
form_is_none : (form : InputForm) → Some form ≡ None → ⊥
form_is_none form is = cc

formless_unread : (strict : Bool) (form : Option InputForm) (bytes : List ℕ) → form ≡ None → (if strict then unread_in form bytes else None) ≡ None
formless_unread true None bytes formless = refl
formless_unread true (Some form) bytes formless = absurd (form_is_none form formless)
formless_unread false form bytes formless = refl

formless_fails : (request : Request) (input old : Option (List ℕ)) (A B : Type 0) (e : Fault) → form_of request ≡ None → IsUnread (IsFaultOf request) input A e → FailsOn request input old old A B e
formless_fails (Run options) input old A B e formless unread = absurd (form_is_none _ formless)
formless_fails Check input old A B e formless unread = absurd (form_is_none _ formless)
formless_fails CheckProfile input old A B e formless unread = inl (Keeps-refl old, unread)
formless_fails (Plan options) input old A B e formless unread = absurd (form_is_none _ formless)
formless_fails (Stress options) input old A B e formless unread = absurd (form_is_none _ formless)
formless_fails (Profile options) input old A B e formless unread = inl (Keeps-refl old, unread)

pub lines_fail : (asked : Asked) (input old : Option (List ℕ)) (A B : Type 0) (e : Fault) → form_of asked.request ≡ None → IsUnread (IsFaultOf asked.request) input A e
    → FailsIn asked input old old A B e
lines_fail asked input old A B e formless unread =
    fails_plain asked (λ bytes. formless_unread asked.reading.strict (form_of asked.request) bytes formless) input old old A B e
    (formless_fails asked.request input old A B e formless unread)

-- The work over the lines of a profile, of which none is refused for a key.
module _ (asked : Asked) (bytes : List ℕ) (formless : form_of asked.request ≡ None) where
  formless_unrefused : refused_at asked bytes ≡ None
  formless_unrefused = formless_unread asked.reading.strict (form_of asked.request) bytes formless

  pub formless_works : (known : List RefusedEvent) (old new : Option (List ℕ)) (end : Result ℕ Fault) → IfOk end (WorksOn asked.request (Some bytes) known old new)
      → IfOk end (Works asked (Some bytes) known old new)
  formless_works known old new (Ok status) works = works_unrefused asked bytes known old new status formless_unrefused works
  formless_works known old new (Err e) works = tt

  pub formless_ends : (old new : Option (List ℕ)) (A B : Type 0) (end : Result ℕ Fault) → IfErr end (FailsOn asked.request (Some bytes) old new A B)
      → IfErr end (FailsIn asked (Some bytes) old new A B)
  formless_ends old new A B (Ok status) fails = tt
  formless_ends old new A B (Err e) fails = inr (formless_unrefused, fails)

  pub formless_helped : (end : Result ℕ Fault) (fault : Option InputFault) (help : List ℕ) → fault ≡ fault_told (fault_at end) → IsExplained asked.request bytes fault help
      → (asked.reading.explain ≡ false → help ≡ []) → (fault ≡ None → help ≡ []) → IsHelp asked (Some bytes) end [] help
  formless_helped end fault help is explained plain silent = worked_helped asked bytes fault help formless_unrefused explained end is plain (λ none read. silent none)
