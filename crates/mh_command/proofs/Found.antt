-- What is found of an input before the work over it.
use Rattle.std.proofs.Common.{◌≡◌, ◌⊎◌, ◌≤◌, ◌∙◌, inl, inr, refl, sym, ap, subst, append-nil, ℕ, Bool, true, false, List, [], length, Option, Some, None, Result, Ok, Err, codes}
use Rattle.std.proofs.lemmas.Bool.{le-leb}
use Rattle.std.specs.Prelude.{if◌then◌else◌, option_map}
use Rattle.std.proofs.KnownBytes.{Keeps-refl}
use Rattle.serde_json.specs.Data.{Data}
use Rattle.mh_json.specs.Inputs.{most_bytes, json_in, json_of_input}
use Rattle.mh_json.specs.Forms.{misread_by}
use Rattle.mh_json.specs.Gives.{IsEndOf, no_memory, ◌>>=◌, at_place, outside}
use Rattle.mh_json.specs.Misreads.{MisreadData, err_of}
use Rattle.mh_json.specs.Problems.{rows_at}
use Rattle.mh_json.specs.Script.{script_of}
use Rattle.mh_json.specs.declared.fault.Fault.{Fault}
use Rattle.mh_json.specs.declared.fault.InputFault.{InputFault}
use Rattle.mh_json.specs.declared.fault.InputFault.TheVariants.{BadShape, NoMemory}
use Rattle.mh_json.specs.declared.fault.TextFault.{TextFault}
use Rattle.mh_json.specs.declared.fault.TextFault.TheVariants.{Input, NoReader}
use Rattle.mh_json.specs.declared.json.form.InputForm.{InputForm}
use Rattle.mh_json.specs.declared.json.form.InputForm.TheVariants.{Script, Problem, Claim}
use Rattle.mh_explain.specs.Explanations.{ExplainsMisread, ExplainsRead}
use Rattle.mh_explain.specs.Unread.{first_of_read, first_unread, first_unread_in}
use Rattle.mh_command.specs.Answers.{FailsIn, FailsOn, IsFaultOf, IsHelp}
use Rattle.mh_command.specs.inner.Findings.{fault_in, first_refused, AreFindings, EndsBefore, IsExplainedIn, IsFaultBefore}
use Rattle.mh_command.specs.Readings.{fault_explained, fault_told, form_of, refused_at, unread_fault, unread_in, ExplainsAs, ExplainsFault, IsExplained, IsExplainedWith}
use Rattle.mh_command.specs.declared.request.Asked.{Asked}
use Rattle.mh_command.specs.declared.request.Request.{Request}
use Rattle.mh_command.specs.declared.request.Request.TheVariants.{Run, Check, CheckProfile, Plan, Stress, Profile}
use Rattle.mh_command.proofs.FirstFaults.{claim_fault, problem_fault, script_fault}
use Rattle.mh_command.proofs.Works.{none_helped, plain_help}

-- A fault for which the work is not begun is of the input.
pub cause_of : (asked : Asked) (bytes : List ℕ) (e : Fault) → EndsBefore asked bytes e → (cause : InputFault) × (e.kind ≡ Input cause)
cause_of asked bytes e (inl memory) = (NoMemory, ap (λ (f : Fault). f.kind) memory)
cause_of asked bytes e (inr (inl (at, refused, is))) = (BadShape, ap (λ (f : Fault). f.kind) is)
cause_of asked bytes e (inr (inr (none, cause, is, fault))) = (cause, is)

of_input : (A B : Type 0) (k : TextFault) (cause : InputFault) → k ≡ Input cause → IsEndOf A B k
of_input A B k cause is = subst (IsEndOf A B) (sym is) tt

-- no stream failed for it
pub before_honest : (asked : Asked) (bytes : List ℕ) (e : Fault) (A B : Type 0) → EndsBefore asked bytes e → IsEndOf A B e.kind
before_honest asked bytes e A B ends = let cause = cause_of asked bytes e ends in of_input A B e.kind cause.0 cause.1

input_is_no_reader : (e : Fault) (cause : InputFault) → e.kind ≡ Input cause → e ≡ outside NoReader → ⊥
input_is_no_reader e cause is same = let kind : e.kind ≡ NoReader = ap (λ (f : Fault). f.kind) same in cc

-- the first fault of the input ends the work of a request, with nothing written
first_fails : (request : Request) (bytes : List ℕ) (old : Option (List ℕ)) (A B : Type 0) (e : Fault) (cause : InputFault) → e.kind ≡ Input cause
    → IsFaultOf request bytes e → FailsOn request (Some bytes) old old A B e
first_fails (Run options) bytes old A B e cause is fault = inl (Keeps-refl old, inr (inr (inl fault)))
first_fails Check bytes old A B e cause is fault = inl (Keeps-refl old, inr (inr fault))
first_fails CheckProfile bytes old A B e cause is fault = inl (Keeps-refl old, inr (inr fault))
first_fails (Plan options) bytes old A B e cause is fault = inl (Keeps-refl old, inr (inr fault))
first_fails (Stress options) bytes old A B e cause is fault =
    (inl (Keeps-refl old, inl (inr (inr (inl fault)))), λ reader. absurd (input_is_no_reader e cause is reader))
first_fails (Profile options) bytes old A B e cause is fault = inl (Keeps-refl old, inr (inr fault))

pub before_fails : (asked : Asked) (bytes : List ℕ) (old : Option (List ℕ)) (A B : Type 0) (e : Fault) → EndsBefore asked bytes e → FailsIn asked (Some bytes) old old A B e
before_fails asked bytes old A B e (inl memory) = inl (Keeps-refl old, inl memory)
before_fails asked bytes old A B e (inr (inl refusal)) = inl (Keeps-refl old, inr (inr refusal))
before_fails asked bytes old A B e (inr (inr (none, cause, is, fault))) = inr (none, first_fails asked.request bytes old A B e cause is fault)

-- what an err is of, it is
err_is : {A : Type 0} (r : Result A MisreadData) (m : MisreadData) → err_of r ≡ Some m → r ≡ Err m
err_is (Ok x) m is = cc
err_is (Err e) m is = let same : e ≡ m = cc in ap (λ (m : MisreadData). Err m) same

false_is_no_true : (b : Bool) → b ≡ true → b ≡ false → ⊥
false_is_no_true b is not = cc

-- An input that is this value of JSON, and is read as this form.
module _ (asked : Asked) (form : InputForm) (bytes : List ℕ) (d : Data) (formed : form_of asked.request ≡ Some form) (json : json_of_input bytes ≡ Ok d) where
  unread_is : unread_in (form_of asked.request) bytes ≡ first_unread_in form d
  unfolding first_unread
  unread_is = ap (λ (o : Option InputForm). unread_in o bytes) formed ∙ ap (first_of_read form) json

  refused_is : refused_at asked bytes ≡ first_refused asked (first_unread_in form d)
  refused_is = ap (λ (o : Option ℕ). if asked.reading.strict then o else None) unread_is

  -- its first fault
  fault_of_form : (request : Request) → form_of request ≡ Some form → (m : MisreadData) → misread_by form d ≡ Some m
      → (fault_in m ≡ outside no_memory) ⊎ IsFaultOf request bytes (fault_in m)
  fault_of_form (Run options) is m found =
      let same : form ≡ Script = cc in inr (script_fault bytes d json m (err_is _ m (subst (λ (f : InputForm). misread_by f d ≡ Some m) same found)))
  fault_of_form Check is m found =
      let same : form ≡ Claim = cc in claim_fault bytes d json m (err_is _ m (subst (λ (f : InputForm). misread_by f d ≡ Some m) same found))
  fault_of_form CheckProfile is m found = cc
  fault_of_form (Plan options) is m found =
      let same : form ≡ Problem = cc in problem_fault bytes d json m (err_is _ m (subst (λ (f : InputForm). misread_by f d ≡ Some m) same found))
  fault_of_form (Stress options) is m found =
      let same : form ≡ Script = cc in inr (script_fault bytes d json m (err_is _ m (subst (λ (f : InputForm). misread_by f d ≡ Some m) same found)))
  fault_of_form (Profile options) is m found = cc

  explains_as : (fault : Option InputFault) (lines : List ℕ) → (fault ≡ None → misread_by form d ≡ None) → ExplainsMisread (misread_by form d) lines
      → ExplainsFault asked.request bytes fault lines
  explains_as None lines none explains = subst (λ (o : Option MisreadData). ExplainsMisread o lines) (none refl) explains
  explains_as (Some e) lines none explains =
      subst (λ (o : Option InputForm). ExplainsAs o asked.request bytes e lines) (sym formed)
      (λ of_part. subst (λ (j : Result Data Fault). ExplainsRead form j lines) (sym json) explains)

  explained_as : (fault : Option InputFault) (help : List ℕ) → (fault ≡ None → misread_by form d ≡ None)
      → IsExplainedIn (misread_by form d) (first_unread_in form d) help → IsExplained asked.request bytes fault help
  explained_as fault help none (inl nothing) = inl nothing
  explained_as fault help none (inr (lines, notes, is, explains, quiet)) =
      inr (lines, notes, is, explains_as fault lines none explains, λ read. quiet (sym unread_is ∙ read))

  silent_as : (help : List ℕ) → misread_by form d ≡ None → IsExplainedIn (misread_by form d) (first_unread_in form d) help
      → unread_in (form_of asked.request) bytes ≡ None → help ≡ []
  silent_as help none (inl nothing) read = nothing
  silent_as help none (inr (lines, notes, is, explains, quiet)) read =
      let no_lines : lines ≡ [] = subst (λ (o : Option MisreadData). ExplainsMisread o lines) none explains in
      let no_notes = quiet (sym unread_is ∙ read) in
      is ∙ rw (no_lines, no_notes) refl

  -- beside an end of the work, where it has no fault
  module _ (help : List ℕ) (explaining : asked.reading.explain ≡ true) (explained : IsExplainedIn (misread_by form d) (first_unread_in form d) help) where
    unexplained : asked.reading.explain ≡ false → help ≡ []
    unexplained not = absurd (false_is_no_true asked.reading.explain explaining not)

    help_of_end : misread_by form d ≡ None → (end : Result ℕ Fault) → IsHelp asked (Some bytes) end [] help
    help_of_end none (Ok status) =
        record { unexplained = unexplained; silent = λ read clear. silent_as help none explained read; explained = plain_help asked.request bytes _ help (explained_as (fault_explained (refused_at asked bytes) None) help (λ told. none) explained) }
    help_of_end none (Err e) =
        record { unexplained = unexplained; silent = tt; explained = plain_help asked.request bytes _ help (explained_as (fault_explained (refused_at asked bytes) (Some e)) help (λ told. none) explained) }

    -- beside a fault of it
    help_of_fault : (e : Fault) (cause : InputFault) → e.kind ≡ Input cause → IsHelp asked (Some bytes) (Err e) [] help
    help_of_fault e cause is =
        record { unexplained = unexplained; silent = tt; explained = plain_help asked.request bytes _ help (explained_as (fault_explained (refused_at asked bytes) (Some e)) help (told (refused_at asked bytes)) explained) }
      where
        told : (o : Option ℕ) → fault_explained o (Some e) ≡ None → misread_by form d ≡ None
        told (Some at) none = cc
        told None none =
            let some : fault_told (Some e) ≡ Some cause = ap (λ (k : TextFault). fault_told (Some (record { kind = k; at = 0 }))) is in
            cc

    ends_before : (e : Fault) → EndsBefore asked bytes e → AreFindings asked bytes (Some e) help
    ends_before e ends = let cause = cause_of asked bytes e ends in (ends, help_of_fault e cause.0 cause.1)

    unread_ends : (at : ℕ) → first_refused asked (first_unread_in form d) ≡ Some at → AreFindings asked bytes (Some (unread_fault at)) help
    unread_ends at is = ends_before (unread_fault at) (inr (inl (at, refused_is ∙ is, refl)))

    memory_ends : AreFindings asked bytes (Some (outside no_memory)) help
    memory_ends = ends_before (outside no_memory) (inl refl)

    misread_ends : (m : MisreadData) → misread_by form d ≡ Some m → first_refused asked (first_unread_in form d) ≡ None → AreFindings asked bytes (Some (fault_in m)) help
    misread_ends m found none = ends_before (fault_in m) (elim (fault_of_form asked.request formed m found) [
      | inl memory ↦ inl memory
      | inr fault ↦ inr (inr (refused_is ∙ none, m.fault, refl, fault))
    ])

    found_by : (refused : Option ℕ) (misread : Option MisreadData) → first_refused asked (first_unread_in form d) ≡ refused → misread_by form d ≡ misread
        → (fault : Option Fault) → IsFaultBefore refused misread fault → AreFindings asked bytes fault help
    found_by (Some at) misread none found fault is = subst (λ (o : Option Fault). AreFindings asked bytes o help) (sym is) (unread_ends at none)
    found_by None (Some m) none found fault (inl is) = subst (λ (o : Option Fault). AreFindings asked bytes o help) (sym is) memory_ends
    found_by None (Some m) none found fault (inr is) = subst (λ (o : Option Fault). AreFindings asked bytes o help) (sym is) (misread_ends m found none)
    found_by None None none found fault is = subst (λ (o : Option Fault). AreFindings asked bytes o help) (sym is) (refused_is ∙ none, help_of_end found)

-- what is found of an input that is this value of JSON
pub found_in : (asked : Asked) (form : InputForm) (bytes : List ℕ) (d : Data) (fault : Option Fault) (help : List ℕ) → form_of asked.request ≡ Some form → asked.reading.explain ≡ true
    → json_of_input bytes ≡ Ok d → IsFaultBefore (first_refused asked (first_unread_in form d)) (misread_by form d) fault
    → IsExplainedIn (misread_by form d) (first_unread_in form d) help → AreFindings asked bytes fault help
found_in asked form bytes d fault help formed explaining json before explained =
    found_by asked form bytes d formed json help explaining explained _ _ refl refl fault before

-- the same of what was read and looked at in parts
pub found_by_parts : (asked : Asked) (form : InputForm) (bytes : List ℕ) (d : Data) (refused : Option ℕ) (misread : Option MisreadData) (first : Option ℕ)
    (fault : Option Fault) (help : List ℕ) → form_of asked.request ≡ Some form → asked.reading.explain ≡ true → json_of_input bytes ≡ Ok d
    → refused ≡ first_refused asked first → first ≡ first_unread_in form d → misread ≡ misread_by form d
    → IsFaultBefore refused misread fault → IsExplainedIn misread first help → AreFindings asked bytes fault help
found_by_parts asked form bytes d refused misread first fault help formed explaining json is read same before explained =
    let refused_as : refused ≡ first_refused asked (first_unread_in form d) = is ∙ ap (λ (o : Option ℕ). first_refused asked o) read in
    let before_as = subst (λ (o : Option MisreadData). IsFaultBefore (first_refused asked (first_unread_in form d)) o fault) same (subst (λ (o : Option ℕ). IsFaultBefore o misread fault) refused_as before) in
    let explained_as = subst (λ (o : Option MisreadData). IsExplainedIn o (first_unread_in form d) help) same (subst (λ (o : Option ℕ). IsExplainedIn misread o help) read explained) in
    found_in asked form bytes d fault help formed explaining json before_as explained_as

-- the same where nothing is explained
pub unexplained_found : (asked : Asked) (form : InputForm) (bytes : List ℕ) (d : Data) (first : Option ℕ) (fault : Option Fault) (help : List ℕ) → form_of asked.request ≡ Some form
    → json_of_input bytes ≡ Ok d → first ≡ first_unread_in form d → fault ≡ option_map unread_fault (first_refused asked first) → help ≡ [] → AreFindings asked bytes fault help
unexplained_found asked form bytes d first fault help formed json read is none =
    subst (λ (o : Option Fault). AreFindings asked bytes o help) (sym is)
    (found (first_refused asked first) (refused_is asked form bytes d formed json ∙ ap (λ (o : Option ℕ). first_refused asked o) (sym read)))
  where
    found : (refused : Option ℕ) → refused_at asked bytes ≡ refused → AreFindings asked bytes (option_map unread_fault refused) help
    found (Some at) same = (inr (inl (at, same, refl)), none_helped asked (Some bytes) (Err (unread_fault at)) help none)
    found None same = (same, λ end. none_helped asked (Some bytes) end help none)

-- memory ran out before anything was found
pub memory_found : (asked : Asked) (bytes : List ℕ) (fault : Option Fault) (help : List ℕ) → fault ≡ Some (outside no_memory) → help ≡ [] → AreFindings asked bytes fault help
memory_found asked bytes fault help is none =
    subst (λ (o : Option Fault). AreFindings asked bytes o help) (sym is) (inl refl, none_helped asked (Some bytes) (Err (outside no_memory)) help none)

-- An input that is no JSON.
module _ (asked : Asked) (bytes : List ℕ) (e : Fault) (cause : InputFault) (is : e.kind ≡ Input cause) (json : json_of_input bytes ≡ Err e) where
  none_unread : (form : Option InputForm) → unread_in form bytes ≡ None
  unfolding first_unread
  none_unread None = refl
  none_unread (Some form) = ap (first_of_read form) json

  none_refused : refused_at asked bytes ≡ None
  none_refused = ap (λ (o : Option ℕ). if asked.reading.strict then o else None) (none_unread (form_of asked.request)) ∙ where_none asked.reading.strict
    where
      nothing : Option ℕ
      nothing = None

      where_none : (strict : Bool) → (if strict then nothing else None) ≡ None
      where_none true = refl
      where_none false = refl

  text_fault : (request : Request) (form : InputForm) → form_of request ≡ Some form → IsFaultOf request bytes e
  text_fault (Run options) form formed = ap (λ (j : Result Data Fault). j >>= script_of) json
  text_fault Check form formed = inl (ap (λ (j : Result Data Fault). j >>= (λ value. at_place 0 (rows_at (Some (codes "problem")) value))) json)
  text_fault CheckProfile form formed = cc
  text_fault (Plan options) form formed = inl (ap (λ (j : Result Data Fault). j >>= (λ value. at_place 0 (rows_at None value))) json)
  text_fault (Stress options) form formed = ap (λ (j : Result Data Fault). j >>= script_of) json
  text_fault (Profile options) form formed = cc

  text_explained : (form : InputForm) → form_of asked.request ≡ Some form → (help : List ℕ) → IsExplained asked.request bytes (Some cause) help
  text_explained form formed help =
      inr (
        help,
        [],
        sym (append-nil help),
        subst (λ (o : Option InputForm). ExplainsAs o asked.request bytes cause help) (sym formed)
            (λ of_part. subst (λ (j : Result Data Fault). ExplainsRead form j help) (sym json) tt),
        λ read. refl,
      )

  told_as : fault_explained (refused_at asked bytes) (Some e) ≡ Some cause
  told_as = ap (λ (o : Option ℕ). fault_explained o (Some e)) none_refused ∙ ap (λ (k : TextFault). fault_told (Some (record { kind = k; at = 0 }))) is

  text_helped : (form : InputForm) → form_of asked.request ≡ Some form → (help : List ℕ) → (asked.reading.explain ≡ false → help ≡ []) → IsHelp asked (Some bytes) (Err e) [] help
  text_helped form formed help plain =
      record {
        unexplained = plain;
        silent = tt;
        explained = subst (λ (f : Option InputFault). IsExplainedWith asked.request bytes f [] help) (sym told_as) (plain_help asked.request bytes (Some cause) help (text_explained form formed help));
      }

  text_found : (form : InputForm) → form_of asked.request ≡ Some form → (help : List ℕ) → (asked.reading.explain ≡ false → help ≡ []) → AreFindings asked bytes (Some e) help
  text_found form formed help plain = (inr (inr (none_refused, cause, is, text_fault asked.request form formed)), text_helped form formed help plain)

within : (bytes : List ℕ) → length bytes ≤ most_bytes → json_of_input bytes ≡ at_place 0 (json_in bytes)
within bytes short = rw (le-leb (length bytes) most_bytes short) refl

-- the value of an input within the limit
pub value_of_input : (bytes : List ℕ) (d : Data) → length bytes ≤ most_bytes → json_in bytes ≡ Ok d → json_of_input bytes ≡ Ok d
value_of_input bytes d short json = within bytes short ∙ ap (λ (r : Result Data MisreadData). at_place 0 r) json

-- what is found of an input that was misread as JSON
pub misread_found : (asked : Asked) (form : InputForm) (bytes : List ℕ) (m : MisreadData) (help : List ℕ) → form_of asked.request ≡ Some form
    → length bytes ≤ most_bytes → (m.fault ≡ NoMemory) ⊎ (json_in bytes ≡ Err m) → (asked.reading.explain ≡ false → help ≡ []) → (m.fault ≡ NoMemory → help ≡ [])
    → AreFindings asked bytes (Some (outside (Input m.fault))) help
misread_found asked form bytes m help formed short (inl memory) plain none =
    memory_found asked bytes _ help (ap (λ (k : InputFault). Some (outside (Input k))) memory) (none memory)
misread_found asked form bytes m help formed short (inr unread) plain none =
    text_found asked bytes (outside (Input m.fault)) m.fault refl (within bytes short ∙ ap (λ (r : Result Data MisreadData). at_place 0 r) unread) form formed help plain

-- ---- what is found, at the work
module _ (asked : Asked) (bytes : List ℕ) (fault : Option Fault) (help : List ℕ) (found : AreFindings asked bytes fault help) where
  at_fault : (e : Fault) → fault ≡ Some e → AreFindings asked bytes (Some e) help
  at_fault e is = subst (λ (o : Option Fault). AreFindings asked bytes o help) is found

  pub found_fails : (e : Fault) (old : Option (List ℕ)) (A B : Type 0) → fault ≡ Some e → FailsIn asked (Some bytes) old old A B e
  found_fails e old A B is = before_fails asked bytes old A B e (at_fault e is).0

  pub found_honest : (e : Fault) (A B : Type 0) → fault ≡ Some e → IsEndOf A B e.kind
  found_honest e A B is = before_honest asked bytes e A B (at_fault e is).0

  pub found_helps : (e : Fault) → fault ≡ Some e → IsHelp asked (Some bytes) (Err e) [] help
  found_helps e is = (at_fault e is).1

  at_none : fault ≡ None → AreFindings asked bytes None help
  at_none is = subst (λ (o : Option Fault). AreFindings asked bytes o help) is found

  pub none_refuses : fault ≡ None → refused_at asked bytes ≡ None
  none_refuses is = (at_none is).0

  pub none_helps : (end : Result ℕ Fault) → fault ≡ None → IsHelp asked (Some bytes) end [] help
  none_helps end is = (at_none is).1 end
