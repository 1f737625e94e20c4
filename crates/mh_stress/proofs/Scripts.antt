-- The fault of an input is never that of readers of a published world; what is written of a script.
use Rattle.std.proofs.Common.{◌≡◌, inl, inr, ℕ, ◌+◌, Bool, true, false, List, [], ◌∷◌, Option, Some, None, Result, Ok, Err, IfErr, IfSome, ap, subst, sym, ◌∙◌}
use Rattle.std.specs.Prelude.{⊤, MatchResult, if◌then◌else◌, nat_le, length}
use Rattle.serde_json.specs.Data.{Data}
use Rattle.mh_json.specs.Inputs.{most_bytes, json_in, json_of_input}
use Rattle.mh_json.specs.Gives.{◌>>=◌, at_place, no_memory, outside}
use Rattle.mh_text.specs.Output.{EndsReadingBy, IsUnread}
use Rattle.mh_json.specs.Script.{script_by, script_of_input, preamble_of, script_of, step_list_of, step_of, steps_of}
use Rattle.mh_json.specs.Misreads.{MisreadData, here}
use Rattle.mh_json.specs.Shape.{each_from, list_of, part_of}
use Rattle.mh_json.specs.declared.fault.Fault.{Fault}
use Rattle.mh_json.specs.declared.fault.InputFault.TheVariants.{TooLong}
use Rattle.mh_json.specs.declared.fault.TextFault.TheVariants.{NoReader, ReadFailed}
use Rattle.mh_json.specs.declared.key.Field.TheVariants as field
use Rattle.mh_json.specs.declared.json.declarations.Declarations.{Declarations}
use Rattle.mh_text.specs.Planning.{IsCutShort}
use Rattle.mh_json.specs.declared.json.script.Script.{Script}
use Rattle.mh_stress.specs.Stress.{FailsStressBy, IsScriptBy, IsSettledTextOf}
use Rattle.mh_stress.specs.declared.stress.StressOptions.{StressOptions}

-- a result has no such fault
abbrev pub HasNone : {A : Type 0} → Result A Fault → Type 0
HasNone (Ok x) = ⊤
HasNone (Err e) = e.kind ≡ NoReader → ⊥

placed : {A : Type 0} (n : ℕ) (r : Result A MisreadData) → HasNone (at_place n r)
placed n (Ok x) = tt
placed n (Err e) = λ is. cc

followed : {A B : Type 0} (r : Result A Fault) (f : A → Result B Fault) → HasNone r → ((x : A) → HasNone (f x)) → HasNone (r >>= f)
followed (Ok x) f none more = more x
followed (Err e) f none more = none

each_none : {A : Type 0} (f : ℕ → _ → Result A Fault) → ((n : ℕ) (d : _) → HasNone (f n d)) → (n : ℕ) (ds : List _) → HasNone (each_from f n ds)
each_none f none n [] = tt
each_none f none n (d ∷ ds) = followed (f n d) _ (none n d) (λ x. followed (each_from f (n + 1) ds) _ (each_none f none (n + 1) ds) (λ xs. tt))

steps_none : (declared : Declarations) (ds : List _) → HasNone (steps_of declared ds)
steps_none declared ds = each_none (λ n d. at_place n (step_of declared d)) (λ n d. placed n (step_of declared d)) 1 ds

step_list_none : (declared : Declarations) (d : _) → HasNone (step_list_of declared d)
step_list_none declared d =
    followed (at_place 0 (part_of field.Events d)) _ (placed 0 (part_of field.Events d)) (λ events.
    followed (at_place 0 (list_of events)) _ (placed 0 (list_of events)) (λ ds. steps_none declared ds))

pub script_none : (d : _) → HasNone (script_of d)
script_none d =
    followed (at_place 0 (preamble_of d)) _ (placed 0 (preamble_of d)) (λ preamble.
    followed (step_list_of preamble.declared d) _ (step_list_none preamble.declared d) (λ steps. tt))

chosen : {A : Type 0} (b : Bool) (n : ℕ) (r s : Result A MisreadData) → HasNone (if b then at_place n r else at_place n s)
chosen true n r s = placed n r
chosen false n r s = placed n s

pub input_none : (input : List ℕ) → HasNone (script_of_input input)
input_none input =
    followed (json_of_input input) script_of (chosen (nat_le (length input) most_bytes) 0 (json_in input) (Err (here TooLong))) script_none

memory_differs : no_memory ≡ NoReader → ⊥
memory_differs same = cc

read_differs : ReadFailed ≡ NoReader → ⊥
read_differs same = cc

-- that fault of reading comes of a script alone, which is never
module _ {X : Type 0} (json : X → Result Data Fault) where
  pub told_of_a_script : ((it : X) → HasNone (script_by json it)) → (source : Option X) (A : Type 0) (e : Fault) → IsUnread (EndsReadingBy json) source A e → e ≡ outside NoReader → IfSome source (IsScriptBy json)
  told_of_a_script none None A e unread is = tt
  told_of_a_script none (Some it) A e (inl memory) is = absurd (memory_differs (ap (λ f. f.kind) (sym memory ∙ is)))
  told_of_a_script none (Some it) A e (inr (inl (read, failed))) is = absurd (read_differs (ap (λ f. f.kind) (sym read ∙ is)))
  told_of_a_script none (Some it) A e (inr (inr (inl fault))) is = absurd (subst HasNone fault (none it) (ap (λ f. f.kind) is))
  told_of_a_script none (Some it) A e (inr (inr (inr (memory, reached)))) is = absurd (memory_differs (sym memory ∙ ap (λ f. f.kind) is))

  -- what is written of a script that was read, or a beginning of it
  pub stress_cut_short : (options : StressOptions) (source : Option X) (old new : Option (List ℕ)) (script : Script) (text : List ℕ) (A B : Type 0) (r : Result ⊤ Fault) → IfSome source (λ it. script_by json it ≡ Ok script) → IsSettledTextOf options script text
      → IfErr r (λ e. IsCutShort old new B e text) → IfErr r (λ e. FailsStressBy json options source old new A B e)
  stress_cut_short options source old new script text A B (Ok x) read settled cut = tt
  stress_cut_short options None old new script text A B (Err e) read settled cut = inr (text, tt, cut)
  stress_cut_short options (Some it) old new script text A B (Err e) read settled cut = inr (text, (script, read, settled), cut)

pub err_of : {E : Type 0} (r : Result ⊤ E) (P : Type 0) (Q : E → Type 0) → MatchResult r (λ x. P) Q → IfErr r Q
err_of (Ok x) P Q h = tt
err_of (Err e) P Q h = h
