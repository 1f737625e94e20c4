-- A script that was not read of its JSON value, and where a run of it ends early.
use Rattle.std.proofs.Common.{◌≡◌, inl, inr, refl, ℕ, List, Option, Some, Result, Ok, Err, IfErr}
use Rattle.serde_json.specs.Data.{Data}
use Rattle.mh_json.specs.Gives.{GivesUpTo}
use Rattle.mh_text.specs.Output.{EndsEarly, EndsReadingBy, FailedBy, IsUnread}
use Rattle.mh_json.specs.Script.{script_of, IsReached}
use Rattle.mh_json.specs.declared.fault.Fault.{Fault}
use Rattle.mh_json.specs.declared.json.script.Script.{Script}
use Rattle.mh_text.specs.declared.streams.run.RunOptions.{RunOptions}

-- its first fault, or memory ran out
pub script_unread : (d : Data) (e : Fault) → GivesUpTo {X = Script} (IsReached d) (Err e) (script_of d) → IsUnread (EndsReadingBy Ok) (Some d) ⊥ e
script_unread d e (inl memory) = inl memory
script_unread d e (inr (inl (memory, reached))) = inr (inr (inr (memory, (d, refl, reached))))
script_unread d e (inr (inr same)) = inr (inr (inl same))

-- how a run of the script ended early
pub run_failed : {X : Type 0} (d : Data) (options : RunOptions) (script : Script) → script_of d ≡ Ok script → (old new : Option (List ℕ)) (B : Type 0) (r : Result X Fault)
    → IfErr r (EndsEarly options script old new B) → IfErr r (FailedBy Ok options (Some d) old new ⊥ B)
run_failed d options script is old new B (Ok x) early = tt
run_failed d options script is old new B (Err e) early = inr (script, is, early)
