-- Inputs that are parted into lines and a plan, and what is read of them.
use Rattle.std.proofs.Common.{◌≡◌, ◌⊎◌, ℕ, List, [], Option, Some, None, Err, IfSome, inl, inr, sym, ap, ◌∙◌}
use Rattle.std.specs.Io.KnownBytes.{Keeps}
use Rattle.std.proofs.lemmas.List.{append-nil}
use Rattle.mh_network.specs.Problems.{ProblemData}
use Rattle.mh_cert.specs.declared.plan.Plan.{Plan}
use Rattle.mh_text.specs.Checks.{IsCutOff, IsFound}
use Rattle.mh_json.specs.Gives.{no_memory, outside}
use Rattle.mh_json.specs.declared.fault.Fault.{Fault}
use Rattle.mh_text.specs.declared.lines.verdict.Verdict.{Verdict}
use Rattle.mh_profile.specs.Claims.{FailsCheck, IsReadClaim, IsVerdict}
use Rattle.mh_profile.specs.Profiles.{profile_of}
use Rattle.mh_profile.specs.Readers.{resumed, Takes}
use Rattle.mh_profile.specs.declared.reader.LineReader.{LineReader}

-- a reader fails with the first fault of the lines that it takes
pub take_fails : (r : LineReader) (lines : List ℕ) (e : Fault) → ((input : List ℕ) → resumed r input ≡ profile_of input) → Takes r lines (Err e)
    → (e ≡ outside no_memory) ⊎ (profile_of lines ≡ Err e)
take_fails r lines e value (inl memory) = inl memory
take_fails r lines e value (inr fails) = inr (sym (value lines) ∙ (ap (resumed r) (sym (append-nil lines)) ∙ fails []))

-- what is found of a claim that an input has
pub found_in : (input : Option (List ℕ)) (p : ProblemData) (plan : Plan) (verdict : Verdict) → IfSome input (λ bytes. IsReadClaim bytes p plan) → IsFound p plan verdict
    → IfSome input (λ bytes. IsVerdict bytes verdict)
found_in None p plan verdict known found = known
found_in (Some bytes) p plan verdict claim found = (p, plan, claim, found)

-- a line that was not written to its end
pub unwritten : (input old new : Option (List ℕ)) (ReadHasFailed WriteHasFailed : Type 0) (e : Fault) (verdict : Verdict)
    → IfSome input (λ bytes. IsVerdict bytes verdict) → (Keeps old new × (e ≡ outside no_memory)) ⊎ IsCutOff old new WriteHasFailed e verdict
    → FailsCheck input old new ReadHasFailed WriteHasFailed e
unwritten input old new ReadHasFailed WriteHasFailed e verdict found (inl (kept, memory)) = inl (kept, inl memory)
unwritten input old new ReadHasFailed WriteHasFailed e verdict found (inr cut) = inr (verdict, found, cut)
