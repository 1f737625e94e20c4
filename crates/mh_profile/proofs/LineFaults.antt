-- The fault of a line, at its number.
use Rattle.std.proofs.Common.{◌≡◌, ◌≢◌, ◌⊎◌, inl, inr, ℕ, Result, Err, ap, sym, ◌∙◌}
use Rattle.mh_json.specs.Gives.{at_place}
use Rattle.mh_json.specs.Misreads.{MisreadData}
use Rattle.mh_json.specs.declared.fault.Fault.{Fault}
use Rattle.mh_json.specs.declared.fault.InputFault.{InputFault}
use Rattle.mh_json.specs.declared.fault.InputFault.TheVariants.{NoMemory}
use Rattle.mh_json.specs.declared.fault.TextFault.TheVariants.{Input}
use Rattle.mh_profile.specs.declared.profile.Profile.{Profile}

abbrev fault_at : ℕ → InputFault → Result Profile Fault
fault_at n e = Err (record { kind = Input e; at = n })

pub line_fault : (n : ℕ) (read : Result Profile MisreadData) (m : MisreadData) (e : InputFault) → e ≢ NoMemory → m.fault ≡ e
    → (m.fault ≡ NoMemory) ⊎ (read ≡ Err m) → at_place n read ≡ Err (record { kind = Input e; at = n })
line_fault n read m e other same (inl memory) = absurd (other (sym same ∙ memory))
line_fault n read m e other same (inr is) = ap (at_place n) is ∙ ap (fault_at n) same
