-- A fault of a stream is reported if and only if that stream failed.
use Rattle.std.specs.Prelude.{ℕ, ◌≡◌, ◌≢◌, Result, Ok, Err}
use Rattle.mh_json.specs.declared.fault.Fault.{Fault}
use Rattle.mh_json.specs.declared.fault.TextFault.{TextFault}
use Rattle.mh_json.specs.declared.fault.TextFault.TheVariants as text
use Rattle.mh_json.specs.Gives.{IsEndOf}
use Rattle.mh_text.specs.Bytes.{HasFailed}

-- a fault of a stream is reported only if that stream failed, and success only if neither did
abbrev pub IsHonest : {A : Type 0} → Result A Fault → ℕ → ℕ → ℕ → ℕ → Type 0
IsHonest (Ok x) reads_old reads_new writes_old writes_new = (reads_new ≡ reads_old) × (writes_new ≡ writes_old)
IsHonest (Err e) reads_old reads_new writes_old writes_new = IsEndOf (HasFailed reads_old reads_new) (HasFailed writes_old writes_new) e.kind

-- the same for a function that has no writer
abbrev pub IsHonestReading : {A : Type 0} → Result A Fault → ℕ → ℕ → Type 0
IsHonestReading (Ok x) old new = new ≡ old
IsHonestReading (Err e) old new = IsEndOf (HasFailed old new) ⊥ e.kind

-- no stream failed other than the one that the fault names
abbrev pub NoOtherFailed : TextFault → ℕ → ℕ → ℕ → ℕ → Type 0
NoOtherFailed kind reads_old reads_new writes_old writes_new =
    (kind ≢ text.ReadFailed → reads_new ≡ reads_old) × (kind ≢ text.WriteFailed → writes_new ≡ writes_old)
