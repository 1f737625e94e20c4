-- The effects of a command line on its streams.
use Rattle.std.specs.Prelude.{◌≡◌, ◌≢◌, ◌⊎◌, ℕ, List, [], ◌++◌, Option}
use Rattle.std.specs.Io.KnownBytes.{Appends, Keeps}
use Rattle.mh_text.specs.Bytes.{HasFailed}
use Rattle.mh_json.specs.Faults.{fault_line}
use Rattle.mh_json.specs.declared.fault.Fault.{Fault}
use Rattle.mh_command.specs.Statuses.{status_told}

-- known bytes grow by a prefix of a text, which may be all of it
abbrev pub AppendsBeginning : Option (List ℕ) → Option (List ℕ) → List ℕ → Type 0
AppendsBeginning old new text = (front rest : List ℕ) × (text ≡ front ++ rest) × Appends old new front

-- The numbers are the failures of the stream before and after.
module _ (old new : Option (List ℕ)) (failures_old failures_new : ℕ) where
  -- nothing was written, and nothing failed
  abbrev pub IsIdle : Type 0
  IsIdle = Keeps old new × (failures_new ≡ failures_old)

  -- a text was written, and nothing failed
  abbrev pub IsWritten : List ℕ → Type 0
  IsWritten text = Appends old new text × (failures_new ≡ failures_old)

  -- the stream failed after a prefix of a text was written
  abbrev pub IsCut : List ℕ → Type 0
  IsCut text = HasFailed failures_old failures_new × AppendsBeginning old new text

  -- a text was not written whole: the stream failed, or memory ran out before it
  abbrev pub IsKeptBack : List ℕ → ℕ → Type 0
  IsKeptBack text status = ((status ≡ 3) × IsCut text) ⊎ ((status ≡ 4) × IsIdle)

  -- the line of a fault was written with its explanation, and the status is its own; or this was not written whole
  abbrev pub IsTold : List ℕ → ℕ → Fault → Type 0
  IsTold help status e =
      ((status ≡ status_told e.kind) × IsWritten (fault_line e ++ help)) ⊎ IsKeptBack (fault_line e ++ help) status

  -- a non-empty text was written, with this status; or it was not written whole
  abbrev pub IsShown : ℕ → ℕ → Type 0
  IsShown status wanted = (text : List ℕ) × (text ≢ []) × (((status ≡ wanted) × IsWritten text) ⊎ IsKeptBack text status)

  -- there was no fault to write, and the rest was written; or it was not written whole
  abbrev pub IsDone : List ℕ → ℕ → ℕ → Type 0
  IsDone help status wanted = ((status ≡ wanted) × IsWritten help) ⊎ ((help ≢ []) × (status ≡ 3) × IsCut help)
