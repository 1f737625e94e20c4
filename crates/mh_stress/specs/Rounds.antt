-- The work of workers.
use Rattle.std.specs.Prelude.{ℕ, ◌≡◌, ◌≤◌, ◌<◌, ◌+◌, ◌*◌, ◌==◌, ◌&&◌, Bool, true, false, List, length, slice_index_or}
use Rattle.std.specs.List.{count_by}
use Rattle.mh_ledger.specs.Ledgers.{made, no_ledger}
use Rattle.mh_site.specs.Defined.{DefinitionData}
use Rattle.mh_core.specs.Hits.{hits}
use Rattle.mh_live.specs.Passes.{PassState, new_pass, new_passes}
use Rattle.mh_stress.specs.declared.division.Call.{Call}

-- one pass for each worker, in order, which has made no hit
pub record AreFresh (d : DefinitionData) (passes : List PassState) : Type 0 where
  pub limit : ℕ
  pub passes_are : passes ≡ new_passes d limit (length passes)

-- a call that this worker makes hits a link
abbrev pub hits_by : DefinitionData → ℕ → ℕ → Call → Bool
hits_by d w j c = (c.worker == w) && hits d c.site c.arguments j

-- how many of these calls do so
abbrev pub times_hit : DefinitionData → List Call → ℕ → ℕ → ℕ
times_hit d calls w j = count_by (hits_by d w j) calls

-- A call adds at most one hit, of a link that it hits.
pub record MakesCall (d : DefinitionData) (c : Call) (old new : PassState) : Type 0 where
  pub worker : new.ledger.worker ≡ old.ledger.worker
  pub hit : (j : ℕ) → hits_by d old.ledger.worker j c ≡ true → made new.ledger j ≤ made old.ledger j + 1
  pub miss : (j : ℕ) → hits_by d old.ledger.worker j c ≡ false → made new.ledger j ≤ made old.ledger j

-- After its calls a worker has made no other hits than theirs: one that is refused makes none.
pub record HasCalled (d : DefinitionData) (calls : List Call) (old new : PassState) : Type 0 where
  pub worker : new.ledger.worker ≡ old.ledger.worker
  pub hit : (j : ℕ) → made new.ledger j ≤ made old.ledger j + times_hit d calls old.ledger.worker j

-- the same after a number of rounds
pub record HasWorked (d : DefinitionData) (calls : List Call) (rounds : ℕ) (old new : PassState) : Type 0 where
  pub worker : new.ledger.worker ≡ old.ledger.worker
  pub hit : (j : ℕ) → made new.ledger j ≤ made old.ledger j + rounds * times_hit d calls old.ledger.worker j

abbrev pub pass_at : List PassState → ℕ → PassState
pass_at passes w = slice_index_or passes w (new_pass no_ledger)

-- all workers have done so
pub record HaveWorked (d : DefinitionData) (calls : List Call) (rounds : ℕ) (old new : List PassState) : Type 0 where
  pub count : length new ≡ length old
  pub each : (w : ℕ) → w < length old → HasWorked d calls rounds (pass_at old w) (pass_at new w)
