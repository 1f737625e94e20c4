-- The state after a history, as a report shows it.
use Rattle.std.specs.Prelude.{ℕ, ◌+◌, List, [], ◌∷◌}
use Rattle.std.specs.List.{sum_by}
use Rattle.mh_network.specs.Problems.{kept_gain}
use Rattle.mh_site.specs.Defined.{DefinitionData}
use Rattle.mh_core.specs.declared.event.Event.{Event}
use Rattle.mh_core.specs.declared.event.Event.TheVariants.{Call, Flush, Target, Invalidate, Snapshot, Publish, Install}
use Rattle.mh_core.specs.declared.record.Record.{Record}
use Rattle.mh_core.specs.Hits.{unflushed}
use Rattle.mh_core.specs.Problems.{row}
use Rattle.mh_core.specs.Records.{numbers}

-- the number of calls
abbrev pub calls : List Event → ℕ
calls [] = 0
calls (Call w s a ∷ h) = calls h + 1
calls (Flush w ∷ h) = calls h
calls (Target s tree ∷ h) = calls h
calls (Invalidate points ∷ h) = calls h
calls (Snapshot ∷ h) = calls h
calls (Publish n plan ∷ h) = calls h
calls (Install m ∷ h) = calls h

-- the hits of a link by the calls of this many workers, of each since its last flush
abbrev pub unflushed_of_all : DefinitionData → List Event → ℕ → ℕ → ℕ
unflushed_of_all d h workers j = sum_by (λ w. unflushed d h w j) (numbers workers)

-- the gain of a link in the problem of a snapshot taken now
abbrev pub gain : DefinitionData → List Record → ℕ → ℕ
gain d r j = kept_gain (row d r j)
