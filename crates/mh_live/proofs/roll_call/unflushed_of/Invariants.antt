use Rattle.std.proofs.Common.{◌≡◌, ◌*◌, ◌^◌, ◌≤◌, take}
use Rattle.mh_live.specs.Settled.{unflushed_by}
use Rattle.mh_live.proofs.roll_call.unflushed_of.Given as goal

abbrev pub invariant-loop-pass : goal.invariant-loop-pass
invariant-loop-pass g l = record { so_far : l.hits ≡ unflushed_by (take l.pass-index l.passes) l.link; within : l.hits ≤ l.pass-index * 2 ^ 62 }
