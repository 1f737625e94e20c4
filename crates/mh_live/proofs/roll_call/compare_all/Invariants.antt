use Rattle.std.proofs.Common.{take}
use Rattle.std.specs.List.{All}
use Rattle.mh_live.specs.Settled.{IsWithin}
use Rattle.mh_live.proofs.roll_call.compare_all.Given as goal

abbrev pub invariant-loop-pass : goal.invariant-loop-pass
invariant-loop-pass g l = All (IsWithin l.front) (take l.pass-index l.passes)
