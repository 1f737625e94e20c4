use Rattle.std.proofs.Common.{◌≡◌, take}
use Rattle.mh_code.proofs.comparing.same_values.Given as goal

abbrev pub invariant-loop-index : goal.invariant-loop-index
invariant-loop-index l = take l.index l.some ≡ take l.index l.others
