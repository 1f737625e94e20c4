use Rattle.std.proofs.Common.{◌≡◌, ◌++◌, take}
use Rattle.mh_code.proofs.index.Index.with_all.Given as goal

abbrev pub invariant-loop-row : goal.invariant-loop-row
invariant-loop-row l = l.index ≡ l.fn.self ++ take l.row-index l.rows
