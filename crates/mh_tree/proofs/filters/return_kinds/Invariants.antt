use Rattle.std.proofs.Common.{◌≡◌, drop}
use Rattle.mh_tree.specs.Constructors.{return_kinds}
use Rattle.mh_tree.proofs.filters.return_kinds.Given as goal

-- what is left decides
abbrev pub invariant-loop-index : goal.invariant-loop-index
invariant-loop-index l = return_kinds (drop l.index l.filters) (drop l.index l.kinds) ≡ return_kinds l.filters l.kinds
