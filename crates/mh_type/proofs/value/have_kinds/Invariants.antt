use Rattle.std.proofs.Common.{◌≡◌, map, take}
use Rattle.mh_type.specs.Kinds.{kind_of}
use Rattle.mh_type.proofs.value.have_kinds.Given as goal

abbrev pub invariant-loop-index : goal.invariant-loop-index
invariant-loop-index l = map kind_of (take l.index l.values) ≡ take l.index l.kinds
