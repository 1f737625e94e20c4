use Rattle.std.proofs.Common.{◌≡◌, map, take}
use Rattle.mh_tree.specs.Typing.{kind_at}
use Rattle.mh_tree.proofs.reordering.gives_kinds.Given as goal

abbrev pub invariant-loop-index : goal.invariant-loop-index
invariant-loop-index l = take l.index l.wanted ≡ map (λ i. kind_at l.kinds i) (take l.index l.places)
