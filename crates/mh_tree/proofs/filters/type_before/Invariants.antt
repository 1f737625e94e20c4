use Rattle.std.proofs.Common.{◌≡◌, ◌+◌, ◌++◌, take, drop, length}
use Rattle.std.specs.Prelude.{IfSome}
use Rattle.std.specs.List.{All}
use Rattle.mh_tree.specs.Handle.{TypedTree, IsSound}
use Rattle.mh_tree.specs.Constructors.{taken_kinds}
use Rattle.mh_tree.proofs.filters.type_before.Given as goal

-- the filters that are left, on the kinds so far, give what all of them give
abbrev pub invariant-loop-index : goal.invariant-loop-index
invariant-loop-index l = record {
  ret : l.made.ret ≡ l.target.ret;
  same : take (l.position + l.index) l.made.parameters ++ taken_kinds (drop l.index l.filters) (drop (l.position + l.index) l.made.parameters)
      ≡ take l.position l.target.parameters ++ taken_kinds l.filters (drop l.position l.target.parameters);
  sound : All (λ o. IfSome o (λ (f : TypedTree). IsSound f.tree f.signature)) (take l.index l.filters);
  count : length l.made.parameters ≡ length l.target.parameters;
}
