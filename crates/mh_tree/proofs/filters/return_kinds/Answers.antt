use Rattle.std.proofs.Common.{◌∙◌, arith, rules}
use Rattle.mh_tree.proofs.FilterKinds.{returns_here, none_here}
use Rattle.mh_tree.proofs.filters.return_kinds.Goals.{in-Some+else-not-is, in_default}
use Rattle.mh_tree.proofs.filters.return_kinds.Goals as goal

pub loop-index-preserved : goal.loop-index-preserved
loop-index-preserved c = elim c.match-filter.branch [
  | in-Some+else-not-is w ↦
      returns_here c.args.filters.now c.args.kinds.now c.loop-index.index w.in-Some.filter (omega arith) (omega arith) (rw w.in-Some.is at c.index-filters-index.is) (search rules)
      ∙ c.loop-index.invariant
  | in_default w ↦
      none_here c.args.filters.now c.args.kinds.now c.loop-index.index (omega arith) (omega arith) (rw w.in_default.is at c.index-filters-index.is)
      ∙ c.loop-index.invariant
]
