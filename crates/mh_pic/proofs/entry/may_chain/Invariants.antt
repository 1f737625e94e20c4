use Rattle.std.proofs.Common.{take}
use Rattle.mh_tree.specs.Typing.{kind_at}
use Rattle.mh_pic.specs.Chains.{HaveKind, HaveFewNeeds}
use Rattle.mh_pic.proofs.entry.may_chain.Given as goal

abbrev pub invariant-loop-entry : goal.invariant-loop-entry
invariant-loop-entry l = record {
  keys : HaveKind (kind_at l.base.parameters l.key_place) (take l.entry-index l.entries);
  few_needs : HaveFewNeeds (take l.entry-index l.entries);
}
