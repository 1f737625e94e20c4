use Rattle.std.proofs.Common.{◌≡◌, ◌≤◌, length}
use Rattle.std.specs.Arc.{arc_value}
use Rattle.mh_code.specs.PieceOf.{chain, routine_of, routines}
use Rattle.mh_code.proofs.switching.gather.Given as goal

abbrev pub invariant-loop : goal.invariant-loop
invariant-loop l = record {
  value : chain l.place l.chain.index (routines l.chain.targets.items) (routine_of (arc_value l.behind)) ≡ chain l.place l.fn.first.index (routines l.fn.first.targets.items) (routine_of (arc_value l.piece));
  few : length l.chain.index ≤ l.counter;
  even : length l.chain.index ≡ length l.chain.targets.items;
}
