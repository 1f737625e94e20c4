use Rattle.std.proofs.Common.{◌≡◌, ◌≤◌, ◌+◌, ◌++◌, length}
use Rattle.std.specs.Vec.{vec_capacity}
use Rattle.std.specs.Vec.Iter.{into_iter_items, into_iter_len}
use Rattle.mh_core.specs.Legal.{Run}
use Rattle.mh_core.proofs.machine.Machine.run.Given as goal

abbrev pub invariant-loop-event : goal.invariant-loop-event
invariant-loop-event l = record {
  next : (goal.iterator-loop-event).can_next l.event-iterator;
  finite : (goal.iterator-loop-event).is_finite l.event-iterator;
  all : l.yielded ++ into_iter_items l.event-iterator ≡ into_iter_items l.initial.event-iterator;
  left : into_iter_len l.event-iterator ≡ length (into_iter_items l.event-iterator);
  room : length l.replies.items + length (into_iter_items l.event-iterator) ≤ vec_capacity l.replies;
  setting : l.self.setting ≡ l.fn.self.setting;
  run : Run l.fn.self.setting l.fn.self.history l.yielded l.replies.items l.self.history;
}
