use Rattle.std.proofs.Common.{◌≡◌, List, [], length, take, true, false}
use Rattle.std.specs.Io.KnownBytes.{Appends}
use Rattle.mh_text.specs.Lines.{lines_of}
use Rattle.mh_text.specs.Refused.{refused_behind}
use Rattle.mh_text.specs.Steps.{Told, Run}
use Rattle.mh_text.proofs.streams.run.run_steps.Given as goal

-- the lines of the steps so far stand
abbrev pub invariant-loop-step : goal.invariant-loop-step
invariant-loop-step g l = record {
  count : l.at ≡ length l.yielded;
  quiet : l.writer.failures ≡ l.fn.writer.failures;
  setting : l.machine.setting ≡ l.fn.machine.setting;
  told : (replies : List Told) × (length replies ≡ l.at) × Run l.fn.machine.setting l.fn.machine.history (take l.at l.fn.steps.items) replies l.machine.history
      × (l.refused.has_all ≡ true → l.refused.events.items ≡ refused_behind 0 replies)
      × Appends (g.W.Write.contents l.fn.writer.inner) (g.W.Write.contents l.writer.inner) (lines_of l.fn.machine.setting.definition replies);
  none : l.refused.has_all ≡ false → l.refused.events.items ≡ [];
}
