use Rattle.std.proofs.Common.{take}
use Rattle.std.specs.Prelude.{string_bytes}
use Rattle.mh_explain.specs.Refused.{NamesRefused}
use Rattle.mh_explain.proofs.refused.explanation_of_refused.Given as goal

-- the lines so far are those of the events so far
abbrev pub invariant-loop-event : goal.invariant-loop-event
invariant-loop-event l = NamesRefused (take l.event-index l.refused) (string_bytes l.lines)
