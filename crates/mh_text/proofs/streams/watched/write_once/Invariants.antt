use Rattle.std.proofs.Common.{◌≡◌, ◌≤◌, length, IfOk, OnErr}
use Rattle.std.specs.Io.KnownBytes.{WriteAppends}
use Rattle.mh_text.proofs.streams.watched.write_once.Given as goal

-- interrupted writes and the last one are as that one alone
abbrev pub invariant-loop : goal.invariant-loop
invariant-loop g l = record {
  bound : IfOk l.answer (λ n. n ≤ length l.bytes);
  bytes : WriteAppends (g.W.Write.contents l.fn.writer) (g.W.Write.contents l.writer) l.answer l.bytes;
  told : OnErr l.answer (g.W.Sink.has_failed l.writer);
  none : IfOk l.answer (λ n. n ≡ 0 → g.W.Sink.has_failed l.writer);
}
