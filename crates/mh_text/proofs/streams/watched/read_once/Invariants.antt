use Rattle.std.proofs.Common.{◌≤◌, length, IfOk, OnErr}
use Rattle.std.specs.Io.KnownBytes.{ReadConsumes}
use Rattle.mh_text.proofs.streams.watched.read_once.Given as goal

-- interrupted reads and the last one are as that one alone
abbrev pub invariant-loop : goal.invariant-loop
invariant-loop g l = record {
  bound : IfOk l.answer (λ n. n ≤ length l.buffer);
  bytes : ReadConsumes (g.R.Read.remaining l.fn.reader) (g.R.Read.remaining l.reader) l.answer l.buffer;
  told : OnErr l.answer (g.R.Source.has_failed l.reader);
}
