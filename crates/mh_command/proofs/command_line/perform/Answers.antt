use Rattle.std.specs.Io.KnownBytes.{IsAtEnd}
use Rattle.std.specs.Prelude.{string_bytes}
use Rattle.mh_command.proofs.Ends.{answers, is_at_end, is_known, is_quiet, is_unexplained, some_failed, stops}
use Rattle.mh_command.proofs.command_line.perform.Goals as goal

pub returns-clause-known : goal.returns-clause-known
returns-clause-known g c =
    let known = is_known c.args.asked (g.R.Read.remaining c.args.reader.now.inner) (g.W.Write.contents c.args.out.now.inner) (g.W.Write.contents c.work_asked-outcome.new.out.inner) (g.W.Write.contents c.end.new.out.inner) (g.E.Write.contents c.args.err.now.inner) (g.E.Write.contents c.end.new.err.inner) c.args.reader.now.failures c.work_asked-outcome.new.reader.failures c.args.out.now.failures c.work_asked-outcome.new.out.failures c.end.new.out.failures c.args.err.now.failures c.end.new.err.failures c.end.result (string_bytes c.work_asked-outcome.result.help) c.work_asked-outcome.result.refused.items c.end.ensures.kept c.work_asked-outcome.result.end
    c.work_asked-outcome.ensures.small c.end.ensures.done c.end.ensures.told in
    known.0

pub returns-clause-asked : goal.returns-clause-asked
returns-clause-asked g c =
    let known = is_known c.args.asked (g.R.Read.remaining c.args.reader.now.inner) (g.W.Write.contents c.args.out.now.inner) (g.W.Write.contents c.work_asked-outcome.new.out.inner) (g.W.Write.contents c.end.new.out.inner) (g.E.Write.contents c.args.err.now.inner) (g.E.Write.contents c.end.new.err.inner) c.args.reader.now.failures c.work_asked-outcome.new.reader.failures c.args.out.now.failures c.work_asked-outcome.new.out.failures c.end.new.out.failures c.args.err.now.failures c.end.new.err.failures c.end.result (string_bytes c.work_asked-outcome.result.help) c.work_asked-outcome.result.refused.items c.end.ensures.kept c.work_asked-outcome.result.end
    c.work_asked-outcome.ensures.small c.end.ensures.done c.end.ensures.told in
    known.1

pub returns-clause-answers : goal.returns-clause-answers
returns-clause-answers g c = answers c.args.asked (g.R.Read.remaining c.args.reader.now.inner) (g.W.Write.contents c.args.out.now.inner) (g.W.Write.contents c.work_asked-outcome.new.out.inner) (g.W.Write.contents c.end.new.out.inner) (g.E.Write.contents c.args.err.now.inner) (g.E.Write.contents c.end.new.err.inner) c.args.reader.now.failures c.work_asked-outcome.new.reader.failures c.args.out.now.failures c.work_asked-outcome.new.out.failures c.end.new.out.failures c.args.err.now.failures c.end.new.err.failures c.end.result (string_bytes c.work_asked-outcome.result.help) c.work_asked-outcome.result.refused.items c.end.ensures.kept c.work_asked-outcome.result.end
    c.work_asked-outcome.ensures.works c.work_asked-outcome.ensures.fails c.work_asked-outcome.ensures.clear c.work_asked-outcome.ensures.help c.end.ensures.done c.end.ensures.told

pub returns-clause-stopped : goal.returns-clause-stopped
returns-clause-stopped g c = stops c.args.asked (g.R.Read.remaining c.args.reader.now.inner) (g.W.Write.contents c.args.out.now.inner) (g.W.Write.contents c.work_asked-outcome.new.out.inner) (g.W.Write.contents c.end.new.out.inner) (g.E.Write.contents c.args.err.now.inner) (g.E.Write.contents c.end.new.err.inner) c.args.reader.now.failures c.work_asked-outcome.new.reader.failures c.args.out.now.failures c.work_asked-outcome.new.out.failures c.end.new.out.failures c.args.err.now.failures c.end.new.err.failures c.end.result (string_bytes c.work_asked-outcome.result.help) c.work_asked-outcome.result.refused.items c.end.ensures.kept c.work_asked-outcome.result.end
    c.work_asked-outcome.ensures.small c.work_asked-outcome.ensures.works c.work_asked-outcome.ensures.fails c.work_asked-outcome.ensures.clear c.work_asked-outcome.ensures.help c.work_asked-outcome.ensures.honest c.end.ensures.done c.end.ensures.told

pub returns-clause-failed : goal.returns-clause-failed
returns-clause-failed g c = some_failed c.args.asked (g.R.Read.remaining c.args.reader.now.inner) (g.W.Write.contents c.args.out.now.inner) (g.W.Write.contents c.work_asked-outcome.new.out.inner) (g.W.Write.contents c.end.new.out.inner) (g.E.Write.contents c.args.err.now.inner) (g.E.Write.contents c.end.new.err.inner) c.args.reader.now.failures c.work_asked-outcome.new.reader.failures c.args.out.now.failures c.work_asked-outcome.new.out.failures c.end.new.out.failures c.args.err.now.failures c.end.new.err.failures c.end.result (string_bytes c.work_asked-outcome.result.help) c.work_asked-outcome.result.refused.items c.end.ensures.kept c.work_asked-outcome.result.end
    c.work_asked-outcome.ensures.small c.work_asked-outcome.ensures.honest c.end.ensures.done c.end.ensures.told

pub returns-clause-done : goal.returns-clause-done
returns-clause-done g c = is_quiet c.args.asked (g.R.Read.remaining c.args.reader.now.inner) (g.W.Write.contents c.args.out.now.inner) (g.W.Write.contents c.work_asked-outcome.new.out.inner) (g.W.Write.contents c.end.new.out.inner) (g.E.Write.contents c.args.err.now.inner) (g.E.Write.contents c.end.new.err.inner) c.args.reader.now.failures c.work_asked-outcome.new.reader.failures c.args.out.now.failures c.work_asked-outcome.new.out.failures c.end.new.out.failures c.args.err.now.failures c.end.new.err.failures c.end.result (string_bytes c.work_asked-outcome.result.help) c.work_asked-outcome.result.refused.items c.end.ensures.kept c.work_asked-outcome.result.end
    c.work_asked-outcome.ensures.honest c.work_asked-outcome.ensures.others c.end.ensures.done c.end.ensures.told

pub returns-clause-end : goal.returns-clause-end
returns-clause-end g c = is_at_end c.args.asked (g.R.Read.remaining c.args.reader.now.inner) (g.W.Write.contents c.args.out.now.inner) (g.W.Write.contents c.work_asked-outcome.new.out.inner) (g.W.Write.contents c.end.new.out.inner) (g.E.Write.contents c.args.err.now.inner) (g.E.Write.contents c.end.new.err.inner) c.args.reader.now.failures c.work_asked-outcome.new.reader.failures c.args.out.now.failures c.work_asked-outcome.new.out.failures c.end.new.out.failures c.args.err.now.failures c.end.new.err.failures c.end.result (string_bytes c.work_asked-outcome.result.help) c.work_asked-outcome.result.refused.items c.end.ensures.kept c.work_asked-outcome.result.end
    (IsAtEnd (g.R.Read.remaining c.work_asked-outcome.new.reader.inner)) c.work_asked-outcome.ensures.end c.end.ensures.told

pub returns-clause-unexplained : goal.returns-clause-unexplained
returns-clause-unexplained g c = is_unexplained c.args.asked (g.R.Read.remaining c.args.reader.now.inner) (g.W.Write.contents c.args.out.now.inner) (g.W.Write.contents c.work_asked-outcome.new.out.inner) (g.W.Write.contents c.end.new.out.inner) (g.E.Write.contents c.args.err.now.inner) (g.E.Write.contents c.end.new.err.inner) c.args.reader.now.failures c.work_asked-outcome.new.reader.failures c.args.out.now.failures c.work_asked-outcome.new.out.failures c.end.new.out.failures c.args.err.now.failures c.end.new.err.failures c.end.result (string_bytes c.work_asked-outcome.result.help) c.work_asked-outcome.result.refused.items c.end.ensures.kept c.work_asked-outcome.result.end
    c.work_asked-outcome.ensures.help c.end.ensures.done c.end.ensures.told
