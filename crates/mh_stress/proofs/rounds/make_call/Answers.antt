use Rattle.std.proofs.Common.{◌∙◌}
use Rattle.mh_stress.proofs.Hits.{call_made}
use Rattle.mh_stress.proofs.rounds.make_call.Goals as goal

pub returns-then-call-worker : goal.returns-then-call-worker
returns-then-call-worker g c = record {
  made = call_made g.N.ListName.definition c.args.call.now c.as_slice.result.now c.args.pass.now c.call-answer.new.self c.call-answer.result (c.if-call-worker.true ∙ c.worker.ensures.value) c.as_slice.ensures.value c.call-answer.ensures.counted c.call-answer.ensures.kept;
}
