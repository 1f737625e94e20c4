use Rattle.std.proofs.lemmas.Result.{MatchResult-weaker}
use Rattle.mh_core.specs.declared.record.Record.TheVariants.{Published}
use Rattle.mh_live.proofs.Receiving.{receipt_of, refusal_of}
use Rattle.mh_live.proofs.live.Live.publish.Goals as goal

pub returns-clause-receipt : goal.returns-clause-receipt
returns-clause-receipt g c =
    MatchResult-weaker c.publish.result c.publish.ensures.accepted
    (λ r accepts. receipt_of g.N.ListName.definition g.N.ListName.limits g.N.ListName.workers _ _ (Published c.args.snapshot c.args.plan) r c.publish.ensures.office accepts) (λ _ always. always)

pub returns-clause-refused : goal.returns-clause-refused
returns-clause-refused g c =
    MatchResult-weaker c.publish.result c.publish.ensures.refused (λ _ always. always)
    (λ told legal. refusal_of g.N.ListName.definition g.N.ListName.limits g.N.ListName.workers _ (Published c.args.snapshot c.args.plan) told c.publish.ensures.office legal)
