use Rattle.std.proofs.lemmas.Result.{MatchResult-weaker}
use Rattle.mh_core.specs.declared.record.Record.TheVariants.{Invalidated}
use Rattle.mh_live.proofs.Receiving.{invalidation_ends, receipt_of_change, refusal_of_change}
use Rattle.mh_live.proofs.live.Live.invalidate.Goals as goal

pub returns-clause-receipt : goal.returns-clause-receipt
returns-clause-receipt g c = receipt_of_change _ _ g.N.ListName.workers _ _ (Invalidated c.args.points) _ c.invalidate.ensures.changes

pub returns-clause-ends : goal.returns-clause-ends
returns-clause-ends g c = MatchResult-weaker c.invalidate.result (returns-clause-receipt g c) (λ r receipt. invalidation_ends _ _ c.args.points r receipt) (λ _ always. always)

pub returns-clause-refused : goal.returns-clause-refused
returns-clause-refused g c = refusal_of_change _ _ g.N.ListName.workers _ _ (Invalidated c.args.points) _ c.invalidate.ensures.changes
