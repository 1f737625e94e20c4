use Rattle.std.proofs.lemmas.Result.{MatchResult-weaker}
use Rattle.mh_core.specs.declared.record.Record.TheVariants.{Targeted}
use Rattle.mh_live.proofs.Receiving.{target_ends, receipt_of_change, refusal_of_change}
use Rattle.mh_live.proofs.live.Live.set_target.Goals as goal

pub returns-clause-receipt : goal.returns-clause-receipt
returns-clause-receipt g c = receipt_of_change _ _ g.N.ListName.workers _ _ (Targeted c.args.site c.args.tree) _ c.target.ensures.changes

pub returns-clause-ends : goal.returns-clause-ends
returns-clause-ends g c = MatchResult-weaker c.target.result (returns-clause-receipt g c) (λ r receipt. target_ends _ _ c.args.site c.args.tree r receipt) (λ _ always. always)

pub returns-clause-refused : goal.returns-clause-refused
returns-clause-refused g c = refusal_of_change _ _ g.N.ListName.workers _ _ (Targeted c.args.site c.args.tree) _ c.target.ensures.changes
