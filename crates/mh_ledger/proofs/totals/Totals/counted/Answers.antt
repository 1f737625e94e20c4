use Rattle.mh_ledger.proofs.Resumed.{made_sound}
use Rattle.mh_ledger.proofs.totals.Totals.counted.Goals as goal

pub invariant_of-result : goal.invariant_of-result
invariant_of-result c =
    made_sound c.args.hits.now c.args.workers c.args.limit _ _ c.requires.worker c.requires.limit c.requires.within c.in_ok-from_slice.ensures.items c.in_ok-resume_shares.ensures.value
