use Rattle.std.proofs.lemmas.Result.{err_from_is_err_and}
use Rattle.mh_profile.proofs.Sweepings.{unread_plan, unswept_ends, unswept_plan}
use Rattle.mh_profile.proofs.planning.read_swept.Goals as goal

pub returns-in_err-named-clause-failed : goal.returns-in_err-named-clause-failed
returns-in_err-named-clause-failed g c =
    let p = err_from_is_err_and c.from_residual.result c.from_residual.ensures.1 in
    rw (p.1, p.2) (unread_plan c.args.options (g.R.Read.remaining c.args.reader.now.inner) _ _ c.in_err-named.ensures.failed)

pub returns-in_err-sweep-clause-failed : goal.returns-in_err-sweep-clause-failed
returns-in_err-sweep-clause-failed g c =
    let p = err_from_is_err_and c.from_residual-in_err-sweep.result c.from_residual-in_err-sweep.ensures.1 in
    rw (p.1, p.2) (unswept_plan c.args.options (g.R.Read.remaining c.args.reader.now.inner) _ c.in_ok-named.named _ c.in_ok-named.ensures.ok c.in_err-sweep.ensures.refused)

pub returns-in_err-sweep-clause-honest : goal.returns-in_err-sweep-clause-honest
returns-in_err-sweep-clause-honest g c =
    let p = err_from_is_err_and c.from_residual-in_err-sweep.result c.from_residual-in_err-sweep.ensures.1 in
    rw (p.1, p.2) (unswept_ends _ _ c.args.options.sweep c.in_ok-named.named _ c.in_err-sweep.ensures.refused)
