use Rattle.std.proofs.Common.{◌==◌, ap, ◌∙◌, arith}
use Rattle.mh_network.specs.Selection.{value_of}
use Rattle.mh_profile.specs.Accounts.{rows_of}
use Rattle.mh_profile.proofs.KeyRuns.{charges_by_link, kept_sum}
use Rattle.mh_profile.proofs.accounts.spent.Goals as goal

pub run_of-requires : goal.run_of-requires
run_of-requires c = record { ordered = charges_by_link c.args.charges.now c.requires.charged }

pub returns : goal.returns
returns c =
    let rows = kept_sum (λ r. r.0 == c.args.link) (λ r. r.2) c.args.flow.now in
    let paid = kept_sum (λ r. r.0 == c.args.link) (λ r. r.1) c.args.charges.now in
    let read = ap (λ rs. value_of rs c.run_of.result.now) c.rows_of.ensures.value ∙ ap (λ cs. value_of (rows_of c.args.flow.now c.args.link) cs) c.run_of.ensures.value in
    record { value = omega (arith, c.carried.ensures.value, read, rows, paid) }
