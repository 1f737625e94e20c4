use Rattle.mh_profile.proofs.KeyRuns.{by_link}
use Rattle.mh_profile.proofs.accounts.rows_of.Goals as goal

pub run_of-requires : goal.run_of-requires
run_of-requires c = record { ordered = by_link c.args.flow.now c.requires.ordered }
