use Rattle.std.proofs.Common.{◌==◌, sym}
use Rattle.mh_profile.proofs.KeyRuns.{any_kept, numbers_rise}
use Rattle.mh_profile.proofs.accounts.is_among.Goals as goal

pub run_of-requires : goal.run_of-requires
run_of-requires c = record { ordered = numbers_rise c.args.numbers.now c.requires.ascending }

pub returns : goal.returns
returns c = record { value = rw (c.is_empty.ensures, c.run_of.ensures.value) (sym (any_kept (λ x. x == c.args.number) c.args.numbers.now)) }
