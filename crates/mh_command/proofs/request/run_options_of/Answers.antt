use Rattle.std.proofs.Common.{refl}
use Rattle.clap.specs.Words.{found_of}
use Rattle.mh_command.proofs.OptionWords.{report_is}
use Rattle.mh_command.proofs.request.run_options_of.Goals as goal

pub returns : goal.returns
returns c = record {
  value = λ options is.
      let report = report_is (found_of c.args.matches.now) options is c.get_flag.result c.get_flag.ensures.value c.get_flag.ensures.other in
      rw report refl;
}
