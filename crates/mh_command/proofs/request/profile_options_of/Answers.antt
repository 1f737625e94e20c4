use Rattle.std.proofs.Common.{◌≡◌, codes, refl}
use Rattle.clap.specs.Words.{found_of}
use Rattle.mh_command.proofs.OptionWords.{word_is}
use Rattle.mh_command.proofs.request.profile_options_of.Goals as goal

pub returns-in_err-workers_of-clause-value : goal.returns-in_err-workers_of-clause-value
returns-in_err-workers_of-clause-value c = λ options are.
    let read = c.workers_of.ensures.value options.workers are.workers in
    let none = c.in_err-workers_of.was in
    cc

pub returns-clause-value : goal.returns-clause-value
returns-clause-value c = λ options are.
    let read = c.workers_of.ensures.value options.workers are.workers in
    let is = c.in_ok-workers_of.was in
    let workers : c.in_ok-workers_of.field-0 ≡ options.workers = cc in
    let certificate = word_is (found_of c.args.matches.now) (codes "certificate") options.certificate are.certificate c.get_flag.result c.get_flag.ensures.value c.get_flag.ensures.other in
    let sweep = word_is (found_of c.args.matches.now) (codes "sweep") options.sweep are.sweep c.get_flag-2.result c.get_flag-2.ensures.value c.get_flag-2.ensures.other in
    rw (workers, certificate, sweep) refl
