use Rattle.std.proofs.Common.{◌≡◌, ◌∙◌, refl, sym, subst, ap, ℕ, Bool, Option, Some}
use Rattle.std.specs.Str.Parse.{ParsesUnsigned, ExplainsUnsignedError, HasUnsignedDigitsIfOk}
use Rattle.clap.specs.Words.{found_of}
use Rattle.mh_stress.specs.Stress.{AreLawful}
use Rattle.mh_stress.specs.declared.stress.StressOptions.{StressOptions}
use Rattle.mh_command.proofs.OptionWords.{callers_are, rounds_are, tables_are}
use Rattle.mh_command.proofs.request.stress_options_of.Goals as goal

pub returns-in_err-rounds-clause-value : goal.returns-in_err-rounds-clause-value
returns-in_err-rounds-clause-value c = λ options are.
    let read = rounds_are (found_of c.args.matches.now) options are (λ bs r. ParsesUnsigned 32 10 bs r × ExplainsUnsignedError 10 bs r × HasUnsignedDigitsIfOk bs r) (λ t x g. g.0) c.get_one-2.result c.get_one-2.ensures.value in
    let none = c.in_err-rounds.was in
    cc

made_of : (workers : Option ℕ) (rounds : ℕ) (report : Bool) (options : StressOptions) → workers ≡ options.workers → rounds ≡ options.rounds → report ≡ options.report
    → record { workers = workers; rounds = rounds; report = report } ≡ options
made_of workers rounds report options w r t = rw (w, r, t) refl

pub returns-clause-value : goal.returns-clause-value
returns-clause-value c = λ options are.
    let read = rounds_are (found_of c.args.matches.now) options are (λ bs r. ParsesUnsigned 32 10 bs r × ExplainsUnsignedError 10 bs r × HasUnsignedDigitsIfOk bs r) (λ t x g. g.0) c.get_one-2.result c.get_one-2.ensures.value in
    let is = c.in_ok-rounds.was in
    let rounds : c.in_ok-rounds.rounds ≡ options.rounds = cc in
    let callers = callers_are (found_of c.args.matches.now) options are (λ bs r. ParsesUnsigned 8 10 bs r × ExplainsUnsignedError 10 bs r × HasUnsignedDigitsIfOk bs r) (λ t x g. g.0) c.get_one.result c.get_one.ensures.none c.get_one.ensures.value in
    let workers : c.widen-workers.result ≡ options.workers = c.widen-workers.ensures.value ∙ callers in
    let report = tables_are (found_of c.args.matches.now) options are c.get_flag-report.result c.get_flag-report.ensures.value c.get_flag-report.ensures.other in
    let made = made_of c.widen-workers.result c.in_ok-rounds.rounds c.get_flag-report.result options workers rounds report in
    c.lawful.ensures.same (subst AreLawful (sym made) are.lawful) ∙ ap (λ (o : StressOptions). Some o) made
