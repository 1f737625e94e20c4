use Rattle.std.proofs.Common.{◌≡◌, ◌∙◌, ap, inl, inr, arith, Some, ℕ}
use Rattle.std.specs.Str.Parse.{ParsesUnsigned, ExplainsUnsignedError, HasUnsignedDigitsIfOk}
use Rattle.clap.specs.Words.{found_of}
use Rattle.mh_command.proofs.OptionWords.{planners_are}
use Rattle.mh_command.proofs.request.workers_of.Goals as goal

pub returns-in_err-workers-clause-value : goal.returns-in_err-workers-clause-value
returns-in_err-workers-clause-value c = λ workers are.
    let read = planners_are (found_of c.args.matches.now) workers are (λ bs r. ParsesUnsigned 8 10 bs r × ExplainsUnsignedError 10 bs r × HasUnsignedDigitsIfOk bs r) (λ t x g. g.0) c.get_one.result c.get_one.ensures.value in
    let none = c.in_err-workers.was in
    cc

pub returns-then-workers-eq0-clause-value : goal.returns-then-workers-eq0-clause-value
returns-then-workers-eq0-clause-value c = λ workers are.
    let read = planners_are (found_of c.args.matches.now) workers are (λ bs r. ParsesUnsigned 8 10 bs r × ExplainsUnsignedError 10 bs r × HasUnsignedDigitsIfOk bs r) (λ t x g. g.0) c.get_one.result c.get_one.ensures.value in
    let is = c.in_ok-workers.was in
    let same : c.in_ok-workers.workers ≡ workers = cc in
    let some = are.some in
    let few = are.few in
    let widened : c.from-workers.result ≡ workers = c.from-workers.ensures ∙ same in
    elim c.then-workers-eq0.branch [
      | goal.then-workers-eq0-via-then-workers-eq0 w ↦ absurd (omega (arith, w.if-workers-eq0.true, widened, some))
      | goal.then-workers-eq0-via-else-workers-eq0+then-workers w ↦ absurd (omega (arith, w.if-workers.true, widened, few))
    ]

pub returns-clause-value : goal.returns-clause-value
returns-clause-value c = λ workers are.
    let read = planners_are (found_of c.args.matches.now) workers are (λ bs r. ParsesUnsigned 8 10 bs r × ExplainsUnsignedError 10 bs r × HasUnsignedDigitsIfOk bs r) (λ t x g. g.0) c.get_one.result c.get_one.ensures.value in
    let is = c.in_ok-workers.was in
    let same : c.in_ok-workers.workers ≡ workers = cc in
    ap (λ (n : ℕ). Some n) (c.from-workers.ensures ∙ same)
