use Rattle.std.proofs.Common.{◌≡◌, Some, sym}
use Rattle.mh_words.specs.inner.Forms.{form_of}
use Rattle.mh_words.proofs.Computes.{computes_two}
use Rattle.mh_words.proofs.sources.two.Goals as goal

pub returns : goal.returns
returns c =
    let form = c.in_ok-form.form in
    let is : form_of c.args.op ≡ Some form = sym c.in_ok-form.ensures.value in
    record { value = computes_two c.args.op form c.args.first c.args.second c.in_ok-source.source is c.in_ok-demand.ensures.same c.in_ok-demand-2.ensures.same c.in_ok-source.ensures.value }
