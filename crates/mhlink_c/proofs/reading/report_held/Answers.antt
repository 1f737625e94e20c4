use Rattle.std.proofs.Common.{◌≡◌, ◌∙◌, string_bytes, subst}
use Rattle.std.specs.Prelude.{IfOk}
use Rattle.mhlink_c.specs.Hosts.{HostState}
use Rattle.mhlink_c.specs.Texts.{report_of}
use Rattle.mhlink_c.proofs.reading.report_held.Goals as goal

pub returns-clause-text : goal.returns-clause-text
returns-clause-text c =
    let Reports : HostState → Type 0 = λ h. IfOk c.report-report.result (λ text. string_bytes text ≡ report_of h.runtime) in
    subst Reports (c.deref.ensures ∙ c.into_box-host.ensures.value) c.report-report.ensures.value
