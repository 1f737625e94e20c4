use Rattle.std.proofs.Common.{◌∙◌, ap}
use Rattle.serde_json.specs.Written.{compact_text, has_float}
use Rattle.std.proofs.lemmas.Result.{IfOk-weaker}
use Rattle.mh_json.proofs.PlanData.{has_no_float}
use Rattle.mh_json.proofs.json.certificate.plan_json.Goals as goal

pub returns : goal.returns
returns c =
    let is = c.in_ok-plan_value.ensures.value in
    record { value = IfOk-weaker c.to_string.result _ _ (λ s h. h (ap has_float is ∙ has_no_float c.args.plan.now) ∙ ap compact_text is) c.to_string.ensures.text }
