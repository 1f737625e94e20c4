use Rattle.std.proofs.Common.{◌∙◌}
use Rattle.std.specs.Prelude.{string_bytes}
use Rattle.mh_explain.proofs.RefusedLines.{line_and_rest}
use Rattle.mh_explain.proofs.refused.of_event.Goals as goal

pub returns : goal.returns
returns c = record { line = (string_bytes c.in_ok-reasons.reasons, c.in_ok-format.ensures.ok ∙ line_and_rest c.args.refused (string_bytes c.in_ok-reasons.reasons)) }
