use Rattle.std.proofs.Common.{◌≡◌, ◌+◌, ◌++◌, ◌∙◌, ap, arith, string_bytes, suc}
use Rattle.std.proofs.lemmas.List.{append_assoc}
use Rattle.mh_profile.specs.PlanLines.{line, point_lines, point_text}
use Rattle.mh_profile.proofs.plan_lines.push_points.Goals as goal

pub loop-point-preserved : goal.loop-point-preserved
loop-point-preserved c =
    let named = c.args.named.now in
    let plan = c.args.plan.now in
    let point = c.loop-point.point in
    let next : suc point ≡ point + 1 = omega arith in
    let text = ap line (c.as_str.ensures.value ∙ c.in_ok-line.ensures.value) in
    c.in_ok-push_line.ensures.value
    ∙ (ap (λ out. out ++ line c.as_str.result.now) c.loop-point.invariant
    ∙ (ap (λ t. (string_bytes c.args.out.now ++ point_lines named plan point) ++ t) text
    ∙ (append_assoc (string_bytes c.args.out.now) (point_lines named plan point) (line (point_text named plan point))
    ∙ ap (λ n. string_bytes c.args.out.now ++ point_lines named plan n) next)))
