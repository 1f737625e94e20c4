use Rattle.std.proofs.Common.{◌≡◌, ℕ, List, Some, length, map, take, sym, ◌∙◌, arith}
use Rattle.std.proofs.lemmas.Bool.{not-true}
use Rattle.std.proofs.lemmas.Grind.{common_steps}
use Rattle.mh_base.specs.Listed.{first_failing}
use Rattle.mh_site.specs.declared.point.Point.{Point}
use Rattle.mh_site.specs.Defined.{no_point}
use Rattle.mh_site.specs.Places.{placed_point_tests, placed_points, placed_at_point}
use Rattle.mh_site.proofs.Listed.{all_hold, tests_read, passed_here, failed_here}
use Rattle.mh_site.proofs.NameLemmas.{lent, one_more}
use Rattle.mh_site.proofs.point_rules.test_points.Goals as goal

pub returns-in_err-test_point : goal.returns-in_err-test_point
returns-in_err-test_point c =
    let points = c.args.points.now in
    let i = c.loop-index.index in
    let lt = c.loop-index-test.true in
    let fault = c.in_err-test_point.field-0.0 in
    let read = tests_read (placed_point_tests i) points i c.index-points-index.result no_point lt c.index-points-index.is in
    let fails = failed_here (placed_at_point points) i (length points) fault lt (read ∙ c.in_err-test_point.ensures.value) in
    let told : first_failing (placed_points points) ≡ Some fault = sym c.loop-index.invariant.told ∙ fails in
    grind (arith, common_steps)

pub loop-index-preserved : goal.loop-index-preserved
loop-index-preserved c =
    let points = c.args.points.now in
    let i = c.loop-index.index in
    let lt = c.loop-index-test.true in
    let passed = c.in_ok-test_point.ensures.value in
    let read = tests_read (placed_point_tests i) points i c.index-points-index.result no_point lt c.index-points-index.is in
    let new = not-true _ (all_hold (placed_point_tests i (take i points) c.index-points-index.result) passed).1.0 in
    record {
      told = passed_here (placed_at_point points) i (length points) lt (read ∙ passed) ∙ c.loop-index.invariant.told;
      seen = one_more (λ (p : Point). p.name) points i c.index-points-index.result c.as_str.result.now c.loop-index.seen c.with_one_more-seen.result lt c.index-points-index.is c.as_str.ensures.value new c.loop-index.invariant.seen c.with_one_more-seen.ensures.value;
    }

pub test_point-requires : goal.test_point-requires
test_point-requires c =
    let named = λ (names : List (List ℕ)). names ≡ map (λ (p : Point). p.name) (take c.loop-index.index c.args.points.now) in
    record { seen = lent named c.as_ref.result c.loop-index.seen c.as_ref.ensures.value c.loop-index.invariant.seen }
