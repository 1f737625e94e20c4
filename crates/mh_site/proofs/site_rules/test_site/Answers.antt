use Rattle.std.proofs.Common.{◌++◌, take, ◌∙◌}
use Rattle.std.proofs.lemmas.Result.{err_from_is_err_and}
use Rattle.mh_base.specs.Listed.{first_failing}
use Rattle.mh_site.specs.Places.{placed_shape_tests, placed_key_tests, placed_point_name_tests, placed_invoke_tests}
use Rattle.mh_site.proofs.Places.{part_fails, part_holds, told_by}
use Rattle.mh_site.proofs.site_rules.test_site.Goals as goal

pub returns-in_err-test_shape : goal.returns-in_err-test_shape
returns-in_err-test_shape c =
    let s = c.args.site.now in
    let i = c.args.index in
    let sites = c.args.sites.now in
    let shape = placed_shape_tests i (take i sites) s in
    let keys = placed_key_tests i s in
    let names = placed_point_name_tests c.args.points i s in
    let invokes = placed_invoke_tests sites i s in
    let p = err_from_is_err_and c.from_residual.result c.from_residual.ensures.1 in
    rw (p.1, p.2) (record { value = part_fails shape (keys ++ names ++ invokes) _ c.in_err-test_shape.ensures.value })

pub returns-in_err-test_keys : goal.returns-in_err-test_keys
returns-in_err-test_keys c =
    let s = c.args.site.now in
    let i = c.args.index in
    let sites = c.args.sites.now in
    let shape = placed_shape_tests i (take i sites) s in
    let keys = placed_key_tests i s in
    let names = placed_point_name_tests c.args.points i s in
    let invokes = placed_invoke_tests sites i s in
    let p = err_from_is_err_and c.from_residual-in_err-test_keys.result c.from_residual-in_err-test_keys.ensures.1 in
    let past = part_holds shape (keys ++ names ++ invokes) c.in_ok-test_shape.ensures.value in
    rw (p.1, p.2) (record { value = past ∙ part_fails keys (names ++ invokes) _ c.in_err-test_keys.ensures.value })

pub returns-in_err-test_point_names : goal.returns-in_err-test_point_names
returns-in_err-test_point_names c =
    let s = c.args.site.now in
    let i = c.args.index in
    let sites = c.args.sites.now in
    let shape = placed_shape_tests i (take i sites) s in
    let keys = placed_key_tests i s in
    let names = placed_point_name_tests c.args.points i s in
    let invokes = placed_invoke_tests sites i s in
    let p = err_from_is_err_and c.from_residual-in_err-test_point_names.result c.from_residual-in_err-test_point_names.ensures.1 in
    let past = part_holds shape (keys ++ names ++ invokes) c.in_ok-test_shape.ensures.value ∙ part_holds keys (names ++ invokes) c.in_ok-test_keys.ensures.value in
    rw (p.1, p.2) (record { value = past ∙ part_fails names invokes _ c.in_err-test_point_names.ensures.value })

pub returns : goal.returns
returns c =
    let s = c.args.site.now in
    let i = c.args.index in
    let sites = c.args.sites.now in
    let shape = placed_shape_tests i (take i sites) s in
    let keys = placed_key_tests i s in
    let names = placed_point_name_tests c.args.points i s in
    let invokes = placed_invoke_tests sites i s in
    let past = part_holds shape (keys ++ names ++ invokes) c.in_ok-test_shape.ensures.value
    ∙ (part_holds keys (names ++ invokes) c.in_ok-test_keys.ensures.value ∙ part_holds names invokes c.in_ok-test_point_names.ensures.value) in
    record { value = told_by c.test_invocations.result (first_failing (shape ++ keys ++ names ++ invokes)) (first_failing invokes) past c.test_invocations.ensures.value }
