use Rattle.std.proofs.Common.{◌≡◌, ◌-◌, ◌∙◌, ap, sym, subst, arith, List, [], ◌++◌, length, map}
use Rattle.std.specs.Prelude.{IsOk, OnOk, slice_index_or}
use Rattle.std.proofs.lemmas.List.{get_or_default, length-map}
use Rattle.mh_code.specs.PieceOf.{routine_of}
use Rattle.mh_code.specs.RoutineOf.{handle_routine}
use Rattle.mh_eval.specs.Quiet.{NoTexts}
use Rattle.mh_run.specs.inner.Runs.{Ends, MayGo}
use Rattle.mh_run.proofs.Sites.{site_answers, site_deep, site_few, site_go, site_there}
use Rattle.mh_run.proofs.running.invoke.Goals as goal
use Rattle.mh_tree.specs.Handle.{TypedTree, IsSound}
use Rattle.mh_tree.specs.Running.{value_of}
use Rattle.mh_tree.specs.Sites.{setting, target_at}
use Rattle.mh_type.specs.declared.value.Value.{Value}

pub returns-in_default-clause-answers : goal.returns-in_default-clause-answers
returns-in_default-clause-answers g c = record {
  ran = tt;
  few = omega arith;
  quiet = λ q.
      let few = site_few g.L.Lower.deep c.args.here.now.valid.now c.args.here.now.targets.now c.args.site _ c.requires.scoped.0 in
      let empty : length c.args.level.now.passed.items ≡ 0 = ap (λ (l : List Value). length l) c.requires.open.passed in
      let many = length-map c.args.operands.now (value_of c.args.arguments.now c.as_slice-locals.result.now) in
      let refuted = subst (λ r. IsOk r) c.in_default.is (c.pass.ensures.extends.quiet (subst (λ k. NoTexts (map (value_of c.args.arguments.now k) c.args.operands.now)) (sym c.as_slice-locals.ensures.value) q.0) (omega (arith, few, empty, many, c.requires.open.wide))) in
      cc;
}

pub run-answer-requires-clause-may : goal.run-answer-requires-clause-may
run-answer-requires-clause-may g c =
    let valid = c.args.here.now.valid.now in
    let ts = c.args.here.now.targets.now in
    let d = g.L.Lower.deep in
    let b = c.as_slice-passed.result.now in
    let is : b ≡ map (value_of c.args.arguments.now c.args.level.now.locals.items) c.args.operands.now =
    c.as_slice-passed.ensures.value
    ∙ subst (λ r. OnOk r (c.pass.new.passed.items ≡ c.args.level.now.passed.items ++ map (value_of c.args.arguments.now c.as_slice-locals.result.now) c.args.operands.now)) c.in-Ok.is c.pass.ensures.extends.value
    ∙ (λ i. c.requires.open.passed i ++ map (value_of c.args.arguments.now (c.as_slice-locals.ensures.value i)) c.args.operands.now) in
    let many : length b ≡ length c.args.operands.now = ap (λ (l : List Value). length l) is ∙ length-map c.args.operands.now (value_of c.args.arguments.now c.args.level.now.locals.items) in
    let same : slice_index_or ts c.args.site c.index-here-site.result ≡ target_at ts c.args.site = get_or_default ts c.args.site c.index-here-site.result _ (site_there d valid ts c.args.site _ c.requires.scoped.0) in
    let sound = subst (λ (h : TypedTree). IsSound h.tree h.signature) same c.code.ensures.sound in
    let kept : routine_of c.entry-entry.result.now ≡ handle_routine (target_at ts c.args.site) = c.entry-entry.ensures.value ∙ c.code.ensures.value ∙ ap handle_routine same in
    subst (λ r. MayGo (setting (d - 1) valid ts) b [] r 0) (sym kept)
    (site_go valid ts c.args.site (length c.args.operands.now) b many sound d c.requires.scoped.0 0 (omega (arith, c.requires.few)) (omega arith))

pub returns-clause-answers : goal.returns-clause-answers
returns-clause-answers g c =
    let valid = c.args.here.now.valid.now in
    let ts = c.args.here.now.targets.now in
    let d = g.L.Lower.deep in
    let b = c.as_slice-passed.result.now in
    let is : b ≡ map (value_of c.args.arguments.now c.args.level.now.locals.items) c.args.operands.now =
    c.as_slice-passed.ensures.value
    ∙ subst (λ r. OnOk r (c.pass.new.passed.items ≡ c.args.level.now.passed.items ++ map (value_of c.args.arguments.now c.as_slice-locals.result.now) c.args.operands.now)) c.in-Ok.is c.pass.ensures.extends.value
    ∙ (λ i. c.requires.open.passed i ++ map (value_of c.args.arguments.now (c.as_slice-locals.ensures.value i)) c.args.operands.now) in
    let many : length b ≡ length c.args.operands.now = ap (λ (l : List Value). length l) is ∙ length-map c.args.operands.now (value_of c.args.arguments.now c.args.level.now.locals.items) in
    let same : slice_index_or ts c.args.site c.index-here-site.result ≡ target_at ts c.args.site = get_or_default ts c.args.site c.index-here-site.result _ (site_there d valid ts c.args.site _ c.requires.scoped.0) in
    let sound = subst (λ (h : TypedTree). IsSound h.tree h.signature) same c.code.ensures.sound in
    let kept : routine_of c.entry-entry.result.now ≡ handle_routine (target_at ts c.args.site) = c.entry-entry.ensures.value ∙ c.code.ensures.value ∙ ap handle_routine same in
    site_answers valid ts c.args.site (length c.args.operands.now) b many sound d c.requires.scoped.0
    c.args.arguments.now c.args.level.now.locals.items c.args.operands.now is c.run-answer.result.0 c.run-answer.result.1
    (subst (λ r. Ends (setting (d - 1) valid ts) b [] r 0 c.run-answer.result.0 c.run-answer.result.1) kept (c.run-answer.ensures.ends (site_deep d valid ts c.args.site _ c.requires.scoped.0)))
