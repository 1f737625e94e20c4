use Rattle.std.proofs.Common.{◌≡◌, ◌-◌, ◌∙◌, ap, sym, subst, arith, length, [], take, length-take}
use Rattle.std.proofs.lemmas.List.{get_or_default}
use Rattle.std.specs.Prelude.{slice_index_or}
use Rattle.mh_code.specs.PieceOf.{routine_of}
use Rattle.mh_code.specs.RoutineOf.{handle_routine}
use Rattle.mh_run.specs.inner.Runs.{Ends, MayGo}
use Rattle.mh_run.proofs.Sites.{leading_are, leading_count, leading_many, site_answers, site_deep, site_go, site_there}
use Rattle.mh_run.proofs.running.forward.Goals as goal
use Rattle.mh_tree.specs.Handle.{TypedTree, IsSound}
use Rattle.mh_tree.specs.Prepared.{leading_arguments}
use Rattle.mh_tree.specs.Sites.{MayCall, setting, target_at}

pub slice_bounds-run-end : goal.slice_bounds-run-end
slice_bounds-run-end g c =
    let few = leading_many (MayCall g.L.Lower.deep c.args.here.now.targets.now (length c.args.here.now.valid.now)) c.args.site (length c.args.arguments.now) 0 c.args.count c.requires.scoped in
    omega (arith, few, length-take c.args.count c.args.arguments.now)

pub run-requires-clause-may : goal.run-requires-clause-may
run-requires-clause-may g c =
    let valid = c.args.here.now.valid.now in
    let ts = c.args.here.now.targets.now in
    let d = g.L.Lower.deep in
    let a = c.args.arguments.now in
    let few = leading_many (MayCall d ts (length valid)) c.args.site (length a) 0 c.args.count c.requires.scoped in
    let same : slice_index_or ts c.args.site c.index-here-site.result ≡ target_at ts c.args.site = get_or_default ts c.args.site c.index-here-site.result _ (site_there d valid ts c.args.site _ c.requires.scoped.0) in
    let sound = subst (λ (h : TypedTree). IsSound h.tree h.signature) same c.code.ensures.sound in
    let kept : routine_of c.entry-entry.result.now ≡ handle_routine (target_at ts c.args.site) = c.entry-entry.ensures.value ∙ c.code.ensures.value ∙ ap handle_routine same in
    subst (λ r. MayGo (setting (d - 1) valid ts) (take c.args.count a) [] r 0) (sym kept)
    (site_go valid ts c.args.site (length (leading_arguments c.args.count)) (take c.args.count a) (leading_count a c.args.count few) sound d c.requires.scoped.0 0 (omega (arith, c.requires.few)) (omega arith))

pub returns-clause-answers : goal.returns-clause-answers
returns-clause-answers g c =
    λ l.
    let valid = c.args.here.now.valid.now in
    let ts = c.args.here.now.targets.now in
    let d = g.L.Lower.deep in
    let a = c.args.arguments.now in
    let few = leading_many (MayCall d ts (length valid)) c.args.site (length a) 0 c.args.count c.requires.scoped in
    let same : slice_index_or ts c.args.site c.index-here-site.result ≡ target_at ts c.args.site = get_or_default ts c.args.site c.index-here-site.result _ (site_there d valid ts c.args.site _ c.requires.scoped.0) in
    let sound = subst (λ (h : TypedTree). IsSound h.tree h.signature) same c.code.ensures.sound in
    let kept : routine_of c.entry-entry.result.now ≡ handle_routine (target_at ts c.args.site) = c.entry-entry.ensures.value ∙ c.code.ensures.value ∙ ap handle_routine same in
    site_answers valid ts c.args.site (length (leading_arguments c.args.count)) (take c.args.count a) (leading_count a c.args.count few) sound d c.requires.scoped.0
    a l (leading_arguments c.args.count) (leading_are a l c.args.count few) c.run.result.0 c.run.result.1
    (subst (λ r. Ends (setting (d - 1) valid ts) (take c.args.count a) [] r 0 c.run.result.0 c.run.result.1) kept (c.run.ensures.ends (site_deep d valid ts c.args.site _ c.requires.scoped.0)))
