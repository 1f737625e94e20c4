use Rattle.std.proofs.Common.{◌≤◌, ◌∙◌, sym, subst, [], Ok, rules}
use Rattle.mh_code.specs.inner.Runs.{weight}
use Rattle.mh_run.specs.inner.Runs.{MayRun}
use Rattle.mh_run.proofs.Handles.{handle_answered, handle_few, handle_may, handle_outcome, handle_own, handle_steps}
use Rattle.mh_run.proofs.calls.run.Goals as goal
use Rattle.mh_tree.specs.Limits.{most_nodes}
use Rattle.mh_tree.specs.Sites.{sites}

pub reach-depth-requires-clause-may : goal.reach-depth-requires-clause-may
reach-depth-requires-clause-may c =
    let valid = c.args.here.now.valid.now in
    let ts = c.args.here.now.targets.now in
    let is = c.entry.ensures.value ∙ c.code.ensures.value in
    subst (λ r. MayRun (sites valid ts) c.args.arguments.now [] r 0) (sym is)
    (handle_may valid ts c.args.handle.now c.args.arguments.now c.code.ensures.sound c.requires.fits c.requires.known c.requires.points c.requires.lawful.0 c.requires.lawful.1)

pub reach-depth-requires-clause-own : goal.reach-depth-requires-clause-own
reach-depth-requires-clause-own c =
    let is = c.entry.ensures.value ∙ c.code.ensures.value in
    subst (λ r. weight 0 r ≤ most_nodes) (sym is)
    (handle_own c.args.here.now.valid.now c.args.here.now.targets.now c.args.handle.now c.args.arguments.now c.code.ensures.sound c.requires.fits c.requires.known c.requires.points c.requires.lawful.0 c.requires.lawful.1)

pub returns-in-Some-clause-outcome : goal.returns-in-Some-clause-outcome
returns-in-Some-clause-outcome c =
    handle_outcome c.args.here.now.valid.now c.args.here.now.targets.now c.args.handle.now c.args.arguments.now c.code.ensures.sound c.requires.fits c.requires.known c.requires.points c.requires.lawful.0 c.requires.lawful.1 (Ok c.in-Some.found) _ (c.entry.ensures.value ∙ c.code.ensures.value) _ _ _ _ c.reach-depth.ensures.on (c.in-Some.ensures.told _)

pub returns-in-Some-clause-steps : goal.returns-in-Some-clause-steps
returns-in-Some-clause-steps c =
    handle_steps c.args.here.now.valid.now c.args.here.now.targets.now c.args.handle.now c.args.arguments.now c.code.ensures.sound c.requires.fits c.requires.known c.requires.points c.requires.lawful.0 c.requires.lawful.1 (Ok c.in-Some.found) _ (c.entry.ensures.value ∙ c.code.ensures.value) _ _ _ _ c.reach-depth.ensures.on (c.in-Some.ensures.told _)

pub returns-in-Some-clause-few : goal.returns-in-Some-clause-few
returns-in-Some-clause-few c =
    handle_few c.args.here.now.valid.now c.args.here.now.targets.now c.args.handle.now c.args.arguments.now c.code.ensures.sound c.requires.fits c.requires.known c.requires.points c.requires.lawful.0 c.requires.lawful.1 (Ok c.in-Some.found) _ (c.entry.ensures.value ∙ c.code.ensures.value) _ _ _ _ c.reach-depth.ensures.on (c.in-Some.ensures.told _)

pub returns-clause-outcome : goal.returns-clause-outcome
returns-clause-outcome c =
    handle_outcome c.args.here.now.valid.now c.args.here.now.targets.now c.args.handle.now c.args.arguments.now c.code.ensures.sound c.requires.fits c.requires.known c.requires.points c.requires.lawful.0 c.requires.lawful.1 c.by_call.result _ (c.entry.ensures.value ∙ c.code.ensures.value) _ _ _ _ c.reach-depth.ensures.on (search rules)

pub returns-clause-steps : goal.returns-clause-steps
returns-clause-steps c =
    handle_steps c.args.here.now.valid.now c.args.here.now.targets.now c.args.handle.now c.args.arguments.now c.code.ensures.sound c.requires.fits c.requires.known c.requires.points c.requires.lawful.0 c.requires.lawful.1 c.by_call.result _ (c.entry.ensures.value ∙ c.code.ensures.value) _ _ _ _ c.reach-depth.ensures.on (search rules)

pub returns-clause-few : goal.returns-clause-few
returns-clause-few c =
    handle_few c.args.here.now.valid.now c.args.here.now.targets.now c.args.handle.now c.args.arguments.now c.code.ensures.sound c.requires.fits c.requires.known c.requires.points c.requires.lawful.0 c.requires.lawful.1 c.by_call.result _ (c.entry.ensures.value ∙ c.code.ensures.value) _ _ _ _ c.reach-depth.ensures.on (search rules)

pub returns-clause-memory : goal.returns-clause-memory
returns-clause-memory c =
    handle_answered c.args.here.now.valid.now c.args.here.now.targets.now c.args.handle.now c.args.arguments.now c.code.ensures.sound c.requires.fits c.requires.known c.requires.points c.requires.lawful.0 c.requires.lawful.1 c.by_call.result _ (c.entry.ensures.value ∙ c.code.ensures.value) _ _ _ _ c.reach-depth.ensures.on (search rules)
