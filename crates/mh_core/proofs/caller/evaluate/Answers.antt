use Rattle.std.proofs.Common.{◌≡◌, ◌∙◌, Bool, IfOk, List, arith, ap, sym, subst, length}
use Rattle.mh_type.specs.Fits.{Fits}
use Rattle.mh_type.specs.declared.outcome.Outcome.{Outcome}
use Rattle.mh_tree.specs.Handle.{TypedTree}
use Rattle.mh_tree.specs.Limits.{point_bound}
use Rattle.mh_tree.specs.Meaning.{mean}
use Rattle.mh_tree.specs.Sites.{HavePoints, IsLawful, with_sites}
use Rattle.mh_site.specs.Worlds.{environment_of_links, linkeds, state_at}
use Rattle.mh_core.specs.Laws.{levels_of}
use Rattle.mh_core.proofs.Calls.{inside, known, known_all, lawful, linked_fits, means}
use Rattle.mh_core.proofs.caller.evaluate.Goals as goal

pub prepared-requires : goal.prepared-requires
prepared-requires c = let may = c.requires.callable in record { inside = inside may.0 c.args.world.now may.1.0 c.args.site c.args.arguments.now may.1.1 }

pub run-requires-clause-fits : goal.run-requires-clause-fits
run-requires-clause-fits c =
    let may = c.requires.callable in
    subst (λ (t : TypedTree). Fits t.signature c.args.arguments.now) (sym c.prepared.ensures.value) (linked_fits may.0 c.args.world.now may.1.0 c.args.site c.args.arguments.now may.1.1)

pub run-requires-clause-known : goal.run-requires-clause-known
run-requires-clause-known c =
    let may = c.requires.callable in
    omega (arith, known may.0 c.args.world.now may.1.0 c.args.site c.args.arguments.now may.1.1, ap (λ (t : TypedTree). point_bound t.tree) c.prepared.ensures.value, ap length c.valid.ensures.value)

pub run-requires-clause-points : goal.run-requires-clause-points
run-requires-clause-points c =
    let may = c.requires.callable in
    let w = c.args.world.now in
    let all : HavePoints (length w.valid) (linkeds w) = known_all may.0 w may.1.0 c.args.site c.args.arguments.now may.1.1 c.prepared_all.ensures.typed in
    subst (λ (v : List Bool). HavePoints (length v) c.prepared_all.result.now) (sym c.valid.ensures.value) (subst (λ (ts : List TypedTree). HavePoints (length w.valid) ts) (sym c.prepared_all.ensures.value) all)

pub run-requires-clause-lawful : goal.run-requires-clause-lawful
run-requires-clause-lawful c =
    let may = c.requires.callable in
    let w = c.args.world.now in
    let own : IsLawful (levels_of may.0) (linkeds w) (state_at w c.args.site).linked.tree = lawful may.0 w may.1.0 c.args.site c.args.arguments.now may.1.1 c.prepared_all.ensures.typed in
    let here = subst (λ (t : TypedTree). IsLawful (levels_of may.0) (linkeds w) t.tree) (sym c.prepared.ensures.value) own in
    (levels_of may.0, subst (λ (ts : List TypedTree). IsLawful (levels_of may.0) ts c.prepared.result.now.tree) (sym c.prepared_all.ensures.value) here)

pub returns-clause-outcome : goal.returns-clause-outcome
returns-clause-outcome c =
    let may = c.requires.callable in
    let w = c.args.world.now in
    let a = c.args.arguments.now in
    let own = c.prepared.result.now.tree in
    let links = c.prepared_all.result.now in
    let there =
    ap (λ (v : List Bool). mean (with_sites v links) own a) c.valid.ensures.value
    ∙ (ap (λ (ts : List TypedTree). mean (with_sites w.valid ts) own a) c.prepared_all.ensures.value
    ∙ (ap (λ (t : TypedTree). mean (environment_of_links w) t.tree a) c.prepared.ensures.value
    ∙ means may.0 w may.1.0 c.args.site a may.1.1 c.prepared_all.ensures.typed)) in
    subst (λ (o : Outcome). IfOk c.run.result (λ r. r.0 ≡ o)) there c.run.ensures.outcome
