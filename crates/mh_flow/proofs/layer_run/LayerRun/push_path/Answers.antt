use Rattle.std.proofs.Common.{◌≡◌, ◌<◌, ◌∙◌, sym, ap, List, ℕ, subst, length, arith}
use Rattle.std.specs.Vec.{with_items}
use Rattle.std.proofs.lemmas.List.{with_items_is}
use Rattle.std.proofs.lemmas.Grind.{get_or_default_zero}
use Rattle.mh_flow.specs.declared.need_row.NeedRow.{NeedRow}
use Rattle.mh_flow.specs.Carried.{number_at}
use Rattle.mh_flow.specs.Paths.{IsPushed}
use Rattle.mh_flow.specs.LayerData.{LayerData}
use Rattle.mh_flow.proofs.Runs.{run_within}
use Rattle.mh_flow.proofs.Running.{pushed_run, pushed_indexed}
use Rattle.mh_flow.proofs.layer_run.LayerRun.push_path.Goals as goal

pub push_along-amount-requires-clause-within : goal.push_along-amount-requires-clause-within
push_along-amount-requires-clause-within c =
    rw (c.deref_mut.ensures.value, c.deref_mut-2.ensures.value) (run_within _ _ _ _ (c.needs_are_of_links.ensures.needs _) c.self.invariant.0.known c.self.invariant.0.run)

pub invariant_of-self : goal.invariant_of-self
invariant_of-self c =
    let points_same : length c.args.self.now.points ≡ length c.self.inside.points.items = ap (λ (a : LayerData). length a.points) (sym c.self.view_is) in
    let inside : c.args.path.now.point < length c.self.inside.cost_left.items = omega (arith, points_same, c.requires.inside, c.self.invariant.0.point_levels, c.self.invariant.0.run.point_count) in
    let p : ℕ = c.args.path.now.point in
    let first = rw (c.deref_mut.ensures.value, c.deref_mut-2.ensures.value) at c.push_along-amount.ensures.pushed in
    let first_left : length c.push_along-amount.new.gain_left ≡ length c.self.inside.gain_left.items = rw c.deref_mut-2.ensures.value at c.push_along-amount.ensures.left in
    let rows_is : (with_items c.self.inside.rows c.push_along-amount.new.rows).items ≡ c.push_along-amount.new.rows =
    with_items_is c.self.inside.rows c.push_along-amount.new.rows (first.length ∙ sym c.self.inside.rows.ok.0) in
    let left_is : (with_items c.self.inside.gain_left c.push_along-amount.new.gain_left).items ≡ c.push_along-amount.new.gain_left =
    with_items_is c.self.inside.gain_left c.push_along-amount.new.gain_left (first_left ∙ sym c.self.inside.gain_left.ok.0) in
    let links : ℕ → ℕ = number_at c.deref.result.now in
    let points : ℕ → ℕ = number_at c.deref-2.result.now in
    let half : IsPushed c.self.inside.rows.items (with_items c.self.inside.rows c.push_along-amount.new.rows).items c.self.inside.gain_left.items c.push_along-amount.new.gain_left links points (points p) p c.push_along-amount.result =
    subst (λ (xs : List NeedRow). IsPushed c.self.inside.rows.items xs c.self.inside.gain_left.items c.push_along-amount.new.gain_left links points (points p) p c.push_along-amount.result) (sym rows_is) first in
    let pushed : IsPushed c.self.inside.rows.items (with_items c.self.inside.rows c.push_along-amount.new.rows).items c.self.inside.gain_left.items (with_items c.self.inside.gain_left c.push_along-amount.new.gain_left).items links points (points p) p c.push_along-amount.result =
    subst (λ (xs : List ℕ). IsPushed c.self.inside.rows.items (with_items c.self.inside.rows c.push_along-amount.new.rows).items c.self.inside.gain_left.items xs links points (points p) p c.push_along-amount.result) (sym left_is) half in
    let left : length (with_items c.self.inside.gain_left c.push_along-amount.new.gain_left).items ≡ length c.self.inside.gain_left.items = ap length left_is ∙ first_left in
    let read = c.index.ensures ∙ get_or_default_zero c.self.inside.cost_left.items c.args.path.now.point c.index.result.now inside in
    let written = c.index_mut.ensures.value ∙ get_or_default_zero c.self.inside.cost_left.items c.args.path.now.point c.index_mut.result.now inside in
    let run = pushed_run _ _ _ _ _ _ _ _ _ _ _ _ _ c.self.invariant.0.run pushed left inside c.push_along-amount.ensures.limited read written in (
      record {
        known = c.self.invariant.0.known;
        run = run;
        link_levels = c.self.invariant.0.link_levels;
        point_levels = c.self.invariant.0.point_levels;
      },
      record {
        by_link = pushed_indexed _ _ _ _ _ _ _ _ _ (λ (r : NeedRow). r.link) _ _ _ pushed (λ k. sym (pushed.places k).link) c.self.invariant.1.by_link;
        by_point = pushed_indexed _ _ _ _ _ _ _ _ _ (λ (r : NeedRow). r.point) _ _ _ pushed (λ k. sym (pushed.places k).point) c.self.invariant.1.by_point;
      },
    )

pub returns-clause-kept : goal.returns-clause-kept
returns-clause-kept c = (invariant_of-self c).0
