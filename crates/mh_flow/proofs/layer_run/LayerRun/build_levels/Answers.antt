use Rattle.std.proofs.Common.{◌∙◌, sym, arith}
use Rattle.mh_flow.specs.Run.{IsLayered}
use Rattle.mh_flow.specs.LayerData.{IsSinkLevel}
use Rattle.mh_flow.proofs.Measuring.{distances}
use Rattle.mh_flow.proofs.layer_run.LayerRun.build_levels.Goals as goal

pub returns-clause-distances : goal.returns-clause-distances
returns-clause-distances c =
    let layered : IsLayered c.self.inside.rows.items c.self.inside.gain_left.items c.in_ok-links.links.items c.in_ok-links.points.items =
    rw (c.deref.ensures.value, c.deref-2.ensures.value) at c.in_ok-links.ensures.layered in
    let level : IsSinkLevel c.self.inside.cost_left.items c.in_ok-links.points.items c.sink_level-self-inside.result =
    rw (c.deref-3.ensures.value, c.deref-4.ensures.value) at c.sink_level-self-inside.ensures.value in
    distances _ (record {
      known = c.self.invariant.0.known;
      run = c.self.invariant.0.run;
      link_levels = sym layered.link_count ∙ c.self.invariant.0.run.link_count;
      point_levels = omega (arith, c.in_ok-links.ensures.points, c.len.ensures, c.self.invariant.0.run.point_count);
    }) layered level
