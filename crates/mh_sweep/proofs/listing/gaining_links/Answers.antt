use Rattle.std.proofs.Common.{◌<◌, ◌≤◌, refl, arith}
use Rattle.mh_network.specs.Blocks.{gaining_links}
use Rattle.mh_network.specs.Problems.{gain_of, link_at}
use Rattle.mh_sweep.proofs.Ranges.{gains_above, gains_not, range_failed, range_passed}
use Rattle.mh_sweep.proofs.listing.gaining_links.Goals as goal
use Rattle.mh_sweep.proofs.listing.gaining_links.Goals.{then-gain-charge+in_ok-push, else-gain-charge}

pub loop-link-preserved : goal.loop-link-preserved
loop-link-preserved c =
    let P = c.args.problem.now in
    let j = c.loop-link.link in
    let problem = c.links-link-end.ensures.problem in
    elim c.if-gain-charge.branch [
      | then-gain-charge+in_ok-push w ↦
          let above : (link_at P j).charge < gain_of P j = omega (arith, w.if-gain-charge.true, c.gain.ensures.value, c.charge.ensures.value) in
          rw (w.listed-is, w.in_ok-push.ensures.items) (range_passed (gaining_links P) j _ _ (gains_above P problem j above) c.loop-link.invariant refl)
      | else-gain-charge w ↦
          let below : gain_of P j ≤ (link_at P j).charge = omega (arith, w.if-gain-charge.false, c.gain.ensures.value, c.charge.ensures.value) in
          rw w.listed-is (range_failed (gaining_links P) j _ _ (gains_not P problem j below) c.loop-link.invariant refl)
    ]
