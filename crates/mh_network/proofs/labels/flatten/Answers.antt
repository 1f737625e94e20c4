use Rattle.std.proofs.Common.{◌<◌, ◌∙◌, ℕ, List, length, arith}
use Rattle.std.proofs.Math.ListN.{length-set}
use Rattle.std.proofs.lemmas.Grind.{same_number_lists}
use Rattle.mh_network.specs.inner.Labels.{label_of, LeadsDown}
use Rattle.mh_network.proofs.Labelling.{halved, halved_down, flat_more}
use Rattle.mh_network.proofs.labels.flatten.Goals as goal

pub loop-at-preserved : goal.loop-at-preserved
loop-at-preserved c =
    let t : List ℕ = c.loop-at.table in
    let at : ℕ = c.loop-at.at in
    let h = c.loop-at.invariant in
    let inside : at < length t = omega (arith, c.loop-at-test.true, h.count) in
    record {
      down = halved_down t at inside h.down;
      count = length-set t at (label_of t (label_of t at)) ∙ h.count;
      kept = λ labels leads. halved t labels at (h.kept labels leads) inside;
      flat = λ labels leads. flat_more t labels at (h.kept labels leads) inside (h.flat labels leads);
    }

pub returns : goal.returns
returns c = record {
  value = λ labels leads.
      let there : LeadsDown c.loop-at.table labels = c.loop-at.invariant.kept labels leads in
      same_number_lists c.loop-at.table labels there.count (λ p l. c.loop-at.invariant.flat labels leads p (omega (arith, l, c.loop-at-test.false, c.loop-at.invariant.count)));
}
