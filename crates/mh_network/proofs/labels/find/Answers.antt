use Rattle.std.proofs.Common.{◌≤◌, ◌∙◌, ℕ, List, arith}
use Rattle.std.proofs.Math.ListN.{length-set}
use Rattle.mh_network.specs.inner.Labels.{label_of, LeadsDown}
use Rattle.mh_network.proofs.Labelling.{halved, halved_down}
use Rattle.mh_network.proofs.labels.find.Goals as goal

pub loop-table-preserved : goal.loop-table-preserved
loop-table-preserved c =
    let t : List ℕ = c.loop-table.table in
    let at : ℕ = c.loop-table.at in
    let h = c.loop-table.invariant in
    let low : label_of t at ≤ at = h.down at in
    let lower : label_of t (label_of t at) ≤ label_of t at = h.down (label_of t at) in
    record {
      inside = omega (arith, low, lower, h.inside, length-set t at (label_of t (label_of t at)));
      down = halved_down t at h.inside h.down;
      count = length-set t at (label_of t (label_of t at)) ∙ h.count;
      kept = λ labels leads. halved t labels at (h.kept labels leads) h.inside;
      value = λ labels leads.
          let here : LeadsDown t labels = h.kept labels leads in
          here.same (label_of t at) (omega (arith, low, h.inside)) ∙ (here.same at h.inside ∙ h.value labels leads);
    }
