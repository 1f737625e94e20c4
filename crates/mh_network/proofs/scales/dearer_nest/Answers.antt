use Rattle.mh_network.specs.Scales.{scaled}
use Rattle.mh_network.specs.Laws.Nested.{nested}
use Rattle.mh_network.specs.Laws.Weighing.{scales_rise}
use Rattle.mh_network.proofs.scales.dearer_nest.Goals as goal

pub returns : goal.returns
returns c = record {
  nest = nested;
  scales = λ P k m l. nested (scaled P k) (scaled P m) (scales_rise P k m l);
}
