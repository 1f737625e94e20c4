use Rattle.std.proofs.Common.{arith}
use Rattle.mh_network.specs.Laws.Weighing.{alike_least, alike_least_back}
use Rattle.mh_network.proofs.scales.thousand_is_one.Goals as goal

pub returns : goal.returns
returns c = record {
  there = λ P S least. alike_least P 1000 S (omega arith) least;
  back = λ P S least. alike_least_back P 1000 S (omega arith) least;
}
