use Rattle.mh_core.specs.Laws.Worlds.{read, valid_is}
use Rattle.mh_core.proofs.laws.records_look_back.Goals as goal

pub returns : goal.returns
returns c = record {
  sites = λ d r s h. read d r s h;
  points = λ d r. valid_is d r;
}
