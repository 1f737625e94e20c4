use Rattle.mh_site.specs.Laws.LookBack.{site_read, world_sites, valid_is, world_front}
use Rattle.mh_site.proofs.laws.worlds_look_back.Goals as goal

pub returns : goal.returns
returns c = record {
  sites = λ d newest s h. site_read d newest s h;
  count = λ d newest. world_sites d newest;
  points = λ d newest. valid_is d newest;
  front = λ d newest. world_front d newest;
}
