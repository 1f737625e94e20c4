use Rattle.mh_site.proofs.NameLemmas.{place_of-texts}
use Rattle.mh_site.proofs.names.Names.place.Goals as goal

pub returns : goal.returns
returns c = record { value = rw (c.unwrap_or.ensures, c.get_index_of.ensures.index, c.len.ensures.len, ← c.self.view_is) (place_of-texts c.args.name.now c.self.inside.set.keys) }
