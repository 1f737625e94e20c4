use Rattle.mh_profile.proofs.NameTexts.{place_text}
use Rattle.mh_profile.proofs.names.PointNames.place.Goals as goal

pub returns-clause-value : goal.returns-clause-value
returns-clause-value c = rw (c.unwrap_or.ensures, c.get_index_of.ensures.index, c.len.ensures.len, ← c.self.view_is) (place_text c.args.name.now c.self.inside.set.keys)
