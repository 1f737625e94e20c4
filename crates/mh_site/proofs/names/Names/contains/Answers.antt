use Rattle.std.proofs.Common.{sym}
use Rattle.mh_site.proofs.NameLemmas.{list_any-texts}
use Rattle.mh_site.proofs.names.Names.contains.Goals as goal

pub returns : goal.returns
returns c = record { value = rw (c.contains.ensures, ← c.self.view_is) (sym (list_any-texts c.args.name.now c.self.inside.set.keys)) }
