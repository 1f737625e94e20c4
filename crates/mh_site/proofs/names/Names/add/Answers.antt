use Rattle.mh_site.proofs.NameLemmas.{with_name-texts}
use Rattle.mh_site.proofs.names.Names.add.Goals as goal

pub returns-clause-ok : goal.returns-clause-ok
returns-clause-ok c =
    rw (← c.self.view_is, ← c.in_ok-name.ensures.ok, c.in_ok-insert_full.ensures.keys) (with_name-texts c.self.inside.set.keys c.in_ok-name.name)
