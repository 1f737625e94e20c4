use Rattle.std.proofs.Common.{ap}
use Rattle.mh_site.specs.Worlds.{WorldState}
use Rattle.mh_core.proofs.Resumed.{resumed_valid}
use Rattle.mh_core.proofs.runtime.Runtime.resume.Goals as goal

pub returns-clause-valid : goal.returns-clause-valid
returns-clause-valid c =
    resumed_valid c.args.definition.now c.args.workers c.args.limits c.args.invalid c.args.hits.now _ c.in_ok-runtime.ensures.resumed.book

pub returns-clause-sites : goal.returns-clause-sites
returns-clause-sites c = ap (λ (w : WorldState). w.sites) c.in_ok-runtime.ensures.resumed.book.world
