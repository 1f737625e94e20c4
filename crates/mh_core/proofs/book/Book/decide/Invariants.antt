use Rattle.std.proofs.Common.{◌≡◌, ◌&&◌}
use Rattle.mh_core.specs.Installations.{is_concerned, is_current, site_linkage}
use Rattle.mh_core.specs.Replayed.{relinked}
use Rattle.mh_core.proofs.InstalledLinks.{gathered}
use Rattle.mh_core.proofs.PlanLinks.{left_out_before}
use Rattle.mh_core.proofs.book.Book.decide.Given as goal

abbrev pub invariant-loop-site : goal.invariant-loop-site
invariant-loop-site l = record {
  sites : l.sites.items ≡ gathered (site_linkage l.self.definition l.self.records l.plan) (is_concerned l.self.definition l.self.records l.plan) 0 l.site;
  left_out : l.left_out.items ≡ left_out_before l.self.definition l.self.records l.plan l.site;
  relinkings : l.relinkings.items
      ≡ gathered (relinked l.self.definition l.self.records l.plan) (λ s. is_concerned l.self.definition l.self.records l.plan s && is_current l.self.records l.plan s) 0 l.site;
}
