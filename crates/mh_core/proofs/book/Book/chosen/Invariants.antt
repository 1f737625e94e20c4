use Rattle.std.proofs.Common.{◌≡◌, ◌≤◌, ◌+◌, ◌-◌, length}
use Rattle.mh_network.specs.Selection.{member}
use Rattle.mh_core.specs.Installations.{plan_at}
use Rattle.mh_core.proofs.InstalledLinks.{gathered}
use Rattle.mh_core.proofs.book.Book.chosen.Given as goal

abbrev pub invariant-loop-link : goal.invariant-loop-link
invariant-loop-link l = record {
  least : l.first ≤ l.link;
  few : length l.chosen.items + l.first ≤ l.link;
  items : l.chosen.items ≡ gathered (λ j. j) (member (plan_at l.self.records l.plan).plan.links) l.first (l.link - l.first);
}
