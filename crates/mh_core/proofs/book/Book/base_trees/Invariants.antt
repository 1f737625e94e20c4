use Rattle.std.proofs.Common.{◌≡◌, map}
use Rattle.mh_core.specs.Records.{base, numbers}
use Rattle.mh_core.proofs.book.Book.base_trees.Given as goal

abbrev pub invariant-loop-site : goal.invariant-loop-site
invariant-loop-site l = l.trees.items ≡ map (base l.self.definition l.self.records) (numbers l.site)
