use Rattle.std.proofs.Common.{◌≡◌, map, take}
use Rattle.mh_core.specs.Installations.{entry}
use Rattle.mh_core.proofs.book.Book.entries.Given as goal

abbrev pub invariant-loop-link : goal.invariant-loop-link
invariant-loop-link l = l.entries.items ≡ map (entry l.self.definition) (take l.link-index l.links)
