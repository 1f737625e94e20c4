use Rattle.std.proofs.Common.{◌≡◌, ◌<◌, ℕ, map}
use Rattle.mh_tree.specs.Typing.{IsTyped}
use Rattle.mh_pic.specs.Specialised.{retired_tree}
use Rattle.mh_core.specs.Records.{base, numbers}
use Rattle.mh_core.proofs.book.Book.bases_without.Given as goal

abbrev pub invariant-loop-site : goal.invariant-loop-site
invariant-loop-site l = record {
  value : l.bases.items ≡ map (λ s. retired_tree l.points (base l.self.definition l.self.records s)) (numbers l.site);
  typed : (s : ℕ) → s < l.site → IsTyped (base l.self.definition l.self.records s).tree (base l.self.definition l.self.records s).signature;
}
