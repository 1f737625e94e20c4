use Rattle.std.proofs.Common.{length}
use Rattle.std.proofs.lemmas.Bool.{and_from, and_parts}
use Rattle.mh_network.specs.Problems.{needs_point}
use Rattle.mh_network.specs.Laws.Optimal.{needs-in_range, some_below-from, some_below-gives}
use Rattle.mh_network.proofs.laws.needs_are_of_links.Goals as goal

pub returns : goal.returns
returns c = record {
  needs = λ P. record {
    inside = needs-in_range P;
    some = λ S p needed.
        let found = some_below-gives (length P.links) _ needed in
        let both = and_parts (S found.0) (needs_point P found.0 p) found.2 in
        (found.0, both.0, both.1);
    each = λ S j p chosen needs. some_below-from (length P.links) _ j (needs-in_range P j p needs) (and_from _ _ chosen needs);
  };
}
