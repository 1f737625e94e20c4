-- The row of a link by tables: the totals, and the validity of the points.
use Rattle.std.specs.Prelude.{ℕ, ◌*◌, Bool, false, List, slice_index_or}
use Rattle.std.specs.List.{list_all}
use Rattle.mh_network.specs.declared.link_row.LinkRow.{LinkRow}
use Rattle.mh_ledger.specs.Ledgers.{at}
use Rattle.mh_site.specs.Defined.{DefinitionData}
use Rattle.mh_site.specs.Links.{link_at}

-- whether these points are valid; one past the last is not
abbrev pub are_valid : List Bool → List ℕ → Bool
are_valid valid points = list_all (λ p. slice_index_or valid p false) points

abbrev pub row_in : DefinitionData → List ℕ → List Bool → ℕ → LinkRow
row_in d totals valid j = record {
  gain = (link_at d j).1.weight * at totals j;
  eligible = are_valid valid (link_at d j).1.needs;
  needs = (link_at d j).1.needs;
  charge = (link_at d j).1.charge;
}
