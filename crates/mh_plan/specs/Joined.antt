-- The flows and the links of parts, by the numbers of the whole problem.
use Rattle.std.specs.Prelude.{ℕ, zero, suc, ◌+◌, ◌*◌, List, [], ◌++◌, map}
use Rattle.std.specs.List.{slice_index_or}
use Rattle.mh_network.specs.declared.part.Part.{Part}
use Rattle.mh_network.specs.Parts.{part_at}
use Rattle.mh_network.specs.Selection.{Row, Charge}
use Rattle.mh_flow.specs.FlowData.{FlowData}

-- the lists of the numbers below n, one after another
abbrev pub joined : {X : Type 0} → (ℕ → List X) → ℕ → List X
joined f zero = []
joined f (suc n) = joined f n ++ f n

abbrev pub whole_link : Part → ℕ → ℕ
whole_link part k = slice_index_or part.links k 0

abbrev pub whole_point : Part → ℕ → ℕ
whole_point part r = slice_index_or part.points r 0

abbrev pub whole_row : Part → Row → Row
whole_row part r = (whole_link part r.0, whole_point part r.1, r.2)

abbrev pub whole_charge : Part → Charge → Charge
whole_charge part r = (whole_link part r.0, r.1)

abbrev pub rows_of : List Part → (ℕ → FlowData) → ℕ → List Row
rows_of parts run i = map (whole_row (part_at parts i)) (run i).rows

abbrev pub charges_of : List Part → (ℕ → FlowData) → ℕ → List Charge
charges_of parts run i = map (whole_charge (part_at parts i)) (run i).charges

abbrev pub links_of : List Part → (ℕ → FlowData) → ℕ → List ℕ
links_of parts run i = map (whole_link (part_at parts i)) (run i).reached

-- ascends with the link, and then with the point
abbrev pub row_key : Row → ℕ
row_key r = r.0 * 4294967296 + r.1

abbrev pub charge_key : Charge → ℕ
charge_key r = r.0
