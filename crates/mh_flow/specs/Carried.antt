-- The sums of rows, by link, by point and together.
use Rattle.std.specs.Prelude.{ℕ, List}
use Rattle.std.specs.List.{sum_by, slice_index_or}
use Rattle.mh_network.specs.Sums.{amount_at}
use Rattle.mh_flow.specs.declared.need_row.NeedRow.{NeedRow}

abbrev pub no_row : NeedRow
no_row = record { link = 0; point = 0; amount = 0 }

abbrev pub row_at : List NeedRow → ℕ → NeedRow
row_at rows k = slice_index_or rows k no_row

abbrev pub out_of_link : List NeedRow → ℕ → ℕ
out_of_link rows j = amount_at (λ r. r.link) (λ r. r.amount) rows j

abbrev pub into_point : List NeedRow → ℕ → ℕ
into_point rows p = amount_at (λ r. r.point) (λ r. r.amount) rows p

abbrev pub carried : List NeedRow → ℕ
carried rows = sum_by (λ r. r.amount) rows

abbrev pub number_at : List ℕ → ℕ → ℕ
number_at xs k = slice_index_or xs k 0
