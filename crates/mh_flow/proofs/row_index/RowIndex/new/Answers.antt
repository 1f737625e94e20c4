use Rattle.std.proofs.Common.{refl}
use Rattle.mh_flow.specs.declared.need_row.NeedRow.{NeedRow}
use Rattle.mh_flow.proofs.Running.{rows_chained, keys_inside}
use Rattle.mh_flow.proofs.row_index.RowIndex.new.Goals as goal

pub chain_of-requires : goal.chain_of-requires
chain_of-requires c = record { inside = rw c.deref.ensures.value (keys_inside (λ (r : NeedRow). r.link) _ _ _ c.in_ok-keys.ensures c.requires.links) }

pub chain_of-requires-2 : goal.chain_of-requires-2
chain_of-requires-2 c = record { inside = rw c.deref-2.ensures.value (keys_inside (λ (r : NeedRow). r.point) _ _ _ c.in_ok-keys-2.ensures c.requires.points) }

pub returns : goal.returns
returns c = record {
  indexed = record {
    by_link = rows_chained (λ (r : NeedRow). r.link) _ _ _ _ _ refl c.in_ok-keys.ensures (rw c.deref.ensures.value at c.in_ok-by_link.ensures.value);
    by_point = rows_chained (λ (r : NeedRow). r.point) _ _ _ _ _ refl c.in_ok-keys-2.ensures (rw c.deref-2.ensures.value at c.in_ok-by_point.ensures.value);
  };
}
