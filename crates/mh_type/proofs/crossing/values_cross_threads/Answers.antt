use Rattle.mh_type.proofs.kind.Kind.TheSendSync as kind
use Rattle.mh_type.proofs.method_type.MethodType.TheSendSync as method_type
use Rattle.mh_type.proofs.operation.Op.TheSendSync as op
use Rattle.mh_type.proofs.value.Value.TheSendSync as value
use Rattle.mh_type.proofs.crossing.values_cross_threads.Goals as goal

pub returns : goal.returns
returns c = record {
  values = record {
    kind_send = kind.the_send;
    kind_sync = kind.the_sync;
    kind_part_send = kind.the_field_send;
    kind_part_sync = kind.the_field_sync;
    method_type_send = method_type.the_send;
    method_type_sync = method_type.the_sync;
    operation_part_send = op.the_field_send;
    operation_part_sync = op.the_field_sync;
    value_send = value.the_send;
    value_sync = value.the_sync;
    value_part_send = value.the_field_send;
    value_part_sync = value.the_field_sync;
  };
}
