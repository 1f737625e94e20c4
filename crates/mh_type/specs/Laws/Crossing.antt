-- The types of values that cross threads.
use denote.Param.Send.{IsSend, IsSync}
use Rattle.mh_type.specs.contracts.kind.Kind as kinds
use Rattle.mh_type.specs.contracts.method_type.MethodType as method_types
use Rattle.mh_type.specs.contracts.operation.Op as operations
use Rattle.mh_type.specs.contracts.value.Value as values

-- kinds, method types, operations and values can be sent to another thread and shared between threads, alone and as parts of others
pub record ValuesCross : Type 0 where
  pub kind_send : IsSend kinds.the_row
  pub kind_sync : IsSync kinds.the_row
  pub kind_part_send : IsSend kinds.the_field.row
  pub kind_part_sync : IsSync kinds.the_field.row
  pub method_type_send : IsSend method_types.the_row
  pub method_type_sync : IsSync method_types.the_row
  pub operation_part_send : IsSend operations.the_field.row
  pub operation_part_sync : IsSync operations.the_field.row
  pub value_send : IsSend values.the_row
  pub value_sync : IsSync values.the_row
  pub value_part_send : IsSend values.the_field.row
  pub value_part_sync : IsSync values.the_field.row
