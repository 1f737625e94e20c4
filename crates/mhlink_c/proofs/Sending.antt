-- Handles may go to another thread with what they own, part by part.
use mathlib.Core.Bool.{Bool, true, false}
use base.Shift.{Keyless}
use mir.Raw.{raw}
use denote.Memory.{lone}
use denote.RattleType.{RattleType}
use denote.RawPtr.{Ptr}
use denote.Builtin.{RawPtr}
use denote.Struct.Struct.{exits_of}
use denote.Struct.Owning.{fields, to, shape}
use denote.Param.Send.{IsSend, IsSync, owning_send, struct_send, sendable}
use Rattle.std_alloc.proofs.SendSync.{quiet, lies}
use Rattle.std.proofs.Crossing as crossing
use Rattle.std.proofs.alloc.Global.TheSendSync as heap
use Rattle.std.proofs.vec.Vec.TheSendSync as vec
use Rattle.std.specs.Global.{Global}
use Rattle.mh_core.specs.Laws.Crossing.{RuntimesCross}
use Rattle.mh_share.specs.contracts.caller.Caller as SharedCaller
use Rattle.mh_share.specs.contracts.desk.Desk as SharedDesk
use Rattle.mh_json.specs.contracts.json.scope.Scope as Scope
use Rattle.mh_tree.specs.Laws.Crossing.{TreesCross}
use Rattle.mh_type.specs.Laws.Crossing.{ValuesCross}
use Rattle.mhlink_c.specs.Held.{held}
use Rattle.mhlink_c.specs.contracts.caller.HeldCaller as Caller
use Rattle.mhlink_c.specs.contracts.caller_handle.MhlinkCaller as CallerHandle
use Rattle.mhlink_c.specs.contracts.desk.HeldDesk as Desk
use Rattle.mhlink_c.specs.contracts.desk_handle.MhlinkDesk as DeskHandle
use Rattle.mhlink_c.specs.contracts.handle.MhlinkMachine as MachineHandle
use Rattle.mhlink_c.specs.contracts.host.Host as Host
use Rattle.mhlink_c.specs.contracts.tree.HeldTree as Tree
use Rattle.mhlink_c.specs.contracts.tree_handle.MhlinkTree as TreeHandle

ruleset parts = (heap.the_field_send, heap.the_field_sync, vec.the_send, vec.the_sync, crossing.crosses, sendable)

pointer_send : IsSend RawPtr
pointer_send = search sendable

-- what a handle owns needs no key to go
held_keyless : (T : RattleType) → IsSend T → (full : Bool) (a : Global) (p : Ptr) (x : T.Denot) → Keyless (held T full a p x)
held_keyless T s true a p x = (lies T s p x, crossing.frees.frees a (raw (lone T.mir)) p)
held_keyless T s false a p x = tt

module _ (values : ValuesCross) (trees : TreesCross) where
  -- names as a part of what has them
  scope_send : IsSend Scope.the_field.row
  scope_send =
      let a = trees.handle_send in
      let b = values.method_type_send in
      search parts depth 60 fits 20000

  tree_send : IsSend Tree.the_row
  tree_send = let a = trees.handle_send in search parts depth 60 fits 20000

  pub tree_handle_send : IsSend TreeHandle.the_row
  tree_handle_send =
      let O = TreeHandle.the_type in
      owning_send O (pointer_send, (heap.the_field_send, tt)) (λ d. held_keyless Tree.the_row tree_send d.full d.alloc d.at d.value)
      (λ k. quiet (to O) (exits_of k (fields O)) ((struct_send (shape O) (pointer_send, (heap.the_field_send, tt))).leaving k))

  module _ (runtimes : RuntimesCross) where
    host_send : IsSend Host.the_row
    host_send =
        let a = runtimes.runtime_send in
        let b = scope_send in
        let c = values.value_send in
        search parts depth 60 fits 20000

    pub machine_send : IsSend MachineHandle.the_row
    machine_send =
        let O = MachineHandle.the_type in
        owning_send O (pointer_send, (heap.the_field_send, tt)) (λ d. held_keyless Host.the_row host_send d.full d.alloc d.at d.value)
        (λ k. quiet (to O) (exits_of k (fields O)) ((struct_send (shape O) (pointer_send, (heap.the_field_send, tt))).leaving k))

  module _ (shared : IsSend SharedDesk.the_row) where
    desk_send : IsSend Desk.the_row
    desk_send = let a = scope_send in search parts depth 60 fits 20000

    pub desk_handle_send : IsSend DeskHandle.the_row
    desk_handle_send =
        let O = DeskHandle.the_type in
        owning_send O (pointer_send, (heap.the_field_send, tt)) (λ d. held_keyless Desk.the_row desk_send d.full d.alloc d.at d.value)
        (λ k. quiet (to O) (exits_of k (fields O)) ((struct_send (shape O) (pointer_send, (heap.the_field_send, tt))).leaving k))

  module _ (shared : IsSend SharedCaller.the_row) where
    caller_send : IsSend Caller.the_row
    caller_send = let a = values.value_send in search parts depth 60 fits 20000

    pub caller_handle_send : IsSend CallerHandle.the_row
    caller_handle_send =
        let O = CallerHandle.the_type in
        owning_send O (pointer_send, (heap.the_field_send, tt)) (λ d. held_keyless Caller.the_row caller_send d.full d.alloc d.at d.value)
        (λ k. quiet (to O) (exits_of k (fields O)) ((struct_send (shape O) (pointer_send, (heap.the_field_send, tt))).leaving k))
