use denote.Param.Send.{IsSend, IsSync, sendable}
use Rattle.std.proofs.Crossing as crossing
use Rattle.std.proofs.alloc.Global.TheSendSync as global
use Rattle.std.proofs.option.Option.TheSendSync as option
use Rattle.std.proofs.sync.Arc.TheSendSync as arc
use Rattle.std.proofs.vec.Vec.TheSendSync as vec
use Rattle.mh_site.proofs.link.Link.TheSendSync as link
use Rattle.mh_site.proofs.name.Name.TheSendSync as name
use Rattle.mh_site.proofs.numbering.Numbering.TheSendSync as numbering
use Rattle.mh_site.proofs.point.Point.TheSendSync as point
use Rattle.mh_site.specs.contracts.control.Installation as installations
use Rattle.mh_site.specs.contracts.control.Relinking as relinkings
use Rattle.mh_site.specs.contracts.control.Retargeting as retargetings
use Rattle.mh_site.proofs.crossing.worlds_cross_threads.Goals as goal

-- what worlds and controls are made of, beside trees
ruleset parts = (global.the_field_send, global.the_field_sync, vec.the_send, vec.the_sync, crossing.crosses, sendable)

-- what definitions are made of, beside trees and values
ruleset declarations = (
  arc.the_send,
  arc.the_sync,
  option.the_field_send,
  option.the_send,
  option.the_field_sync,
  option.the_sync,
  link.the_send,
  link.the_sync,
  name.the_send,
  name.the_sync,
  numbering.the_field_send,
  numbering.the_field_sync,
  point.the_send,
  point.the_sync,
  parts,
)

pub returns : goal.returns
returns c =
    let t = c.trees_cross_threads.ensures.trees in
    let v = c.values_cross_threads.ensures.values in
    let declared_send = t.declared_send in
    let declared_sync = t.declared_sync in
    let code = c.code_crosses_threads.ensures.code in
    let prepared_send = code.prepared_send in
    let prepared_sync = code.prepared_sync in
    let method_type_send = v.method_type_send in
    let method_type_sync = v.method_type_sync in
    let value_part_send = v.value_part_send in
    let value_part_sync = v.value_part_sync in
    let retargeting_send : IsSend retargetings.the_row = search parts depth 60 fits 20000 in
    let retargeting_sync : IsSync retargetings.the_row = search parts depth 60 fits 20000 in
    let relinking_send : IsSend relinkings.the_row = search parts depth 60 fits 20000 in
    let relinking_sync : IsSync relinkings.the_row = search parts depth 60 fits 20000 in
    let installation_send : IsSend installations.the_row = search parts depth 60 fits 20000 in
    let installation_sync : IsSync installations.the_row = search parts depth 60 fits 20000 in
    record {
      worlds = record {
        definition_send = search declarations depth 60 fits 20000;
        definition_sync = search declarations depth 60 fits 20000;
        world_send = search parts depth 60 fits 20000;
        world_sync = search parts depth 60 fits 20000;
        control_part_send = search parts depth 60 fits 20000;
        control_part_sync = search parts depth 60 fits 20000;
      };
    }
