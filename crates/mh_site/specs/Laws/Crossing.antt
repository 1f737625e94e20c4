-- The types of definitions and worlds that cross threads.
use denote.Param.Send.{IsSend, IsSync}
use Rattle.mh_site.specs.contracts.control.Control as controls
use Rattle.mh_site.specs.contracts.definition.Definition as definitions
use Rattle.mh_site.specs.contracts.world.World as worlds

-- definitions, worlds and controls can be sent to another thread and shared between threads
pub record WorldsCross : Type 0 where
  pub definition_send : IsSend definitions.the_row
  pub definition_sync : IsSync definitions.the_row
  pub world_send : IsSend worlds.the_row
  pub world_sync : IsSync worlds.the_row
  pub control_part_send : IsSend controls.the_field.row
  pub control_part_sync : IsSync controls.the_field.row
