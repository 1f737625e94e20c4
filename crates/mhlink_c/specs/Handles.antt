-- Handles in a list.
use Rattle.std.specs.Prelude.{◌≡◌, List, map, true}
use Rattle.std.specs.List.{All}
use Rattle.mhlink_c.specs.Callers.{HeldCallerState}
use Rattle.mhlink_c.specs.declared.caller_handle.MhlinkCaller.{MhlinkCaller}

-- each is non-null, and they are those of these callers, in order
pub record AreHandlesOf (handles : List MhlinkCaller) (callers : List HeldCallerState) : Type 0 where
  pub full : All (λ h. h.full ≡ true) handles
  pub values : map (λ h. h.value) handles ≡ callers
