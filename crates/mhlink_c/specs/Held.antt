-- Ownership by handles: a non-null handle owns a value of this type and the right to free its block.
use base.Fml.{Fml, ftrue}
use denote.RattleType.{RattleType}
use denote.RawPtr.{Ptr}
use mathlib.Core.Bool.{Bool, true, false}
use Rattle.std.specs.Box.Ownership.{box_owns}
use Rattle.std.specs.Global.{Global}
use Rattle.std_heap.specs.contracts.GlobalAllocator.TheImpl.{ghosts}

abbrev pub when : Bool → Fml → Fml
when true F = F
when false F = ftrue

abbrev pub held : (T : RattleType) → Bool → Global → Ptr → T.Denot → Fml
held T full alloc p x = when full (box_owns (ghosts.dealloc_token alloc) T p x)
