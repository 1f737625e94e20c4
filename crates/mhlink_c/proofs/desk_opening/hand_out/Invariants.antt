use Rattle.std.proofs.Common.{◌≡◌, ◌+◌, length, map, take}
use Rattle.mhlink_c.specs.Handles.{AreHandlesOf}
use Rattle.mhlink_c.proofs.desk_opening.hand_out.Given as goal

-- the first handles are those of the callers that were given out, and there is one for each that is left
abbrev pub invariant-loop-held : goal.invariant-loop-held
invariant-loop-held l =
    (l.place + length l.held-iterator.rest.items ≡ length l.handles)
    × ((length l.handles ≡ length l.initial.handles) × AreHandlesOf (take l.place l.handles) (map (λ b. b.value) l.yielded))
