use Rattle.std.proofs.Common.{◌≡◌, ◌≤◌, length, take, vec_capacity}
use Rattle.mhlink_c.proofs.Values.{AreRead}
use Rattle.mhlink_c.proofs.value.read_values.Given as goal

-- the first values, and the bytes behind those of the last
abbrev pub invariant-loop-one : goal.invariant-loop-one
invariant-loop-one l =
    AreRead (take l.one-index l.given) l.texts l.values.items l.rest
    × ((length l.values.items ≡ l.one-index) × (vec_capacity l.initial.values ≤ vec_capacity l.values))
