use Rattle.std.proofs.Common.{◌≡◌, ◌^◌, ◌≤◌, map}
use Rattle.std.specs.List.{All, range_with_len}
use Rattle.mh_live.specs.Settled.{unflushed_by}
use Rattle.mh_live.proofs.roll_call.unflushed_hits.Given as goal

abbrev pub invariant-loop-link : goal.invariant-loop-link
invariant-loop-link g l = record { so_far : l.hits.items ≡ map (unflushed_by l.passes) (range_with_len 0 l.link); within : All (λ n. n ≤ 2 ^ 126) l.hits.items }
