use Rattle.std.proofs.Common.{◌≡◌, ◌≤◌, length, arith, sym}
use Rattle.std.proofs.lemmas.Bool.{eqb-true}
use Rattle.std.specs.Vec.{vec_len}
use Rattle.mh_flow.proofs.Spreading.{round_on, round_end}
use Rattle.mh_flow.proofs.levels.settle.Goals as goal

pub loop-alloc-preserved : goal.loop-alloc-preserved
loop-alloc-preserved c =
    round_on _ _ _ _ _ _ _ _ _ _ _ c.loop-alloc.invariant c.in_ok-reached.ensures.spread c.in_ok-reached.ensures.settled
    c.in_ok-front.ensures.levels c.in_ok-front.ensures.spread c.in_ok-front.ensures.settled

pub returns-clause-settled : goal.returns-clause-settled
returns-clause-settled c =
    let none : vec_len c.loop-alloc.front ≡ 0 = eqb-true (vec_len c.loop-alloc.front) 0 (sym c.loop-alloc-test.ensures) in
    let empty : length c.loop-alloc.front.items ≤ 0 = omega (arith, none) in
    round_end _ _ _ _ _ _ _ c.loop-alloc.invariant empty
