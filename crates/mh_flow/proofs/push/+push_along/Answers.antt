use Rattle.std.proofs.Common.{arith, get_or, ◌∙◌}
use Rattle.mh_flow.specs.declared.path.Turn.{Turn}
use Rattle.mh_flow.specs.Carried.{number_at, row_at}
use Rattle.mh_flow.proofs.Pushing.{path_turn, pushed_on, room_turn, sent_on}
use Rattle.mh_flow.proofs.push.+push_along.Goals as goal

pub move_back-requires-clause-room : goal.move_back-requires-clause-room
move_back-requires-clause-room t c =
    let d : Turn = record { forth = 0; back = 0 } in
    let j = (row_at c.push_along-amount.new.rows (get_or c.args.turns.now 0 d).back).link in
    omega (arith, c.push_along-amount.ensures.pushed.out j, c.requires.within.gains j)

pub returns-in-len1-up-clause-pushed : goal.returns-in-len1-up-clause-pushed
returns-in-len1-up-clause-pushed t c =
    let d : Turn = record { forth = 0; back = 0 } in
    pushed_on _ _ _ _ _ _ _ _ _ _ _ (path_turn c.args.rows.now c.args.gain_left.now (number_at c.args.links.now) (number_at c.args.points.now) c.args.point c.args.first c.args.turns.now d c.in-len1-up.len_at_least c.requires.path)
    c.push_along-amount.ensures.pushed c.move_back.ensures

pub returns-in-len1-up-clause-least : goal.returns-in-len1-up-clause-least
returns-in-len1-up-clause-least t c =
    let d : Turn = record { forth = 0; back = 0 } in
    c.push_along-amount.ensures.least ∙ room_turn c.args.rows.now c.args.gain_left.now c.args.limit _ c.args.first c.args.turns.now d c.in-len1-up.len_at_least c.min-limit.ensures

pub returns-in-len1-up-clause-sent : goal.returns-in-len1-up-clause-sent
returns-in-len1-up-clause-sent t c =
    let d : Turn = record { forth = 0; back = 0 } in
    sent_on _ _ _ _ _ _ d c.in-len1-up.len_at_least c.push_along-amount.ensures.sent c.move_back.ensures
