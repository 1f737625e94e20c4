use Rattle.std.proofs.Common.{◌≡◌, ◌+◌, ◌-◌, ℕ, arith, sym, ap, inl, inr}
use Rattle.mh_flow.specs.Carried.{number_at}
use Rattle.mh_flow.proofs.Chaining.{before_read}
use Rattle.mh_flow.proofs.Searching.{search_turn, search_past, search_end, search_popped, popped_inside}
use Rattle.mh_flow.proofs.search.find_path.Goals as goal

pub point_of-at-requires : goal.point_of-at-requires
point_of-at-requires c = record { inside = popped_inside _ _ _ _ _ _ _ _ _ _ _ _ c.loop-turns.invariant c.in-Some.ensures.items }

pub loop-turns-preserved-in-Some : goal.loop-turns-preserved-in-Some
loop-turns-preserved-in-Some c =
    rw c.point_of-at.ensures.value
    (search_popped _ _ _ _ _ _ _ _ _ _ _ c.in-Some.turn c.requires.range c.requires.reached c.loop-turns.invariant c.in-Some.ensures.items c.if-place-eq0.true).0

pub loop-turns-smaller-in-Some : goal.loop-turns-smaller-in-Some
loop-turns-smaller-in-Some c =
    rw c.point_of-at.ensures.value
    (search_popped _ _ _ _ _ _ _ _ _ _ _ c.in-Some.turn c.requires.range c.requires.reached c.loop-turns.invariant c.in-Some.ensures.items c.if-place-eq0.true).1

pub returns-then-gain_left-link-gt0-clause-found : goal.returns-then-gain_left-link-gt0-clause-found
returns-then-gain_left-link-gt0-clause-found c =
    search_end _ _ _ _ _ _ _ _ _ _ _ c.requires.phase c.loop-turns.invariant (omega (arith, c.if-place-eq0.false)) c.if-links-link.true c.if-gain_left-link-gt0.true

pub loop-turns-preserved-in-Some-row_back : goal.loop-turns-preserved-in-Some-row_back
loop-turns-preserved-in-Some-row_back c =
    rw c.in_ok-push.ensures.items
    (search_turn _ _ _ _ _ _ _ _ _ _ _ (number_at c.loop-turns.point_rows c.loop-turns.at - 1) c.in-Some-row_back.back c.requires.range c.requires.phase c.loop-turns.invariant
    (omega (arith, c.if-place-eq0.false)) c.if-links-link.true c.in-Some-row_back.ensures.spent c.in-Some-row_back.ensures.found).0

pub loop-turns-smaller-in-Some-row_back : goal.loop-turns-smaller-in-Some-row_back
loop-turns-smaller-in-Some-row_back c =
    (search_turn _ _ _ _ _ _ _ _ _ _ _ (number_at c.loop-turns.point_rows c.loop-turns.at - 1) c.in-Some-row_back.back c.requires.range c.requires.phase c.loop-turns.invariant
    (omega (arith, c.if-place-eq0.false)) c.if-links-link.true c.in-Some-row_back.ensures.spent c.in-Some-row_back.ensures.found).1

pub loop-turns-preserved-in_default : goal.loop-turns-preserved-in_default
loop-turns-preserved-in_default c =
    let forth : ℕ = number_at c.loop-turns.point_rows c.loop-turns.at - 1 in
    let place : number_at c.loop-turns.point_rows c.loop-turns.at ≡ forth + 1 = omega (arith, c.if-place-eq0.false) in
    let this = c.loop-turns.invariant.spent.point_place c.loop-turns.at forth (sym place) in
    (search_past _ _ _ _ _ _ _ _ _ _ _ forth c.index.result.now c.loop-turns.invariant place c.in_default.ensures.spent
    (inr (c.in_default.ensures.found, omega (arith, c.if-gain_left-link-gt0.false)))
    (before_read _ _ _ _ _ forth _ c.requires.indexed.by_point this.0 c.index.ensures)).0

pub loop-turns-smaller-in_default : goal.loop-turns-smaller-in_default
loop-turns-smaller-in_default c =
    let forth : ℕ = number_at c.loop-turns.point_rows c.loop-turns.at - 1 in
    let place : number_at c.loop-turns.point_rows c.loop-turns.at ≡ forth + 1 = omega (arith, c.if-place-eq0.false) in
    let this = c.loop-turns.invariant.spent.point_place c.loop-turns.at forth (sym place) in
    (search_past _ _ _ _ _ _ _ _ _ _ _ forth c.index.result.now c.loop-turns.invariant place c.in_default.ensures.spent
    (inr (c.in_default.ensures.found, omega (arith, c.if-gain_left-link-gt0.false)))
    (before_read _ _ _ _ _ forth _ c.requires.indexed.by_point this.0 c.index.ensures)).1

pub loop-turns-preserved : goal.loop-turns-preserved
loop-turns-preserved c =
    let forth : ℕ = number_at c.loop-turns.point_rows c.loop-turns.at - 1 in
    let place : number_at c.loop-turns.point_rows c.loop-turns.at ≡ forth + 1 = omega (arith, c.if-place-eq0.false) in
    let this = c.loop-turns.invariant.spent.point_place c.loop-turns.at forth (sym place) in
    (search_past _ _ _ _ _ _ _ _ _ _ _ forth c.index-else-links-link.result.now c.loop-turns.invariant place c.loop-turns.invariant.spent
    (inl (omega (arith, c.if-links-link.false, ap (number_at c.args.points.now) this.1)))
    (before_read _ _ _ _ _ forth _ c.requires.indexed.by_point this.0 c.index-else-links-link.ensures)).0

pub loop-turns-smaller : goal.loop-turns-smaller
loop-turns-smaller c =
    let forth : ℕ = number_at c.loop-turns.point_rows c.loop-turns.at - 1 in
    let place : number_at c.loop-turns.point_rows c.loop-turns.at ≡ forth + 1 = omega (arith, c.if-place-eq0.false) in
    let this = c.loop-turns.invariant.spent.point_place c.loop-turns.at forth (sym place) in
    (search_past _ _ _ _ _ _ _ _ _ _ _ forth c.index-else-links-link.result.now c.loop-turns.invariant place c.loop-turns.invariant.spent
    (inl (omega (arith, c.if-links-link.false, ap (number_at c.args.points.now) this.1)))
    (before_read _ _ _ _ _ forth _ c.requires.indexed.by_point this.0 c.index-else-links-link.ensures)).1
