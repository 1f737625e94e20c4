use Rattle.std.proofs.Common.{◌≡◌, ◌+◌, drop, length, map}
use Rattle.serde_json.specs.View.{view}
use Rattle.mh_explain.specs.Unread.{first_along, first_in, first_where, offered_in, or_later}
use Rattle.mh_explain.proofs.unread.UnreadKeys.+along.Given as goal

-- each call has fewer steps before it, or goes on from a list that the same steps lead to
abbrev pub decreases-add_along : goal.decreases-add_along
decreases-add_along l = length l.steps.now + length l.steps.now

abbrev pub decreases-add_at : goal.decreases-add_at
decreases-add_at l = length l.steps.now + length l.steps.now + 1

abbrev pub decreases-add_each : goal.decreases-add_each
decreases-add_each l = length l.steps.now + length l.steps.now + 1

abbrev pub decreases-add_offered : goal.decreases-add_offered
decreases-add_offered l = length l.steps.now + length l.steps.now + 1

-- the first so far, and then that of the rest, is the first of all
abbrev pub invariant-add_each-loop-i : goal.invariant-add_each-loop-i
invariant-add_each-loop-i l =
    or_later l.self.first (first_in (λ _. first_along l.look.keys.now l.steps l.look.event) (l.i + 1) (map view (drop l.i l.items)))
    ≡ or_later l.fn.self.first (first_in (λ _. first_along l.look.keys.now l.steps l.look.event) 1 (map view l.items))

abbrev pub invariant-add_offered-loop-i : goal.invariant-add_offered-loop-i
invariant-add_offered-loop-i l =
    or_later l.self.first (first_in (λ i event. first_where (first_along l.look.keys.now l.steps i) (offered_in event)) (l.i + 1) (map view (drop l.i l.events)))
    ≡ or_later l.fn.self.first (first_in (λ i event. first_where (first_along l.look.keys.now l.steps i) (offered_in event)) 1 (map view l.events))
