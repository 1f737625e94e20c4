-- The headline: the promise for every interleaving of events, in one statement.
use Rattle.std.specs.Prelude.{◌≡◌, ◌⊎◌, ℕ, ◌+◌, ◌<◌, List, ◌∷◌, ◌++◌, length}
use Rattle.mh_base.specs.Tests.{Refuses}
use Rattle.mh_type.specs.declared.outcome.Outcome.{Outcome}
use Rattle.mh_type.specs.declared.value.Value.{Value}
use Rattle.mh_tree.specs.Meaning.{mean}
use Rattle.mh_network.specs.Selection.{IsBest, member}
use Rattle.mh_cert.specs.Plans.{Matches}
use Rattle.mh_cert.specs.declared.plan.Plan.{Plan}
use Rattle.mh_site.specs.Defined.{DefinitionData}
use Rattle.mh_site.specs.Links.{links}
use Rattle.mh_core.specs.declared.event.Event.{Event}
use Rattle.mh_core.specs.declared.event.Event.TheVariants.{Call, Publish, Snapshot}
use Rattle.mh_core.specs.declared.refusal.Refusal.{Refusal}
use Rattle.mh_core.specs.declared.reply.Reply.{Reply}
use Rattle.mh_core.specs.declared.reply.Reply.TheVariants.{Called, Refused}
use Rattle.mh_core.specs.Histories.{records}
use Rattle.mh_core.specs.Hits.{total_calls}
use Rattle.mh_core.specs.Legal.{Setting, tests}
use Rattle.mh_core.specs.Problems.{problem_after}
use Rattle.mh_core.specs.Records.{base, environment_of_bases, snapshots, total}

-- the history after events with these replies: the events that were not refused, newest first, and then the earlier history
abbrev pub history_after : List Event → List Event → List Reply → List Event
history_after h (e ∷ events) (Refused told ∷ replies) = history_after h events replies
history_after h (e ∷ events) (reply ∷ replies) = history_after (e ∷ h) events replies
history_after h events replies = h

-- one of the events, its reply, and the history before it
pub record IsStep (start events : List Event) (replies : List Reply) (e : Event) (reply : Reply) (before : List Event) : Type 0 where
  pub earlier : List Event
  pub later : List Event
  pub told : List Reply
  pub rest : List Reply
  pub asked : events ≡ earlier ++ e ∷ later
  pub answered : replies ≡ told ++ reply ∷ rest
  pub level : length earlier ≡ length told
  pub history : before ≡ history_after start earlier told

-- the meaning of a site's unspecialised tree after a history: that of its last retargeting, with the points that are valid then, where an
-- invocation means the unspecialised tree of the site that it invokes; installed links do not count
abbrev pub meaning : DefinitionData → List Event → ℕ → List Value → Outcome
meaning d h s a = mean (environment_of_bases d (records d h)) (base d (records d h) s).tree a

-- a call returns what its site's unspecialised tree means at that step, or is refused by its first failing test or for lack of memory
abbrev pub EachCallMeansItsTree : Setting → List Event → List Event → List Reply → Type 0
EachCallMeansItsTree x start events replies =
    (w s : ℕ) → (a : List Value) → (reply : Reply) → (before : List Event) → IsStep start events replies (Call w s a) reply before
    → ((steps : ℕ) × (reply ≡ Called (meaning x.definition before s a) steps))
    ⊎ ((told : Refusal) × Refuses (tests x before (Call w s a)) told × (reply ≡ Refused told))

-- the snapshot of this number was taken after the history `past`, when the total of a link was the number of calls that had hit it
-- and that a flush of their worker had followed; for these totals, and the points that were valid then, the plan carries a flow of
-- matching value, which the checker accepts, and no set of eligible links has a greater gain less cost
pub record IsBestAt (d : DefinitionData) (before : List Event) (n : ℕ) (plan : Plan) : Type 0 where
  pub since : List Event
  pub past : List Event
  pub taken : before ≡ since ++ Snapshot ∷ past
  pub number : n ≡ snapshots (records d past) + 1
  pub totals : (j : ℕ) → j < length (links d) → total (records d past) j ≡ total_calls d past j
  pub matching : Matches (problem_after d (records d past)) plan
  pub best : IsBest (problem_after d (records d past)) (member plan.links)

-- each published plan is best for the snapshot that it names
abbrev pub EachPlanIsBest : DefinitionData → List Event → Type 0
EachPlanIsBest d h = (after before : List Event) → (n : ℕ) → (plan : Plan) → h ≡ after ++ Publish n plan ∷ before → IsBestAt d before n plan

-- the events were answered after the history `start`, one by one, and `h` is the history afterwards
pub record IsHeadline (x : Setting) (start events : List Event) (replies : List Reply) (h : List Event) : Type 0 where
  pub answered : length replies ≡ length events
  pub history : h ≡ history_after start events replies
  pub calls : EachCallMeansItsTree x start events replies
  pub plans : EachPlanIsBest x.definition h
