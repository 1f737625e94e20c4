-- The headline for running threads, in one statement: the calls that passes answer, and the plans that an office publishes.
use Rattle.std.specs.Prelude.{◌≡◌, ℕ, ◌+◌, ◌<◌, ◌≤◌, List, ◌∷◌, ◌++◌, length, reverse}
use mathlib.Core.List.{IsPrefix}
use Rattle.mh_type.specs.declared.outcome.Outcome.{Outcome}
use Rattle.mh_type.specs.declared.value.Value.{Value}
use Rattle.mh_tree.specs.Meaning.{mean}
use Rattle.mh_network.specs.Selection.{IsBest, member}
use Rattle.mh_cert.specs.Plans.{Matches}
use Rattle.mh_cert.specs.declared.plan.Plan.{Plan}
use Rattle.mh_site.specs.Defined.{DefinitionData}
use Rattle.mh_site.specs.declared.control.Control.{Control}
use Rattle.mh_core.specs.declared.record.Record.{Record}
use Rattle.mh_core.specs.declared.record.Record.TheVariants.{Published, Snapped}
use Rattle.mh_core.specs.Problems.{problem_after}
use Rattle.mh_core.specs.Records.{base, environment_of_bases, snapshots}
use Rattle.mh_core.specs.Replayed.{controls}
use Rattle.mh_live.specs.Calls.{AnswersBy}
use Rattle.mh_live.specs.declared.pass.PassAnswer.{PassAnswer}

-- the meaning of a site's unspecialised tree after these records: that of its last retargeting, with the points that are valid then, where
-- an invocation means the unspecialised tree of the site that it invokes; installed links do not count
abbrev pub meaning_after : DefinitionData → List Record → ℕ → List Value → Outcome
meaning_after d r s a = mean (environment_of_bases d r) (base d r s).tree a

-- `past` are all records of some time, and `r` those of a later time: newest first, so that newer ones come before them
abbrev pub IsEarlier : List Record → List Record → Type 0
IsEarlier past r = (newer : List Record) × (r ≡ newer ++ past)

-- a call that read these controls returned what its site's unspecialised tree means after `past`: records that the office had, with exactly
-- these controls, at the time of `before` or later
pub record IsAnsweredIn (d : DefinitionData) (r before : List Record) (seen : List Control) (s : ℕ) (a : List Value) (told : Outcome)
    : Type 0 where
  pub past : List Record
  pub stood : IsEarlier past r
  pub forward : IsEarlier before past
  pub list : seen ≡ reverse (controls d past)
  pub outcome : told ≡ meaning_after d past s a

-- For each answered call whose list the pass has seen and which is no longer than the office's. `before` is any state of the office whose
-- controls are a prefix of that list: that without records, that of an earlier call, or that of a receipt which the pass had learnt
abbrev pub EachAnswerMeansItsTree : DefinitionData → List Record → List Control → List Control → Type 0
EachAnswerMeansItsTree d r published now =
    (seen : List Control) → (s : ℕ) → (a : List Value) → (answer : PassAnswer) → (before : List Record)
    → AnswersBy d seen s a answer → s < length d.sites
    → IsPrefix seen now → answer.front ≤ length published
    → IsEarlier before r → IsPrefix (reverse (controls d before)) seen
    → IsAnsweredIn d r before seen s a answer.outcome

-- the snapshot of this number was taken after the records `past`; for the totals of their flushes, and the points that were
-- valid then, the plan carries a flow of matching value, which the checker accepts, and no set of eligible links has
-- a greater gain less cost
pub record IsBestOf (d : DefinitionData) (before : List Record) (n : ℕ) (plan : Plan) : Type 0 where
  pub since : List Record
  pub past : List Record
  pub taken : before ≡ since ++ Snapped ∷ past
  pub number : n ≡ snapshots past + 1
  pub matching : Matches (problem_after d past) plan
  pub best : IsBest (problem_after d past) (member plan.links)

-- each published plan is best for the snapshot that it names
abbrev pub EachPublishedPlanIsBest : DefinitionData → List Record → Type 0
EachPublishedPlanIsBest d r =
    (newer before : List Record) → (n : ℕ) → (plan : Plan) → r ≡ newer ++ Published n plan ∷ before → IsBestOf d before n plan

-- the controls that passes read are those of the records, and all answers and publications are right
pub record IsLiveHeadline (d : DefinitionData) (r : List Record) (published now : List Control) : Type 0 where
  pub shows : published ≡ reverse (controls d r)
  pub calls : EachAnswerMeansItsTree d r published now
  pub plans : EachPublishedPlanIsBest d r
