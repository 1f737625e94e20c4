-- Changes of machines and desks, in terms of the effect of a record, and their failures.
use Rattle.std.specs.Prelude.{◌≡◌, ◌⊎◌, ◌<◌, ◌+◌, ℕ, List, None, Ok, filter, length}
use Rattle.mh_cert.specs.declared.plan.Plan.{Plan}
use Rattle.mh_tree.specs.Handle.{TypedTree}
use Rattle.mh_core.specs.Books.{BookState, MayRefuse}
use Rattle.mh_core.specs.Display.{is_linked}
use Rattle.mh_core.specs.Installations.{report}
use Rattle.mh_core.specs.Plans.{Matches}
use Rattle.mh_core.specs.Problems.{IsTaken, problem_at}
use Rattle.mh_core.specs.Selection.{IsLeast, member}
use Rattle.mh_core.specs.declared.record.Record.{Record}
use Rattle.mh_core.specs.declared.record.Record.TheVariants.{Targeted, Invalidated, Snapped, Published, Installed}
use Rattle.mh_core.specs.declared.refusal.Refusal.{Refusal}
use Rattle.mh_core.specs.declared.refusal.Refusal.TheVariants.{NoSite, NoSnapshot}
use Rattle.mh_json.specs.Plans.{plan_of_input}
use Rattle.mh_json.specs.declared.json.scope.Scope.{Scope}
use Rattle.mhlink_c.specs.Inputs.{IsFaultOf, tree_in}
use Rattle.mhlink_c.specs.Statuses.{no_memory}
use Rattle.mhlink_c.specs.declared.failure.Failure.{Failure}
use Rattle.mhlink_c.specs.declared.failure.Failure.TheVariants.{Refused}
use Rattle.mhlink_c.specs.declared.request.Change.{Change}
use Rattle.mhlink_c.specs.declared.request.Change.TheVariants as change

-- the first failing test of a record
abbrev pub RefusesRecord : BookState → Record → Failure → Type 0
RefusesRecord b r e = (told : Refusal) × ((e ≡ Refused told) × MayRefuse b 0 r told)

-- a site gets the tree that the text reads as
abbrev pub Retargets : (Record → Type 0) → Scope → ℕ → List ℕ → Type 0
Retargets Made scope s text = (tree : TypedTree) × ((tree_in scope text ≡ Ok tree) × Made (Targeted s tree))

-- the site does not exist; or the text has a fault, or the book rejects the tree
abbrev pub RefusesTarget : BookState → Scope → ℕ → List ℕ → Failure → Type 0
RefusesTarget b scope s text e =
    ((s < length b.definition.sites → ⊥) × (e ≡ Refused NoSite))
    ⊎ ((s < length b.definition.sites)
    × (IsFaultOf (tree_in scope text) e ⊎ ((tree : TypedTree) × ((tree_in scope text ≡ Ok tree) × RefusesRecord b (Targeted s tree) e))))

-- no more owners of the tree can be counted, or the book rejects it
abbrev pub RefusesTargetTree : BookState → ℕ → TypedTree → Failure → Type 0
RefusesTargetTree b s tree e = (e ≡ no_memory) ⊎ RefusesRecord b (Targeted s tree) e

-- out of memory, or the first failing test of an invalidation
abbrev pub RefusesInvalidation : BookState → List ℕ → Failure → Type 0
RefusesInvalidation b points e = (e ≡ no_memory) ⊎ RefusesRecord b (Invalidated points) e

-- a snapshot is taken, and has the next number
pub record TakesSnapshot (Made : Record → Type 0) (b : BookState) (n : ℕ) : Type 0 where
  pub recorded : Made Snapped
  pub number : n ≡ length b.snapshots + 1

-- a plan is published for a snapshot, and has the next number
pub record Publishes (Made : Record → Type 0) (b : BookState) (snapshot : ℕ) (plan : Plan) (n : ℕ) : Type 0 where
  pub recorded : Made (Published snapshot plan)
  pub number : n ≡ length b.plans + 1

-- the first failing test of a plan's record, or out of memory
abbrev pub RefusesPublished : BookState → ℕ → Plan → Failure → Type 0
RefusesPublished b snapshot plan e = (e ≡ no_memory) ⊎ RefusesRecord b (Published snapshot plan) e

-- the optimal plan with the fewest links for a snapshot that was taken
pub record IsBest (b : BookState) (snapshot : ℕ) (plan : Plan) : Type 0 where
  pub taken : IsTaken b.records snapshot
  pub matching : Matches (problem_at b.definition b.records snapshot) plan
  pub least : IsLeast (problem_at b.definition b.records snapshot) (member plan.links)

abbrev pub PublishesBest : (Record → Type 0) → BookState → ℕ → ℕ → Type 0
PublishesBest Made b snapshot n = (plan : Plan) × (IsBest b snapshot plan × Publishes Made b snapshot plan n)

-- there is no plan for a snapshot that was not taken, or if memory runs out
abbrev pub HasNoBest : BookState → ℕ → Failure → Type 0
HasNoBest b snapshot e = ((e ≡ Refused NoSnapshot) × (IsTaken b.records snapshot → ⊥)) ⊎ ((e ≡ no_memory) × IsTaken b.records snapshot)

abbrev pub RefusesBest : BookState → ℕ → Failure → Type 0
RefusesBest b snapshot e =
    HasNoBest b snapshot e ⊎ ((plan : Plan) × (IsBest b snapshot plan × RefusesPublished b snapshot plan e))

-- the plan that the text reads as is published
abbrev pub PublishesOffer : (Record → Type 0) → BookState → ℕ → List ℕ → ℕ → Type 0
PublishesOffer Made b snapshot text n =
    (plan : Plan) × ((plan_of_input None text ≡ Ok plan) × Publishes Made b snapshot plan n)

abbrev pub RefusesOffer : BookState → ℕ → List ℕ → Failure → Type 0
RefusesOffer b snapshot text e =
    IsFaultOf (plan_of_input None text) e
    ⊎ ((plan : Plan) × ((plan_of_input None text ≡ Ok plan) × RefusesPublished b snapshot plan e))

-- a plan is installed, which links this many sites
pub record Installs (Made : Record → Type 0) (b : BookState) (plan n : ℕ) : Type 0 where
  pub recorded : Made (Installed plan)
  pub linked : n ≡ length (filter is_linked (report b.definition b.records plan).sites)

-- the effect of a change, and its answer
abbrev pub MakesChange : (Record → Type 0) → BookState → Scope → Change → ℕ → Type 0
MakesChange Made b scope (change.Target s tree) n = Retargets Made scope s tree.now
MakesChange Made b scope (change.Invalidate points) n = Made (Invalidated points.now)
MakesChange Made b scope change.Snapshot n = TakesSnapshot Made b n
MakesChange Made b scope (change.Plan snapshot) n = PublishesBest Made b snapshot n
MakesChange Made b scope (change.Offer snapshot plan) n = PublishesOffer Made b snapshot plan.now n
MakesChange Made b scope (change.Install plan) n = Installs Made b plan n

-- the failure of a change
abbrev pub RefusesChange : BookState → Scope → Change → Failure → Type 0
RefusesChange b scope (change.Target s tree) e = RefusesTarget b scope s tree.now e
RefusesChange b scope (change.Invalidate points) e = RefusesInvalidation b points.now e
RefusesChange b scope change.Snapshot e = RefusesRecord b Snapped e
RefusesChange b scope (change.Plan snapshot) e = RefusesBest b snapshot e
RefusesChange b scope (change.Offer snapshot plan) e = RefusesOffer b snapshot plan.now e
RefusesChange b scope (change.Install plan) e = RefusesRecord b (Installed plan) e
