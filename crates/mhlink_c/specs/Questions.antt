-- Answers to queries.
use Rattle.std.specs.Prelude.{◌≡◌, ◌⊎◌, ◌<◌, ℕ, Some, None, List, length}
use Rattle.mh_core.specs.Books.{BookState}
use Rattle.mh_core.specs.Installations.{kept}
use Rattle.mh_core.specs.Defined.{DefinitionData, point_at, site_at, link_of}
use Rattle.mh_core.specs.Ledgers.{at}
use Rattle.mh_core.specs.Links.{links, link_at}
use Rattle.mh_core.specs.Value.{Value}
use Rattle.mhlink_c.specs.Crossing.{IsValue}
use Rattle.mhlink_c.specs.Details.{detail_at}
use Rattle.mhlink_c.specs.Statuses.{no_memory}
use Rattle.mhlink_c.specs.declared.failure.Failure.{Failure}
use Rattle.mhlink_c.specs.declared.failure.Failure.TheVariants.{BadValue, Unknown}
use Rattle.mhlink_c.specs.declared.request.Question.{Question}
use Rattle.mhlink_c.specs.declared.request.Question.TheVariants as question
use Rattle.mhlink_c.specs.declared.value.MhlinkValue.{MhlinkValue}

-- the site of this number has this name
abbrev pub IsSite : DefinitionData → List ℕ → ℕ → Type 0
IsSite d name s = (s < length d.sites) × ((site_at d s).name ≡ name)

-- the point of this number has this name
abbrev pub IsPoint : DefinitionData → List ℕ → ℕ → Type 0
IsPoint d name p = (p < length d.points) × ((point_at d p).name ≡ name)

-- the link of this number is of this site, and has this key
pub record IsLink (d : DefinitionData) (s : ℕ) (x : Value) (j : ℕ) : Type 0 where
  pub inside : j < length (links d)
  pub site : (link_at d j).0 ≡ s
  pub key : (link_at d j).1.when ≡ x

-- the answer to a query
abbrev pub Tells : BookState → Question → ℕ → Type 0
Tells b (question.Site name) n = IsSite b.definition name.now n
Tells b (question.Point name) n = IsPoint b.definition name.now n
Tells b (question.Link s key text) n = (x : Value) × (IsValue key text.now x × IsLink b.definition s x n)
Tells b (question.Total j) n = (j < length b.totals.total) × (n ≡ at b.totals.total j)
Tells b (question.Linked s) n = (s < length b.definition.sites) × (n ≡ length (kept b.definition b.records s))
Tells b (question.Detail which i k) n = detail_at b which i k ≡ Some n

-- no link of the site has this key
abbrev pub HasNoLink : DefinitionData → ℕ → Value → Type 0
HasNoLink d s key =
    s < length d.sites → (k : ℕ) → k < length (site_at d s).links → (link_of d s k).when ≡ key → ⊥

-- the link does not exist, or its key is not a value, or is a text for which memory ran out
abbrev pub IsUnknownLink : DefinitionData → ℕ → MhlinkValue → List ℕ → Failure → Type 0
IsUnknownLink d s key text e =
    ((e ≡ BadValue) × ((x : Value) → IsValue key text x → ⊥)) ⊎ ((e ≡ no_memory) × (key.kind ≡ 4))
    ⊎ ((e ≡ Unknown) × ((x : Value) × (IsValue key text x × HasNoLink d s x)))

-- why a query has no answer
abbrev pub IsUnknown : BookState → Question → Failure → Type 0
IsUnknown b (question.Site name) e = (e ≡ Unknown) × ((s : ℕ) → IsSite b.definition name.now s → ⊥)
IsUnknown b (question.Point name) e = (e ≡ Unknown) × ((p : ℕ) → IsPoint b.definition name.now p → ⊥)
IsUnknown b (question.Link s key text) e = IsUnknownLink b.definition s key text.now e
IsUnknown b (question.Total j) e = (e ≡ Unknown) × (j < length b.totals.total → ⊥)
IsUnknown b (question.Linked s) e = (e ≡ Unknown) × (s < length b.definition.sites → ⊥)
IsUnknown b (question.Detail which i k) e = (e ≡ Unknown) × (detail_at b which i k ≡ None)
