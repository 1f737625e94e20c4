-- The amounts of a flow, as arrays in C hold them.
use Rattle.std.specs.Prelude.{ℕ, ◌+◌, ◌≡◌, ◌<◌, ◌==◌, ◌&&◌, List, Bool, true, cond, length, map, nat_le, nat_lt, take, ℤ}
use Rattle.std.specs.List.{sum_by, slice_index_or}
use Rattle.std.specs.List.Sorted.{IsStrictlyIncreasing}
use Rattle.mh_cert.specs.Plans.{Matches}
use Rattle.mh_cert.specs.declared.plan.Plan.{Plan}
use Rattle.mh_core.specs.Records.{numbers}
use Rattle.mh_network.specs.Problems.{ProblemData}
use Rattle.mh_network.specs.Selection.{IsLeast, Row, into_charge, into_point, member}
use Rattle.mhlink_c.specs.Buffers.{IsCopied}
use Rattle.mhlink_c.specs.Problems.{needs_of}
use Rattle.mhlink_c.specs.declared.failure.Failure.{Failure}
use Rattle.mhlink_c.specs.declared.failure.Failure.TheVariants.{Short}
use Rattle.mhlink_c.specs.declared.planning.MhlinkLink.{MhlinkLink}

-- an optimal plan with the fewest links
pub record IsLeastPlan (P : ProblemData) (plan : Plan) : Type 0 where
  pub matching : Matches P plan
  pub least : IsLeast P (member plan.links)

-- the default past the last link
abbrev pub no_link : MhlinkLink
no_link = record { gain = 0; charge = 0; first = 0; count = 0; eligible = 0 }

-- whether the k-th of all needs is one of this link
abbrev pub has_need : MhlinkLink → ℕ → Bool
has_need l k = nat_le l.first k && nat_lt k (l.first + l.count)

-- whether a row is for the k-th of all needs: its link has it, and its point is the need
abbrev pub gives_for : List ℕ → List MhlinkLink → ℕ → Row → Bool
gives_for needs links k r = has_need (slice_index_or links r.0 no_link) k && (slice_index_or needs k 0 == r.1)

-- a row of a flow: a link, and one of its needs, which ascend
pub record IsRowOf (needs : List ℕ) (links : List MhlinkLink) (r : Row) : Type 0 where
  pub link : r.0 < length links
  pub ascending : IsStrictlyIncreasing (needs_of needs (slice_index_or links r.0 no_link))
  pub needed : member (needs_of needs (slice_index_or links r.0 no_link)) r.1 ≡ true

-- the amount of the rows for the k-th of all needs
abbrev pub given_for : List ℕ → List MhlinkLink → List Row → ℕ → ℕ
given_for needs links rows k = sum_by (λ r. cond (gives_for needs links k r) r.2 0) rows

-- the amount that each link pays of its charge, the amount of each need, and the amount that each point gets
pub record AreSums (needs : List ℕ) (links : List MhlinkLink) (points : ℕ) (plan : Plan) (paid given gets : List ℕ) : Type 0 where
  pub by_link : paid ≡ map (into_charge plan.charges) (numbers (length links))
  pub by_need : given ≡ map (given_for needs links plan.flow) (numbers (length needs))
  pub by_point : gets ≡ map (into_point plan.flow) (numbers points)

-- arrays begin with these sums
abbrev pub AreAmounts : List ℕ → List MhlinkLink → ℕ → Plan → List ℕ → List ℕ → List ℕ → Type 0
AreAmounts needs links points plan paid given gets =
    AreSums needs links points plan (take (length links) paid) (take (length needs) given) (take points gets)

-- the links of a plan, the points that they need, and the worth of the links
pub record IsWritten (plan : Plan) (count : ℕ) (chosen : List ℕ) (points_count : ℕ) (points : List ℕ) (value : ℤ) : Type 0 where
  pub links : IsCopied plan.links count chosen
  pub needed : IsCopied plan.points points_count points
  pub is_worth : value ≡ plan.value

-- the links and the points of a plan are counted, and an array is too short
pub record HasNoRoom (P : ProblemData) (count points_count : ℕ) (IsShort : Type 0) (e : Failure) : Type 0 where
  pub fault : e ≡ Short
  pub short : IsShort
  pub counted : (plan : Plan) × (IsLeastPlan P plan × (count ≡ length plan.links) × (points_count ≡ length plan.points))
