-- The problem and the plan that a JSON value is.
use Rattle.std.specs.Prelude.{Result, Ok}
use Rattle.serde_json.specs.Data.{Data}
use Rattle.mh_json.specs.declared.json.claim.Claim.{Claim}
use Rattle.mh_json.specs.declared.key.Field.TheVariants as field
use Rattle.mh_json.specs.Gives.{◌>>=◌}
use Rattle.mh_json.specs.Misreads.{MisreadData}
use Rattle.mh_json.specs.Plans.{plan_of}
use Rattle.mh_json.specs.Problems.{problem_read}
use Rattle.mh_json.specs.Shape.{member_of}

-- a problem at one key, which is read and made, and then a plan at another; a fault has its place
abbrev pub claim_read : Data → Result Claim MisreadData
claim_read d = do
  problem ← member_of field.Problem problem_read d
  plan ← member_of field.Plan plan_of d
  Ok (record { problem = problem; plan = plan })
