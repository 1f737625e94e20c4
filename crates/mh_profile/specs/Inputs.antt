-- An input of lines as a problem with names, and its faults.
use Rattle.std.specs.Prelude.{ℕ, ◌≡◌, ◌⊎◌, List, Ok, Err}
use Rattle.mh_base.specs.Tests.{Passes, Refuses}
use Rattle.mh_network.specs.declared.fault.ProblemFault.{ProblemFault}
use Rattle.mh_network.specs.Problems.{large_tests, problem_of}
use Rattle.mh_json.specs.declared.fault.Fault.{Fault}
use Rattle.mh_json.specs.declared.fault.InputFault.TheVariants.{Problem}
use Rattle.mh_json.specs.declared.fault.TextFault.TheVariants.{Input}
use Rattle.mh_profile.specs.declared.named.NamedProblem.{NamedProblem}
use Rattle.mh_profile.specs.declared.profile.Profile.{Profile}
use Rattle.mh_profile.specs.Profiles.{profile_of}

-- the problem of a profile that passes the tests of large problems, with the names of its lines
abbrev pub IsNamed : Profile → NamedProblem → Type 0
IsNamed x n =
    Passes (large_tests x.links x.costs) × (n ≡ record { points = x.points; links = x.names; problem = problem_of x.links x.costs; last = x.last })

-- a profile that is refused for the first test that fails, at its last line
abbrev pub IsNotMade : Profile → Fault → Type 0
IsNotMade x e = (cause : ProblemFault) × Refuses (large_tests x.links x.costs) cause × (e ≡ record { kind = Input (Problem cause); at = x.last })

-- the first fault of the lines of an input
abbrev pub IsFaultOfLines : List ℕ → Fault → Type 0
IsFaultOfLines input e = profile_of input ≡ Err e

-- an input is this problem with names
abbrev pub IsProfileInput : List ℕ → NamedProblem → Type 0
IsProfileInput input n = (x : Profile) × (profile_of input ≡ Ok x) × IsNamed x n

-- the first fault of an input that is not such a problem
abbrev pub IsProfileFault : List ℕ → Fault → Type 0
IsProfileFault input e = IsFaultOfLines input e ⊎ ((x : Profile) × (profile_of input ≡ Ok x) × IsNotMade x e)
