-- Versions of definitions and problems, and the charges of links in version 2.
use Rattle.std.specs.Prelude.{ℕ, ◌^◌, ◌-◌, ◌≤◌, Result, Ok, Err, length, List, if◌then◌else◌, ◌==◌}
use Rattle.serde_json.specs.Data.{Data}
use Rattle.mh_base.specs.Tests.{Tests, test, only}
use Rattle.mh_network.specs.declared.link_row.LinkRow.{LinkRow}
use Rattle.mh_network.specs.declared.fault.ProblemFault.{ProblemFault}
use Rattle.mh_network.specs.declared.fault.ProblemFault.TheVariants.{TooManyLinks, TooManyPoints}
use Rattle.mh_network.specs.Limits as network
use Rattle.mh_network.specs.Problems.{problem_tests}
use Rattle.mh_site.specs.declared.version.Version.{Version}
use Rattle.mh_site.specs.declared.version.Version.TheVariants.{One, Two}
use Rattle.mh_site.specs.Limits.{most_points}
use Rattle.mh_json.specs.declared.fault.InputFault.TheVariants.{BadShape}
use Rattle.mh_json.specs.Gives.{◌>>=◌}
use Rattle.mh_json.specs.Misreads.{MisreadData, here}
use Rattle.mh_json.specs.declared.key.Field.TheVariants as field
use Rattle.mh_json.specs.Shape.{member_or, count_of}

-- the version, which is the number 1 or 2
abbrev pub version_of : Data → Result Version MisreadData
version_of d = do
  version ← count_of 2 d
  if version == 1 then Ok One else (if version == 2 then Ok Two else Err (here BadShape))

-- the charge of a link, default 0; version 1 ignores the key
abbrev pub charge_of : Version → Data → Result ℕ MisreadData
charge_of One link = Ok 0
charge_of Two link = member_or 0 field.Charge (count_of (2 ^ 63 - 1)) link

-- the most links of a problem
abbrev pub most_links : Version → ℕ
most_links One = 4096
most_links Two = network.most_links

-- the tests of a problem's links and costs: the numbers that its version allows, and then those of all problems
abbrev pub version_tests : Version → List LinkRow → List ℕ → Tests ProblemFault
version_tests version rows costs =
    test (length rows ≤ most_links version) (only TooManyLinks)
    (test (length costs ≤ most_points version) (only TooManyPoints) (problem_tests rows costs))
