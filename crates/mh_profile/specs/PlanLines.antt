-- The lines of a profile's plan, in which links and points have their names.
use Rattle.std.specs.Prelude.{ℕ, ◌==◌, List, [], ◌∷◌, ◌++◌, Option, codes, cond, flat_map, length, slice_index_or}
use Rattle.std.specs.Fmt.{decimal, signed_decimal}
use Rattle.std.specs.List.{sum_by}
use Rattle.serde_json.specs.Data.{string}
use Rattle.serde_json.specs.Written.{compact_text}
use Rattle.mh_network.specs.Problems.{ProblemData, link_at, gain_of, charge_of, cost_of}
use Rattle.mh_network.specs.Selection.{Row, member, into_charge, into_point}
use Rattle.mh_cert.specs.declared.plan.Plan.{Plan}
use Rattle.mh_plan.specs.Joined.{joined}
use Rattle.mh_sweep.specs.declared.sweep.Sweep.{Sweep}
use Rattle.mh_profile.specs.declared.named.NamedProblem.{NamedProblem}
use Rattle.mh_profile.specs.Accounts.{rows_of, slack_of}
use Rattle.mh_profile.specs.Sweeps.{swept_text, until_text}

-- the name of a number, as a string of JSON
abbrev pub name_text : List (List ℕ) → ℕ → List ℕ
name_text names k = compact_text (string (slice_index_or names k []))

-- how many links and points are selected, of how many
abbrev pub counts_text : ProblemData → Plan → List ℕ
counts_text P plan =
    codes "links " ++ (decimal (length plan.links) ++ (codes " of " ++ (decimal (length P.links)
    ++ (codes " points " ++ (decimal (length plan.points) ++ (codes " of " ++ decimal (length P.costs)))))))

-- what the links gain, what their points cost, what they are charged, and the value
abbrev pub sums_text : ProblemData → Plan → List ℕ
sums_text P plan =
    codes "gain " ++ (decimal (sum_by (gain_of P) plan.links) ++ (codes " costs " ++ (decimal (sum_by (cost_of P) plan.points)
    ++ (codes " charges " ++ (decimal (sum_by (charge_of P) plan.links) ++ (codes " value " ++ signed_decimal plan.value))))))

abbrev pub head_text : ProblemData → Plan → List ℕ
head_text P plan = codes "profile " ++ (counts_text P plan ++ (codes " " ++ sums_text P plan))

-- the charge of a selected link, if it has one
abbrev pub charge_text : ℕ → List ℕ
charge_text charge = cond (charge == 0) [] (codes " charge " ++ decimal charge)

-- what is paid of the charge of a link that is not selected, if it has one
abbrev pub paid_text : ℕ → ℕ → List ℕ
paid_text charge paid = cond (charge == 0) [] (codes " charge " ++ (decimal paid ++ (codes " of " ++ decimal charge)))

-- what a row gives to its point
abbrev pub gives_text : List (List ℕ) → Row → List ℕ
gives_text points r = codes " gives " ++ (decimal r.2 ++ (codes " to " ++ name_text points r.1))

-- a link that is selected
abbrev pub chosen_text : NamedProblem → ℕ → List ℕ
chosen_text n j = codes "link " ++ (name_text n.links j ++ (codes " gain " ++ (decimal (gain_of n.problem j) ++ charge_text (charge_of n.problem j))))

-- the gain of a link that is not selected, and where it went
abbrev pub spent_text : NamedProblem → Plan → ℕ → List ℕ
spent_text n plan j =
    codes " gain " ++ (decimal (gain_of n.problem j) ++ (paid_text (charge_of n.problem j) (into_charge plan.charges j)
    ++ flat_map (gives_text n.points) (rows_of plan.flow j)))

-- a link that is not selected: it is not eligible, or it spends all that it gains
abbrev pub left_text : NamedProblem → Plan → ℕ → List ℕ
left_text n plan j = codes "left " ++ (name_text n.links j ++ cond (link_at n.problem j).eligible (spent_text n plan j) (codes " not eligible"))

abbrev pub link_text : NamedProblem → Plan → ℕ → List ℕ
link_text n plan j = cond (member plan.links j) (chosen_text n j) (left_text n plan j)

-- a point that a selected link needs
abbrev pub paid_for_text : NamedProblem → Plan → ℕ → List ℕ
paid_for_text n plan p =
    codes "point " ++ (name_text n.points p ++ (codes " cost " ++ (decimal (cost_of n.problem p) ++ (codes " slack " ++ decimal (slack_of n.problem plan p)))))

-- a point that is not paid for, and what it gets of its cost
abbrev pub unpaid_text : NamedProblem → Plan → ℕ → List ℕ
unpaid_text n plan p =
    codes "unpaid " ++ (name_text n.points p ++ (codes " cost " ++ (decimal (cost_of n.problem p)
    ++ (codes " gets " ++ (decimal (into_point plan.flow p) ++ (codes " slack " ++ decimal (slack_of n.problem plan p)))))))

abbrev pub point_text : NamedProblem → Plan → ℕ → List ℕ
point_text n plan p =
    cond (member plan.points p) (paid_for_text n plan p) (unpaid_text n plan p)

-- a text as a line
abbrev pub line : List ℕ → List ℕ
line text = text ++ 10 ∷ []

-- the decision for a link, and up to which scale it is selected, if the costs are swept
abbrev pub swept_link_text : NamedProblem → Plan → Option Sweep → ℕ → List ℕ
swept_link_text n plan sweep j = link_text n plan j ++ until_text n.problem sweep j

-- the lines of the first links
abbrev pub link_lines : NamedProblem → Plan → Option Sweep → ℕ → List ℕ
link_lines n plan sweep count = joined (λ j. line (swept_link_text n plan sweep j)) count

-- the lines of the first points
abbrev pub point_lines : NamedProblem → Plan → ℕ → List ℕ
point_lines n plan count = joined (λ p. line (point_text n plan p)) count

-- the head, and a line for each link and then for each point
abbrev pub profile_text : NamedProblem → Plan → Option Sweep → List ℕ
profile_text n plan sweep =
    line (head_text n.problem plan ++ swept_text sweep)
    ++ (link_lines n plan sweep (length n.problem.links) ++ point_lines n plan (length n.problem.costs))
