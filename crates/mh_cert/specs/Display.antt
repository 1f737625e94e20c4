-- The text of a plan.
use Rattle.std.specs.Prelude.{ℕ, List, ◌++◌, codes}
use Rattle.std.specs.Fmt.{decimal, signed_decimal}
use Rattle.mh_base.specs.Display.{numbers_text}
use Rattle.mh_network.specs.Selection.{value_of}
use Rattle.mh_cert.specs.declared.plan.Plan.{Plan}

-- links and points by number, the value, and the sum of the amounts of the flow and the charges
abbrev pub plan_text : Plan → List ℕ
plan_text plan =
    codes "links " ++ (numbers_text plan.links ++ (codes " points " ++ (numbers_text plan.points
    ++ (codes " value " ++ (signed_decimal plan.value ++ (codes " flow " ++ decimal (value_of plan.flow plan.charges)))))))
