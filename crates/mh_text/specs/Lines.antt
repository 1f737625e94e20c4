-- The text of lines.
use Rattle.std.specs.Prelude.{ℕ, List, [], ◌∷◌, ◌++◌, codes}
use Rattle.std.specs.Fmt.{decimal, signed_decimal}
use Rattle.std.specs.List.{flat_map}
use Rattle.mh_core.specs.declared.reply.Reply.{Reply}
use Rattle.mh_core.specs.declared.reply.Reply.TheVariants.{Called, Done, Taken, Published, Installed, Refused}
use Rattle.mh_core.specs.declared.install_report.InstallReport.{InstallReport}
use Rattle.mh_core.specs.Refusals.{refusal_text}
use Rattle.mh_cert.specs.declared.plan.Plan.{Plan}
use Rattle.mh_network.specs.Selection.{value_of}
use Rattle.mh_site.specs.Defined.{DefinitionData, point_at}
use Rattle.mh_base.specs.Display.{numbers_text}
use Rattle.mh_type.specs.Display.{outcome_text}
use Rattle.mh_core.specs.Display.{report_text}
use Rattle.mh_text.specs.Steps.{Told}

-- the names of points with commas between them, or a dash if there are none
abbrev pub names_text : DefinitionData → List ℕ → List ℕ
names_text d [] = codes "-"
names_text d (p ∷ ps) = (point_at d p).name ++ flat_map (λ q. codes "," ++ (point_at d q).name) ps

-- a plan with this number, for this snapshot: links by number, points by name, and the sum of the amounts of its flow and charges
abbrev pub published_text : DefinitionData → ℕ → ℕ → Plan → List ℕ
published_text d n m plan =
    codes "plan " ++ (decimal m ++ (codes " snapshot " ++ (decimal n ++ (codes " links " ++ (numbers_text plan.links
    ++ (codes " points " ++ (names_text d plan.points ++ (codes " value " ++ (signed_decimal plan.value ++ (codes " flow " ++ decimal (value_of plan.flow plan.charges)))))))))))

-- the installation of the plan with this number: the numbers of linked and of skipped sites, and the links that were left out
abbrev pub installed_text : ℕ → InstallReport → List ℕ
installed_text m report = codes "install " ++ (decimal m ++ (codes " " ++ report_text report))

-- a reply to a step that names this number
abbrev pub reply_text : DefinitionData → ℕ → Reply → List ℕ
reply_text d n (Called outcome steps) = outcome_text outcome
reply_text d n Done = codes "ok"
reply_text d n (Taken m) = codes "snapshot " ++ decimal m
reply_text d n (Published m plan) = published_text d n m plan
reply_text d n (Installed report) = installed_text n report
reply_text d n (Refused refusal) = codes "refused " ++ refusal_text refusal

-- a reply, and the byte 0x0A
abbrev pub line_of : DefinitionData → Told → List ℕ
line_of d told = reply_text d told.0 told.1 ++ 10 ∷ []

abbrev pub lines_of : DefinitionData → List Told → List ℕ
lines_of d replies = flat_map (line_of d) replies
