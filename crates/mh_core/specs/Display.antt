-- The texts of replies and of reports of installations.
use Rattle.std.specs.Prelude.{ℕ, true, false, Bool, List, [], ◌∷◌, ◌++◌, filter, length, codes}
use Rattle.std.specs.Fmt.{decimal}
use Rattle.mh_base.specs.Display.{numbers_text}
use Rattle.mh_type.specs.Display.{outcome_text}
use Rattle.mh_cert.specs.Display.{plan_text}
use Rattle.mh_core.specs.declared.reply.Reply.{Reply}
use Rattle.mh_core.specs.declared.reply.Reply.TheVariants.{Called, Done, Taken, Published, Installed, Refused}
use Rattle.mh_core.specs.declared.install_report.InstallReport.{InstallReport}
use Rattle.mh_core.specs.declared.install_report.Linkage.TheVariants.{Linked, Unlinked, Skipped}
use Rattle.mh_core.specs.declared.install_report.SiteLinkage.{SiteLinkage}
use Rattle.mh_core.specs.Refusals.{refusal_text}

abbrev pub is_linked : SiteLinkage → Bool
is_linked x = elim x.linkage as (λ _. Bool) [ Linked links ↦ true | Unlinked ↦ false | Skipped ↦ false ]

abbrev pub is_skipped : SiteLinkage → Bool
is_skipped x = elim x.linkage as (λ _. Bool) [ Linked links ↦ false | Unlinked ↦ false | Skipped ↦ true ]

-- the links that were left out, or nothing if there are none
abbrev pub invalid_text : List ℕ → List ℕ
invalid_text [] = []
invalid_text (j ∷ js) = codes " invalid " ++ numbers_text (j ∷ js)

-- the numbers of linked and of skipped sites, and the links that were left out
abbrev pub report_text : InstallReport → List ℕ
report_text report =
    codes "linked " ++ (decimal (length (filter is_linked report.sites))
    ++ (codes " skipped " ++ (decimal (length (filter is_skipped report.sites)) ++ invalid_text report.left_out)))

-- a reply, whose points are written by number
abbrev pub reply_text : Reply → List ℕ
reply_text (Called outcome steps) = outcome_text outcome
reply_text Done = codes "ok"
reply_text (Taken n) = codes "snapshot " ++ decimal n
reply_text (Published m plan) = codes "plan " ++ (decimal m ++ (codes " " ++ plan_text plan))
reply_text (Installed report) = codes "installed " ++ report_text report
reply_text (Refused refusal) = codes "refused " ++ refusal_text refusal
