-- The numbers and the names of refusals.
use Rattle.std.specs.Prelude.{ℕ, List, codes, ◌++◌}
use Rattle.std.specs.Fmt.{decimal}
use Rattle.mh_cert.specs.Plans.{fault_number}
use Rattle.mh_core.specs.declared.refusal.Refusal.{Refusal}
use Rattle.mh_core.specs.declared.refusal.Refusal.TheVariants.{NoMemory, HistoryFull, NoSite, NoPoint, WrongType, NoSnapshot, NoPlan, PlanRefused, OldPlan, TotalTooLarge, LedgerFull, GainTooLarge, NoWorker, WrongLevel}
use Rattle.mh_base.specs.Tests.{Tests, no_more, may_tell, only}

-- lack of memory is reported if no test fails
abbrev pub memory_last : Tests Refusal
memory_last = no_more (only NoMemory)

-- lack of memory may be reported before these tests
abbrev pub take_memory : Tests Refusal → Tests Refusal
take_memory later = may_tell (only NoMemory) later

abbrev pub refusal_number : Refusal → ℕ
refusal_number NoMemory = 1
refusal_number HistoryFull = 2
refusal_number NoSite = 3
refusal_number NoPoint = 4
refusal_number WrongType = 5
refusal_number NoSnapshot = 6
refusal_number NoPlan = 7
refusal_number (PlanRefused fault) = 8
refusal_number (OldPlan newest) = 9
refusal_number TotalTooLarge = 10
refusal_number LedgerFull = 11
refusal_number GainTooLarge = 12
refusal_number NoWorker = 13
refusal_number WrongLevel = 14

-- the number and the name
abbrev pub refusal_text : Refusal → List ℕ
refusal_text NoMemory = codes "1 NoMemory"
refusal_text HistoryFull = codes "2 HistoryFull"
refusal_text NoSite = codes "3 NoSite"
refusal_text NoPoint = codes "4 NoPoint"
refusal_text WrongType = codes "5 WrongType"
refusal_text NoSnapshot = codes "6 NoSnapshot"
refusal_text NoPlan = codes "7 NoPlan"
refusal_text (PlanRefused fault) = codes "8 PlanRefused " ++ decimal (fault_number fault)
refusal_text (OldPlan newest) = codes "9 OldPlan " ++ decimal newest
refusal_text TotalTooLarge = codes "10 TotalTooLarge"
refusal_text LedgerFull = codes "11 LedgerFull"
refusal_text GainTooLarge = codes "12 GainTooLarge"
refusal_text NoWorker = codes "13 NoWorker"
refusal_text WrongLevel = codes "14 WrongLevel"
