-- Texts of statuses.
use Rattle.std.specs.Prelude.{◌≡◌, ◌≢◌, ◌⊎◌, ℕ, ◌==◌, List, [], ◌∷◌, ◌++◌, Option, Some, None, codes, if◌then◌else◌}
use Rattle.std.specs.Fmt.{decimal}
use Rattle.mh_core.specs.Refusals.{refusal_text}
use Rattle.mh_core.specs.declared.refusal.Refusal.TheVariants.{OldPlan}
use Rattle.mh_network.specs.declared.fault.ProblemFault.TheVariants as problem
use Rattle.mh_json.specs.Faults.{input_text}
use Rattle.mh_json.specs.declared.fault.InputFault.TheVariants as input
use Rattle.mhlink_c.specs.Buffers.{IsTooShort}
use Rattle.mhlink_c.specs.Statuses.{no_memory}
use Rattle.mhlink_c.specs.declared.failure.Failure.{Failure}
use Rattle.mhlink_c.specs.declared.failure.Failure.TheVariants.{Refused, Input, Problem, Unknown, Short, BadValue, BadLimits}

-- statuses with their texts: of success and of rejections
abbrev pub refusals : List (ℕ × List ℕ)
refusals =
    (0, codes "done")
    ∷ (1, codes "refused 1 NoMemory")
    ∷ (2, codes "refused 2 HistoryFull")
    ∷ (3, codes "refused 3 NoSite")
    ∷ (4, codes "refused 4 NoPoint")
    ∷ (5, codes "refused 5 WrongType")
    ∷ (6, codes "refused 6 NoSnapshot")
    ∷ (7, codes "refused 7 NoPlan")
    ∷ (8, codes "refused 8 PlanRefused")
    ∷ (9, codes "refused 9 OldPlan")
    ∷ (10, codes "refused 10 TotalTooLarge")
    ∷ (11, codes "refused 11 LedgerFull")
    ∷ (12, codes "refused 12 GainTooLarge")
    ∷ (13, codes "refused 13 NoWorker")
    ∷ (14, codes "refused 14 WrongLevel")
    ∷ []

-- of faults of inputs
abbrev pub inputs : List (ℕ × List ℕ)
inputs =
    (102, codes "fault 2 TooLong")
    ∷ (103, codes "fault 3 NotJson")
    ∷ (104, codes "fault 4 BadShape")
    ∷ (105, codes "fault 5 BadValue")
    ∷ (106, codes "fault 6 UnknownShared")
    ∷ (107, codes "fault 7 Tree")
    ∷ (108, codes "fault 8 Definition")
    ∷ (109, codes "fault 9 Problem")
    ∷ (112, codes "fault 12 BadType")
    ∷ (113, codes "fault 13 UnknownSite")
    ∷ (114, codes "fault 14 UnknownPoint")
    ∷ (115, codes "fault 15 PointTwice")
    ∷ (116, codes "fault 16 NeedTwice")
    ∷ []

-- of faults of problems, and of these calls alone
abbrev pub others : List (ℕ × List ℕ)
others =
    (202, codes "fault 9 Problem 2")
    ∷ (203, codes "fault 9 Problem 3")
    ∷ (204, codes "fault 9 Problem 4")
    ∷ (205, codes "fault 9 Problem 5")
    ∷ (206, codes "fault 9 Problem 6")
    ∷ (207, codes "fault 9 Problem 7")
    ∷ (208, codes "fault 9 Problem 8")
    ∷ (301, codes "a name, a key or a number of nothing that is there")
    ∷ (302, codes "the buffer is too short")
    ∷ (303, codes "a value of no kind, out of its kind's range, or whose text is not passed")
    ∷ (304, codes "a limit, or the number of workers, is out of its range")
    ∷ []

-- the entry of a number, if there is one
abbrev pub beside : List (ℕ × List ℕ) → ℕ → Option (List ℕ)
beside [] n = None
beside (row ∷ rows) n = if row.0 == n then Some row.1 else beside rows n

-- the text of a status, and none for another number
abbrev pub words_of : ℕ → Option (List ℕ)
words_of status = beside (refusals ++ inputs ++ others) status

-- a text, followed by a part that is not 0
abbrev pub with_part : List ℕ → ℕ → List ℕ
with_part words part = if part == 0 then words else words ++ 32 ∷ decimal part

-- the number is not a status; or memory ran out, or the buffer is too short, for the text
abbrev pub RefusesWords : ℕ → ℕ → ℕ → List ℕ → Failure → Type 0
RefusesWords status part count buffer e =
    ((e ≡ Unknown) × (words_of status ≡ None)) ⊎ ((e ≡ no_memory) × (part ≢ 0))
    ⊎ ((e ≡ Short) × ((words : List ℕ) × ((words_of status ≡ Some words) × IsTooShort (with_part words part) count buffer)))

-- the text of a fault: that of its rejection, or of its input's fault, which has the part too
abbrev pub fault_words : Failure → List ℕ
fault_words (Refused told) = codes "refused " ++ refusal_text told
fault_words (Input cause) = codes "fault " ++ input_text cause
fault_words (Problem cause) = codes "fault " ++ input_text (input.Problem cause)
fault_words Unknown = codes "a name, a key or a number of nothing that is there"
fault_words Short = codes "the buffer is too short"
fault_words BadValue = codes "a value of no kind, out of its kind's range, or whose text is not passed"
fault_words BadLimits = codes "a limit, or the number of workers, is out of its range"

-- a fault whose number C may get: lack of memory is a rejection, and plans have numbers from 1
abbrev pub IsTold : Failure → Type 0
IsTold (Refused (OldPlan newest)) = newest ≢ 0
IsTold (Input input.NoMemory) = ⊥
IsTold (Problem problem.NoMemory) = ⊥
IsTold _ = Unit {0}
