-- The words of a fault are those of its status, with its part behind them.
use Rattle.std.proofs.Common.{◌≡◌, ◌≢◌, ◌∙◌, ◌+◌, ◌<◌, ◌++◌, ◌∷◌, ℕ, List, [], Option, Some, None, ap, arith, refl, subst, sym}
use Rattle.std.specs.Prelude.{codes}
use Rattle.std.specs.Fmt.{decimal}
use Rattle.std.proofs.lemmas.Fmt.{decimal_digit}
use Rattle.mh_cert.specs.Plans as check_fault
use Rattle.mh_cert.specs.declared.fault.CheckFault.{CheckFault}
use Rattle.mh_cert.specs.declared.fault.CheckFault.TheVariants as check
use Rattle.mh_tree.specs.Faults as tree_fault
use Rattle.mh_tree.specs.declared.fault.TreeFault.{TreeFault}
use Rattle.mh_tree.specs.declared.fault.TreeFault.TheVariants as tree
use Rattle.mh_site.specs.Definitions as definition_fault
use Rattle.mh_site.specs.declared.fault.DefinitionFault.{DefinitionFault}
use Rattle.mh_site.specs.declared.fault.DefinitionFault.TheVariants as definition
use Rattle.mh_network.specs.Problems as problem_fault
use Rattle.mh_network.specs.declared.fault.ProblemFault.{ProblemFault}
use Rattle.mh_network.specs.declared.fault.ProblemFault.TheVariants as problem
use Rattle.mh_type.specs.Faults as type_fault
use Rattle.mh_type.specs.declared.fault.TypeFault.{TypeFault}
use Rattle.mh_type.specs.declared.fault.TypeFault.TheVariants as type
use Rattle.mh_core.specs.declared.refusal.Refusal.TheVariants.{NoMemory, HistoryFull, NoSite, NoPoint, WrongType, NoSnapshot, NoPlan, PlanRefused, OldPlan, TotalTooLarge, LedgerFull, GainTooLarge, NoWorker, WrongLevel}
use Rattle.mh_json.specs.declared.fault.InputFault.TheVariants as input
use Rattle.mhlink_c.specs.Buffers.{IsCopied}
use Rattle.mhlink_c.specs.Statuses.{part_of, status_of}
use Rattle.mhlink_c.specs.Wording.{IsTold, fault_words, with_part, words_of}
use Rattle.mhlink_c.specs.declared.failure.Failure.{Failure}
use Rattle.mhlink_c.specs.declared.failure.Failure.TheVariants.{Refused, Input, Problem, Unknown, Short, BadValue, BadLimits}
use Rattle.mhlink_c.proofs.Words.{with_some_part}

some_check : (cause : CheckFault) → check_fault.fault_number cause ≢ 0
some_check check.LinkNotEligible = λ none. omega arith
some_check check.LinksNotAscending = λ none. omega arith
some_check check.PointsNotUnion = λ none. omega arith
some_check check.BadFlowRow = λ none. omega arith
some_check check.GainExceeded = λ none. omega arith
some_check check.CostExceeded = λ none. omega arith
some_check check.ValueWrong = λ none. omega arith
some_check check.FlowNotMatching = λ none. omega arith
some_check check.NoMemory = λ none. omega arith
some_check check.ChargeExceeded = λ none. omega arith

some_tree : (cause : TreeFault) → tree_fault.fault_number cause ≢ 0
some_tree tree.NoMemory = λ none. omega arith
some_tree tree.BadPosition = λ none. omega arith
some_tree tree.TypeMismatch = λ none. omega arith
some_tree tree.NotUnary = λ none. omega arith
some_tree tree.NotBoolean = λ none. omega arith
some_tree tree.BadReorder = λ none. omega arith
some_tree tree.TooManyParameters = λ none. omega arith
some_tree tree.TooDeep = λ none. omega arith
some_tree tree.TooLarge = λ none. omega arith

some_definition : (cause : DefinitionFault) → definition_fault.fault_number cause ≢ 0
some_definition definition.NoMemory = λ none. omega arith
some_definition definition.TooManyPoints = λ none. omega arith
some_definition definition.TooManySites = λ none. omega arith
some_definition definition.TooManyLinks = λ none. omega arith
some_definition definition.TooManyNeeds = λ none. omega arith
some_definition definition.BadName = λ none. omega arith
some_definition definition.NameTwice = λ none. omega arith
some_definition definition.CostTooLarge = λ none. omega arith
some_definition definition.WeightTooLarge = λ none. omega arith
some_definition definition.BadKeyPlace = λ none. omega arith
some_definition definition.KeyMismatch = λ none. omega arith
some_definition definition.KeyTwice = λ none. omega arith
some_definition definition.NoPoint = λ none. omega arith
some_definition definition.NeedTwice = λ none. omega arith
some_definition definition.TypeMismatch = λ none. omega arith
some_definition definition.BadLevel = λ none. omega arith
some_definition definition.NoSite = λ none. omega arith
some_definition definition.InvokeMismatch = λ none. omega arith
some_definition definition.WrongLevel = λ none. omega arith
some_definition definition.ChargeTooLarge = λ none. omega arith

some_problem : (cause : ProblemFault) → problem_fault.fault_number cause ≢ 0
some_problem problem.NoMemory = λ none. omega arith
some_problem problem.GainTooLarge = λ none. omega arith
some_problem problem.CostTooLarge = λ none. omega arith
some_problem problem.NeedOutOfRange = λ none. omega arith
some_problem problem.NeedsNotAscending = λ none. omega arith
some_problem problem.TooManyLinks = λ none. omega arith
some_problem problem.TooManyPoints = λ none. omega arith
some_problem problem.TooManyNeeds = λ none. omega arith

some_type : (cause : TypeFault) → type_fault.fault_number cause ≢ 0
some_type type.NoMemory = λ none. omega arith
some_type type.TooManyParameters = λ none. omega arith
some_type type.BadText = λ none. omega arith

one_digit : (n : ℕ) → n < 10 → codes "fault 9 Problem " ++ (48 + n) ∷ [] ≡ codes "fault " ++ codes "9 Problem " ++ decimal n
one_digit n few = sym (ap (λ (digits : List ℕ). codes "fault 9 Problem " ++ digits) (decimal_digit n few))

pub words_told : (e : Failure) → IsTold e → (words : List ℕ) × ((words_of (status_of e) ≡ Some words) × (with_part words (part_of e) ≡ fault_words e))
words_told (Refused NoMemory) is = (codes "refused 1 NoMemory", (refl, refl))
words_told (Refused HistoryFull) is = (codes "refused 2 HistoryFull", (refl, refl))
words_told (Refused NoSite) is = (codes "refused 3 NoSite", (refl, refl))
words_told (Refused NoPoint) is = (codes "refused 4 NoPoint", (refl, refl))
words_told (Refused WrongType) is = (codes "refused 5 WrongType", (refl, refl))
words_told (Refused NoSnapshot) is = (codes "refused 6 NoSnapshot", (refl, refl))
words_told (Refused NoPlan) is = (codes "refused 7 NoPlan", (refl, refl))
words_told (Refused (PlanRefused cause)) is = (codes "refused 8 PlanRefused", (refl, sym (with_some_part (codes "refused 8 PlanRefused") (check_fault.fault_number cause) (some_check cause))))
words_told (Refused (OldPlan newest)) is = (codes "refused 9 OldPlan", (refl, sym (with_some_part (codes "refused 9 OldPlan") newest is)))
words_told (Refused TotalTooLarge) is = (codes "refused 10 TotalTooLarge", (refl, refl))
words_told (Refused LedgerFull) is = (codes "refused 11 LedgerFull", (refl, refl))
words_told (Refused GainTooLarge) is = (codes "refused 12 GainTooLarge", (refl, refl))
words_told (Refused NoWorker) is = (codes "refused 13 NoWorker", (refl, refl))
words_told (Refused WrongLevel) is = (codes "refused 14 WrongLevel", (refl, refl))
words_told (Input input.NoMemory) is = absurd is
words_told (Input input.TooLong) is = (codes "fault 2 TooLong", (refl, refl))
words_told (Input input.NotJson) is = (codes "fault 3 NotJson", (refl, refl))
words_told (Input input.BadShape) is = (codes "fault 4 BadShape", (refl, refl))
words_told (Input input.BadValue) is = (codes "fault 5 BadValue", (refl, refl))
words_told (Input input.UnknownShared) is = (codes "fault 6 UnknownShared", (refl, refl))
words_told (Input (input.Tree cause)) is = (codes "fault 7 Tree", (refl, sym (with_some_part (codes "fault 7 Tree") (tree_fault.fault_number cause) (some_tree cause))))
words_told (Input (input.Definition cause)) is = (codes "fault 8 Definition", (refl, sym (with_some_part (codes "fault 8 Definition") (definition_fault.fault_number cause) (some_definition cause))))
words_told (Input (input.Problem cause)) is = (codes "fault 9 Problem", (refl, sym (with_some_part (codes "fault 9 Problem") (problem_fault.fault_number cause) (some_problem cause))))
words_told (Input (input.BadType cause)) is = (codes "fault 12 BadType", (refl, sym (with_some_part (codes "fault 12 BadType") (type_fault.fault_number cause) (some_type cause))))
words_told (Input input.UnknownSite) is = (codes "fault 13 UnknownSite", (refl, refl))
words_told (Input input.UnknownPoint) is = (codes "fault 14 UnknownPoint", (refl, refl))
words_told (Input input.PointTwice) is = (codes "fault 15 PointTwice", (refl, refl))
words_told (Input input.NeedTwice) is = (codes "fault 16 NeedTwice", (refl, refl))
words_told (Problem problem.NoMemory) is = absurd is
words_told (Problem problem.GainTooLarge) is = (codes "fault 9 Problem 2", (refl, one_digit 2 (omega arith)))
words_told (Problem problem.CostTooLarge) is = (codes "fault 9 Problem 3", (refl, one_digit 3 (omega arith)))
words_told (Problem problem.NeedOutOfRange) is = (codes "fault 9 Problem 4", (refl, one_digit 4 (omega arith)))
words_told (Problem problem.NeedsNotAscending) is = (codes "fault 9 Problem 5", (refl, one_digit 5 (omega arith)))
words_told (Problem problem.TooManyLinks) is = (codes "fault 9 Problem 6", (refl, one_digit 6 (omega arith)))
words_told (Problem problem.TooManyPoints) is = (codes "fault 9 Problem 7", (refl, one_digit 7 (omega arith)))
words_told (Problem problem.TooManyNeeds) is = (codes "fault 9 Problem 8", (refl, one_digit 8 (omega arith)))
words_told Unknown is = (codes "a name, a key or a number of nothing that is there", (refl, refl))
words_told Short is = (codes "the buffer is too short", (refl, refl))
words_told BadValue is = (codes "a value of no kind, out of its kind's range, or whose text is not passed", (refl, refl))
words_told BadLimits is = (codes "a limit, or the number of workers, is out of its range", (refl, refl))

abbrev the_words : Option (List ℕ) → List ℕ
the_words (Some words) = words
the_words None = []

-- what is copied of a fault's status and part
pub fault_copied : (status part count : ℕ) (buffer : List ℕ) → ((words : List ℕ) × ((words_of status ≡ Some words) × IsCopied (with_part words part) count buffer)) → (e : Failure) → IsTold e → status ≡ status_of e → part ≡ part_of e → IsCopied (fault_words e) count buffer
fault_copied status part count buffer told e is its_status its_part =
    let words = words_told e is in
    let same : told.0 ≡ words.0 = ap the_words (sym told.1.0 ∙ ap words_of its_status ∙ words.1.0) in
    let text : with_part told.0 part ≡ fault_words e = ap (λ (xs : List ℕ). with_part xs part) same ∙ ap (with_part words.0) its_part ∙ words.1.1 in
    subst (λ (xs : List ℕ). IsCopied xs count buffer) text told.1.1
