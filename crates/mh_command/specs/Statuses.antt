-- Exit statuses.
use Rattle.std.specs.Prelude.{ℕ}
use Rattle.clap.specs.declared.error.kind.ErrorKind.{ErrorKind}
use Rattle.clap.specs.declared.error.kind.ErrorKind.TheVariants.{DisplayHelp, DisplayVersion, OutOfMemory}
use Rattle.mh_text.specs.declared.lines.verdict.Verdict.{Verdict}
use Rattle.mh_text.specs.declared.lines.verdict.Verdict.TheVariants.{Accepted, Refused}
use Rattle.mh_json.specs.declared.fault.InputFault.TheVariants.{NoMemory}
use Rattle.mh_json.specs.declared.fault.TextFault.{TextFault}
use Rattle.mh_json.specs.declared.fault.TextFault.TheVariants.{Input, NoReader, ReadFailed, WriteFailed}

-- of a fault: 4 if memory ran out or no reader could be made, 3 if a read or a write failed, 1 if the input is refused
abbrev pub status_told : TextFault → ℕ
status_told (Input NoMemory) = 4
status_told NoReader = 4
status_told ReadFailed = 3
status_told WriteFailed = 3
status_told (Input _) = 1

-- of words that ask for no work: 4 if memory ran out, 0 for help and the version, 2 for any others
abbrev pub status_answered : ErrorKind → ℕ
status_answered OutOfMemory = 4
status_answered DisplayHelp = 0
status_answered DisplayVersion = 0
status_answered _ = 2

-- of a verdict on a plan
abbrev pub status_found : Verdict → ℕ
status_found Accepted = 0
status_found (Refused cause) = 1
