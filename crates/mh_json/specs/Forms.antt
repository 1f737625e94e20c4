-- The first fault of an input, and the part that has it.
use Rattle.std.specs.Prelude.{Option}
use Rattle.serde_json.specs.Data.{Data}
use Rattle.mh_json.specs.declared.json.form.InputForm.{InputForm}
use Rattle.mh_json.specs.declared.json.form.InputForm.TheVariants.{Script, Problem, Claim}
use Rattle.mh_json.specs.Claims.{claim_read}
use Rattle.mh_json.specs.Misreads.{MisreadData, err_of}
use Rattle.mh_json.specs.Problems.{problem_read}
use Rattle.mh_json.specs.Script.{script_read}

-- none if it is read without one
abbrev pub misread_by : InputForm → Data → Option MisreadData
misread_by Script d = err_of (script_read d)
misread_by Problem d = err_of (problem_read d)
misread_by Claim d = err_of (claim_read d)
