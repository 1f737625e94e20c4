use Rattle.std.proofs.Common.{◌≡◌, ◌<◌, ℕ, List, length, Result, Ok, Err, MatchResult, IfOk}
use Rattle.std.specs.Prelude.{IsErrOf}
use Rattle.mh_type.specs.declared.fault.TypeFault.{TypeFault}
use Rattle.mh_type.specs.declared.fault.TypeFault.TheVariants.{TooManyParameters, BadText}
use Rattle.mh_type.specs.Signature.{Signature}
use Rattle.mh_type.specs.Written.{parsed, written}
use Rattle.mh_type.proofs.Laws.{parsed_ok, parsed_many, parsed_bad}
use Rattle.mh_type.proofs.method_type.MethodType.parse.Goals as goal

Reads : List ℕ → Result Signature TypeFault → Type 0
Reads text r = MatchResult r (λ m. parsed text ≡ Ok m) (λ e. parsed text ≡ Err e)

read : (text : List ℕ) (r : Result Signature TypeFault) → Reads text r → IfOk r (λ m. text ≡ written m)
unfolding Reads
read text (Ok m) h = parsed_ok text m h
read text (Err e) h = tt

many : (text : List ℕ) (r : Result Signature TypeFault) → Reads text r → IsErrOf r TooManyParameters → (m : Signature) × (text ≡ written m) × (16 < length m.parameters)
unfolding Reads
many text (Ok m) h e = cc
many text (Err f) h e = let same : f ≡ TooManyParameters = cc in parsed_many text (rw same at h)

bad : (text : List ℕ) (r : Result Signature TypeFault) → Reads text r → IsErrOf r BadText → (m : Signature) → text ≡ written m → ⊥
unfolding Reads
bad text (Ok m) h e = cc
bad text (Err f) h e = let same : f ≡ BadText = cc in parsed_bad text (rw same at h)

pub returns-clause-read : goal.returns-clause-read
unfolding Reads
returns-clause-read c = read c.args.text.now c.read_type.result c.read_type.ensures.value

pub returns-clause-many : goal.returns-clause-many
unfolding Reads
returns-clause-many c = many c.args.text.now c.read_type.result c.read_type.ensures.value

pub returns-clause-bad : goal.returns-clause-bad
unfolding Reads
returns-clause-bad c = bad c.args.text.now c.read_type.result c.read_type.ensures.value
