use Rattle.std.proofs.Common.{inl, inr, Ok, Some}
use Rattle.std.proofs.KnownBytes.{Keeps-refl}
use Rattle.std.proofs.lemmas.Result.{err_from_is_err_and}
use Rattle.serde_json.specs.View.{view}
use Rattle.mh_text.proofs.Claims.{unwritten}
use Rattle.mh_text.proofs.streams.check.check_value.Goals as goal

pub returns-in_err-claim-clause-failed : goal.returns-in_err-claim-clause-failed
returns-in_err-claim-clause-failed g c =
    let p = err_from_is_err_and c.from_residual.result c.from_residual.ensures.1 in
    rw (p.1, p.2) (inl (
      Keeps-refl _,
      elim c.in_err-claim.ensures.failed [
        | inl memory ↦ inl memory
        | inr fault ↦ inr (inr fault)
      ],
    ))

pub returns-in_err-verdict-clause-failed : goal.returns-in_err-verdict-clause-failed
returns-in_err-verdict-clause-failed g c =
    let p = err_from_is_err_and c.from_residual-in_err-verdict.result c.from_residual-in_err-verdict.ensures.1 in
    rw (p.1, p.2) (inl (Keeps-refl _, inl c.in_err-verdict.ensures.memory))

pub returns-in_err-write_verdict-clause-failed : goal.returns-in_err-write_verdict-clause-failed
returns-in_err-write_verdict-clause-failed g c =
    let p = err_from_is_err_and c.from_residual-in_err-write_verdict.result c.from_residual-in_err-write_verdict.ensures.1 in
    rw (p.1, p.2) (unwritten Ok (Some (view c.args.value.now)) _ _ _ _ _ c.in_ok-verdict.verdict (_, _, c.in_ok-claim.ensures.ok, c.in_ok-verdict.ensures.found) c.in_err-write_verdict.ensures.line)

pub returns-clause-ok : goal.returns-clause-ok
returns-clause-ok g c = ((_, _, c.in_ok-claim.ensures.ok, c.in_ok-verdict.ensures.found), c.in_ok-write_verdict.ensures.line)
