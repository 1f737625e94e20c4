use Rattle.std.proofs.Common.{◌∙◌, ◌+◌, ap, arith, inl, inr, length}
use Rattle.std.proofs.lemmas.List.{length_push}
use Rattle.std.proofs.lemmas.Result.{err_from_is_err_and}
use Rattle.mhlink_c.specs.Crossing.{bytes_of}
use Rattle.mhlink_c.proofs.Values.{left_is, none_next, read_all, read_next}
use Rattle.mhlink_c.proofs.value.read_values.Goals as goal

pub returns-in_err-value-clause-refused : goal.returns-in_err-value-clause-refused
returns-in_err-value-clause-refused c =
    let p = err_from_is_err_and c.from_residual.result c.from_residual.ensures.1 in
    rw p.1 (elim c.in_err-value.ensures.refused [
      | inl bad ↦ inl (p.2 ∙ bad.0, none_next c.args.given.now c.loop-one.one-index _ c.args.texts.now c.loop-one.values.items c.loop-one.rest.now c.loop-one-test.true c.loop-one.invariant.0 bad.1)
      | inr memory ↦ inr (p.2 ∙ memory)
    ])

pub loop-one-preserved : goal.loop-one-preserved
loop-one-preserved c =
    let x = c.in_ok-value.value in
    let rest = c.loop-one.rest.now in
    let left = left_is (bytes_of x) rest c.text_length.result c.min-used.result c.in_ok-value.ensures.value.bytes c.text_length.ensures.value c.min-used.ensures in (
      read_next c.args.given.now c.loop-one.one-index _ c.args.texts.now c.loop-one.values.items rest x _ c.push.new.self.items c.loop-one-test.true c.loop-one.invariant.0 c.in_ok-value.ensures.value left c.in_ok-push.ensures.items,
      (
        ap length c.in_ok-push.ensures.items ∙ length_push c.loop-one.values.items x ∙ ap (λ n. n + 1) c.loop-one.invariant.1.0,
        omega (arith, c.loop-one.invariant.1.1, c.in_ok-push.ensures.capacity),
      ),
    )

pub returns-clause-values : goal.returns-clause-values
returns-clause-values c =
    read_all c.args.given.now c.loop-one.one-index c.args.texts.now c.loop-one.values.items c.loop-one.rest.now c.loop-one-test.false c.loop-one.invariant.0
