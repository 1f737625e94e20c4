use Rattle.std.proofs.Common.{rules, ◌∙◌, arith, ap, inl, inr, length, refl}
use Rattle.mhlink_c.specs.declared.failure.Failure.TheVariants.{Short}
use Rattle.mhlink_c.proofs.Planned.{begins, rests, sums_begin, sums_long}
use Rattle.mhlink_c.proofs.flow.mhlink_plan_problem_flow.Goals.{then-chosen-links-via-then-chosen-links, then-chosen-links-via-else-chosen-links+then-points-needed, then-chosen-links-via-else-chosen-links+else-points-needed+then-paid-len, then-chosen-links-via-else-chosen-links+else-points-needed+else-paid-len+then-given-len, then-chosen-links-via-else-chosen-links+else-points-needed+else-paid-len+else-given-len+then-gets-len}
use Rattle.mhlink_c.proofs.flow.mhlink_plan_problem_flow.Goals as goal

pub returns-then-chosen-links-clause-refused : goal.returns-then-chosen-links-clause-refused
returns-then-chosen-links-clause-refused c some =
    let long = sums_long c.args.needs.now c.args.links.now (length c.args.costs.now) c.in-Ok.told.plan c.in-Ok.told.paid.items c.in-Ok.told.given.items c.in-Ok.told.gets.items c.in-Ok.ensures.amounts in (
      Short,
      (
        c.number.ensures.value,
        inr record {
          fault = refl;
          short = elim c.then-chosen-links.branch [
            | then-chosen-links-via-then-chosen-links w ↦ inl w.if-chosen-links.true
            | then-chosen-links-via-else-chosen-links+then-points-needed w ↦ inr (inl w.if-points-needed.true)
            | then-chosen-links-via-else-chosen-links+else-points-needed+then-paid-len w ↦ inr (inr (inl (omega (arith, w.if-paid-len.true, w.len.ensures, long.0))))
            | then-chosen-links-via-else-chosen-links+else-points-needed+else-paid-len+then-given-len w ↦ inr (inr (inr (inl (omega (arith, w.if-given-len.true, w.len-else-paid-len.ensures, long.1)))))
            | then-chosen-links-via-else-chosen-links+else-points-needed+else-paid-len+else-given-len+then-gets-len w ↦ inr (inr (inr (inr (omega (arith, w.if-gets-len.true, w.len-else-given-len.ensures, long.2)))))
          ];
          counted = (c.in-Ok.told.plan, (c.in-Ok.ensures.plan, ap length c.as_slice-links.ensures.value, ap length c.as_slice-needed.ensures.value));
        },
      ),
    )

pub returns-else-gets-len-clause-planned : goal.returns-else-gets-len-clause-planned
returns-else-gets-len-clause-planned c ok = (
  c.in-Ok.told.plan,
  (
    c.in-Ok.ensures.plan,
    (
      record {
        links = record { count = ap length c.as_slice-links.ensures.value; items = c.fill.ensures.items ∙ c.as_slice-links.ensures.value };
        needed = record { count = ap length c.as_slice-needed.ensures.value; items = c.fill-in-Ok.ensures.items ∙ c.as_slice-needed.ensures.value };
        is_worth = search rules;
      },
      sums_begin c.args.needs.now c.args.links.now (length c.args.costs.now) c.in-Ok.told.plan c.fill-in-Ok-2.new.buffer c.fill-in-Ok-3.new.buffer c.fill-in-Ok-4.new.buffer
          c.in-Ok.told.paid.items c.in-Ok.told.given.items c.in-Ok.told.gets.items c.in-Ok.ensures.amounts
          (begins c.fill-in-Ok-2.new.buffer c.deref.ensures.value c.fill-in-Ok-2.ensures.items) (begins c.fill-in-Ok-3.new.buffer c.deref-in-Ok.ensures.value c.fill-in-Ok-3.ensures.items) (begins c.fill-in-Ok-4.new.buffer c.deref-in-Ok-2.ensures.value c.fill-in-Ok-4.ensures.items),
    ),
  ),
)

pub returns-else-gets-len-clause-amounts_rest : goal.returns-else-gets-len-clause-amounts_rest
returns-else-gets-len-clause-amounts_rest c ok =
    let long = sums_long c.args.needs.now c.args.links.now (length c.args.costs.now) c.in-Ok.told.plan c.in-Ok.told.paid.items c.in-Ok.told.given.items c.in-Ok.told.gets.items c.in-Ok.ensures.amounts in (
      rests (length c.args.links.now) c.fill-in-Ok-2.new.buffer _ c.deref.ensures.value long.0 c.fill-in-Ok-2.ensures.rest,
      (
        rests (length c.args.needs.now) c.fill-in-Ok-3.new.buffer _ c.deref-in-Ok.ensures.value long.1 c.fill-in-Ok-3.ensures.rest,
        rests (length c.args.costs.now) c.fill-in-Ok-4.new.buffer _ c.deref-in-Ok-2.ensures.value long.2 c.fill-in-Ok-4.ensures.rest,
      ),
    )

pub returns-in-Err-clause-refused : goal.returns-in-Err-clause-refused
returns-in-Err-clause-refused c some = (c.in-Err.fault, (c.number-in-Err.ensures.value, inl c.in-Err.ensures.refused))
