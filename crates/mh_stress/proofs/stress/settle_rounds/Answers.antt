use Rattle.std.proofs.Common.{◌≡◌, List, Vec, subst, length, arith}
use Rattle.std.specs.Vec.{vec_len}
use Rattle.mh_live.specs.Passes.{PassState}
use Rattle.mh_stress.specs.Rounds.{HaveWorked}
use Rattle.mh_stress.proofs.Settling.{is_settlement, settlement_of, unflushed_within}
use Rattle.mh_stress.proofs.stress.settle_rounds.Goals as goal

vec_length : {A Z : Type 0} (v : Vec A Z) → vec_len v ≡ length v.items
vec_length v = v.ok.0

pub settled_lines-requires : goal.settled_lines-requires
settled_lines-requires g c =
    let calls = c.args.division.calls in
    let workers = length c.args.passes.items in
    let worked = subst (λ (l : List PassState). HaveWorked g.N.ListName.definition calls.items c.args.options.rounds l c.in-Some.passes.items) c.requires.fresh.passes_are c.in-Some.ensures.worked in
    record { small = unflushed_within g.N.ListName.definition calls.items c.requires.fresh.limit workers c.args.options.rounds c.in-Some.passes.items worked c.in-Ok.settled c.in-Ok.ensures.sums (let len = calls.ok in let small = calls.small in omega (arith, len.0, len.1, small)) c.requires.workers.1 c.requires.options.few }

pub returns-in-Ok-clause-settled : goal.returns-in-Ok-clause-settled
returns-in-Ok-clause-settled g c =
    let calls = c.args.division.calls in
    let workers = length c.args.passes.items in
    let worked = subst (λ (l : List PassState). HaveWorked g.N.ListName.definition calls.items c.args.options.rounds l c.in-Some.passes.items) c.requires.fresh.passes_are c.in-Some.ensures.worked in
    record {
      settlement = settlement_of c.in-Ok.settled;
      is = is_settlement g.N.ListName.definition calls.items c.requires.fresh.limit workers c.args.options.rounds c.in-Some.passes.items worked c.in-Ok.settled c.in-Ok.ensures.sums g.N.ListName.limits g.N.ListName.workers c.settled_lines.ensures.settled;
      text_is = c.in_ok-settled_lines-in-Ok.ensures.value;
    }
