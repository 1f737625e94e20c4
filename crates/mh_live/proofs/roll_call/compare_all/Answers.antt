use Rattle.std.proofs.Common.{◌⊎◌, List, arith, subst}
use Rattle.std.specs.List.{All}
use Rattle.std.proofs.lemmas.List.{take_all}
use Rattle.std.proofs.lemmas.List.Elements.{All-more}
use mathlib.Core.List.{IsPrefix}
use Rattle.mh_site.specs.declared.control.Control.{Control}
use Rattle.mh_live.specs.Settled.{IsWithin}
use Rattle.mh_live.proofs.Prefixes.{prefix_either}
use Rattle.mh_live.proofs.roll_call.compare_all.Goals as goal

pub loop-pass-preserved : goal.loop-pass-preserved
loop-pass-preserved g c =
    let front = c.args.front.now in
    let Begins : List Control → Type 0 = λ seen. IsPrefix seen front ⊎ IsPrefix front seen in
    let either = prefix_either c.front.result.now front c.compare.ensures.shorter c.compare.ensures.longer in
    let here : IsWithin front c.pass-item.result = subst Begins c.front.ensures.value either in
    All-more (IsWithin front) c.args.passes.now c.loop-pass.pass-index c.pass-item.result c.loop-pass-test.true c.loop-pass.invariant (subst (IsWithin front) c.pass-item.is here)

pub returns : goal.returns
returns g c = record { within = subst (All (IsWithin c.args.front.now)) (take_all c.loop-pass.pass-index c.args.passes.now (omega (arith, c.loop-pass-test.false))) c.loop-pass.invariant }
