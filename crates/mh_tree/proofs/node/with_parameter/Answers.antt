use Rattle.std.proofs.Common.{◌∙◌, ap, arith, [], ◌∷◌, length, length-append, length-take, length-drop}
use Rattle.mh_type.specs.Signature.{Signature, with_parameters}
use Rattle.mh_tree.specs.Laws.Types.{replaced}
use Rattle.mh_tree.proofs.node.with_parameter.Goals as goal

pub unreachable-requires : goal.unreachable-requires
unreachable-requires c =
    let e = ap (λ (s : Signature). length s.parameters) c.remove.ensures.value in
    let count = simp (length-append, length-take, length-drop) at e in
    omega (arith, c.in_default.ensures.refused.1)

pub returns : goal.returns
returns c =
    let e = c.remove.ensures.value in
    record {
      value =
          c.in-Ok.ensures.value.0
          ∙ (λ i. record { ret = (e i).ret; parameters = with_parameters (e i).parameters c.args.place (c.args.kind ∷ []) })
          ∙ (λ i. record { ret = c.args.method_type.now.ret; parameters = replaced c.args.method_type.now.parameters c.args.place c.args.kind c.requires.inside i });
    }
