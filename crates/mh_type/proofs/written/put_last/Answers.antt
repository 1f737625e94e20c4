use Rattle.std.proofs.Common.{◌∷◌, [], ◌≤◌, length, refl, sym, ◌∙◌, arith}
use Rattle.std.proofs.lemmas.List.{take-append-le, take_all}
use Rattle.mh_type.specs.Laws.SameKind.{signature_same}
use Rattle.mh_type.proofs.written.put_last.Goals as goal

pub returns-clause-value : goal.returns-clause-value
returns-clause-value c =
    let full : 16 ≤ length c.args.made.now.parameters = omega arith in
    let few : length c.args.made.now.parameters ≤ 16 = c.count.ensures.few in
    signature_same _ _ refl
    (sym (take-append-le 16 c.args.made.now.parameters (c.args.kind ∷ []) full ∙ take_all 16 c.args.made.now.parameters few))
