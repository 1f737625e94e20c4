use Rattle.std.proofs.Common.{◌≡◌, ◌∙◌, ap, [], ◌∷◌}
use Rattle.mh_type.specs.Kinds.{kind_of}
use Rattle.mh_tree.specs.Constructors.{insert_made, op_made}
use Rattle.mh_pic.specs.Keys.{equality}
use Rattle.mh_pic.proofs.Passing.{there, settled, first_passes}
use Rattle.mh_pic.proofs.key_tests.first_test.Goals as goal

pub returns : goal.returns
returns c =
    let target : c.in_ok-equality.equality ≡ op_made (equality (kind_of c.args.key.now)) =
    there _ _ _ c.in_ok-equality.ensures.value c.op.ensures.value ∙ ap op_made c.equality.ensures.value ∙ ap (λ k. op_made (equality k)) c.kind.ensures.value in
    let passes = (λ i. insert_made (target i) 1 (c.in_ok-key.ensures.value i ∷ [])) ∙ first_passes c.args.key.now in
    record { value = settled _ _ _ _ passes c.in_ok-test.ensures.value c.insert.ensures.value }
