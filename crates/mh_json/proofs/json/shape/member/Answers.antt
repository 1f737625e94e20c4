use Rattle.std.proofs.Common.{refl}
use Rattle.std.proofs.lemmas.Fn.{says_at}
use Rattle.serde_json.specs.View.{view}
use Rattle.mh_json.proofs.json.shape.member.Goals as goal

pub returns : goal.returns
returns g c = record {
  value = λ f reads.
      rw c.in_ok-part.ensures.value (c.at.ensures.value (f (view c.in_ok-part.part.now)) (reads _ _ (says_at _ c.read.ensures refl)));
}
