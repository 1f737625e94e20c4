use Rattle.std.proofs.Common.{refl}
use Rattle.std.proofs.lemmas.Fn.{says_at}
use Rattle.serde_json.specs.View.{view}
use Rattle.mh_json.proofs.json.shape.member_or.Goals as goal

pub returns-in-Some : goal.returns-in-Some
returns-in-Some g c = record {
  value = λ f reads.
      rw (← c.name.ensures.value, ← c.in-Some.ensures) (c.at.ensures.value (f (view c.in-Some.part.now)) (reads _ _ (says_at _ c.read.ensures refl)));
}
