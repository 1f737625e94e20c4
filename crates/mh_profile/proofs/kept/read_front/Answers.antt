use Rattle.std.proofs.Common.{◌++◌, take, arith}
use Rattle.std.proofs.lemmas.Grind.{common_steps}
use Rattle.std.proofs.KnownBytes.{Consumes-trans}
use Rattle.mh_profile.proofs.kept.read_front.Goals as goal

pub returns-in_err-extend_from_slice-clause-most : goal.returns-in_err-extend_from_slice-clause-most
returns-in_err-extend_from_slice-clause-most g c = (
  c.loop-buffer.front.items ++ take c.in_ok-n.n c.read.new.buffer,
  Consumes-trans _ _ _ _ _ c.loop-buffer.invariant.taken c.in_ok-n.ensures.bytes.0,
  grind (arith, common_steps),
)
