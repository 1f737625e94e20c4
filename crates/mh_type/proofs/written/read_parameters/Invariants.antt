use Rattle.std.proofs.Common.{length}
use Rattle.mh_type.proofs.Reading.{ReadSoFar}
use Rattle.mh_type.proofs.written.read_parameters.Given as goal

abbrev pub invariant-loop-name : goal.invariant-loop-name
invariant-loop-name l = ReadSoFar l.fn.ret l.list l.made l.fits (length l.yielded)
