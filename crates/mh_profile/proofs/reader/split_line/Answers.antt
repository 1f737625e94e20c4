use Rattle.std.proofs.Common.{sym}
use Rattle.mh_profile.proofs.Lines.{no_end, part_in_line, parted_slice}
use Rattle.mh_profile.proofs.reader.split_line.Goals as goal

pub returns-in-Some-clause-found : goal.returns-in-Some-clause-found
returns-in-Some-clause-found c =
    let found = sym c.in-Some.ensures.value in
    (part_in_line c.args.bytes.now c.in-Some.end found, parted_slice c.args.bytes.now c.in-Some.end found)

pub returns-in-None-clause-none : goal.returns-in-None-clause-none
returns-in-None-clause-none c = no_end c.args.bytes.now (sym c.in-None.ensures.value)
