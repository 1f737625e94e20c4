use Rattle.std.proofs.Common.{◌≡◌, ◌∙◌, ◌+◌, ap, arith, length}
use Rattle.std.proofs.lemmas.Result.{err_from_is_err_and}
use Rattle.mh_profile.proofs.Reading.{last_taken, line_taken, line_fails, lengths}
use Rattle.mh_profile.proofs.reader.LineReader.take.Goals as goal

pub returns-in_err-reader-clause-takes : goal.returns-in_err-reader-clause-takes
returns-in_err-reader-clause-takes c =
    let p = err_from_is_err_and c.from_residual.result c.from_residual.ensures.1 in
    let (front, is, one) = c.loop-part.invariant.taken in
    rw (p.1, p.2) (line_fails c.args.self c.loop-part.reader c.args.bytes.now front c.loop-part.rest.now is one c.in-Some.part.now c.in-Some.more.now c.in-Some.ensures.found.1 c.in_err-reader.field-0.0 c.in_err-reader.ensures.takes)

pub loop-part-preserved : goal.loop-part-preserved
loop-part-preserved c =
    let (front, is, one) = c.loop-part.invariant.taken in
    let size : length c.loop-part.rest.now ≡ length c.in-Some.part.now + 1 + length c.in-Some.more.now = ap length c.in-Some.ensures.found.1 ∙ lengths c.in-Some.part.now c.in-Some.more.now in
    record {
      begun = c.in_ok-reader.ensures.begun;
      counted = omega (arith, c.in_ok-reader.ensures.counts, c.loop-part.invariant.counted, size);
      taken = line_taken c.args.self c.loop-part.reader c.args.bytes.now front c.loop-part.rest.now is one c.in-Some.part.now c.in-Some.more.now c.in-Some.ensures.found.1 c.in_ok-reader.reader c.in_ok-reader.ensures.takes;
    }

pub returns-clause-takes : goal.returns-clause-takes
returns-clause-takes c =
    let (front, is, one) = c.loop-part.invariant.taken in
    last_taken c.args.self c.loop-part.reader c.args.bytes.now front _ is one c.with_part.result c.with_part.ensures.takes
