use Rattle.std.proofs.Common.{◌≤◌, ◌++◌, [], length, take, sym, rules, arith}
use Rattle.std.proofs.KnownBytes.{Consumes-kept, Consumes-nil, Consumes-trans}
use Rattle.std.proofs.lemmas.Grind.{common_steps}
use Rattle.mh_profile.proofs.Streaming.{few_lost, more_counted, more_taken}
use Rattle.mh_profile.specs.Limits.{most_at_once}
use Rattle.mh_profile.proofs.streams.read_profile.Goals as goal

pub chunks-init : goal.chunks-init
chunks-init g c =
    record {
      kept = search rules;
      reading = search rules;
      taken = ([], Consumes-nil _, λ rest. sym (c.new-lines.ensures.value rest));
      counted = ([], Consumes-nil _, sym c.new-lines.ensures.none);
    }

pub chunks-preserved : goal.chunks-preserved
chunks-preserved g c =
    let (front, read, taken) = c.chunks.invariant.taken in
    let (begun, begun_read, count) = c.chunks.invariant.counted in
    record {
      kept = search rules;
      reading = search rules;
      taken = (front ++ _, Consumes-trans _ _ _ _ _ read c.in_ok-n.ensures.bytes.0, more_taken front _ c.chunks.lines c.in_ok-lines.lines taken c.in_ok-lines.ensures.takes);
      counted = (begun ++ _, Consumes-trans _ _ _ _ _ begun_read c.in_ok-n.ensures.bytes.0, more_counted begun _ c.chunks.lines c.in_ok-lines.lines count c.in_ok-lines.ensures.counts);
    }

pub returns-in_err-n-clause-most : goal.returns-in_err-n-clause-most
returns-in_err-n-clause-most g c =
    let (front, read, count) = c.chunks.invariant.counted in
    let nothing = Consumes-kept _ _ _ [] (Consumes-nil _) c.in_err-n.ensures.bytes in
    few_lost _ _ _ front [] c.chunks.lines c.chunks.invariant.reading count read nothing (omega arith)

pub returns-then-n-eq0-clause-most : goal.returns-then-n-eq0-clause-most
returns-then-n-eq0-clause-most g c =
    let (front, read, count) = c.chunks.invariant.counted in
    let few : length (take c.in_ok-n.n c.read.new.buffer) ≤ most_at_once = grind (arith, common_steps) in
    few_lost _ _ _ front _ c.chunks.lines c.chunks.invariant.reading count read c.in_ok-n.ensures.bytes.0 few

pub returns-in_err-lines-clause-most : goal.returns-in_err-lines-clause-most
returns-in_err-lines-clause-most g c =
    let (front, read, count) = c.chunks.invariant.counted in
    let few : length (take c.in_ok-n.n c.read.new.buffer) ≤ most_at_once = grind (arith, common_steps) in
    few_lost _ _ _ front _ c.chunks.lines c.chunks.invariant.reading count read c.in_ok-n.ensures.bytes.0 few
