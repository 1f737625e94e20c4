use Rattle.std.proofs.Common.{◌≡◌, ◌∙◌, ◌+◌, ◌++◌, ap, inr, nat_le, false, subst, sym, List, ℕ}
use Rattle.std.specs.Prelude.{◌&&◌}
use Rattle.mh_profile.proofs.Reading.{late_part}
use Rattle.mh_profile.proofs.reader.LineReader.with_part.Goals as goal

pub returns-then-not-is_within-clause-takes : goal.returns-then-not-is_within-clause-takes
returns-then-not-is_within-clause-takes c =
    let longer = c.from_vec-line.ensures.value ∙ (c.in_ok-extend_from_slice.ensures.items ∙ ap (λ (xs : List ℕ). xs ++ c.args.part.now) c.into_vec-line.ensures.value) in
    let late = subst (λ (n : ℕ). (nat_le n 1048576 && nat_le (c.args.self.offset + n) 67108864) ≡ false) c.len.ensures.value (sym c.if-not-is_within.ensures.value) in
    inr (late_part c.args.self c.args.part.now c.from_vec-line.result c.requires.begun.whole c.requires.whole longer late)
