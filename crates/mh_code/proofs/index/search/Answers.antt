use Rattle.std.proofs.Common.{◌<◌, ◌≤◌, ◌<ℤ◌, ◌≤ℤ◌, ◌+◌, ◌-◌, ◌/◌, ℤ, pos, length, arith, rules, to_z, of_z, w32, FitsSigned, get_or, sym, subst, ◌≡◌}
use Rattle.std.proofs.lemmas.Int.{ints}
use Rattle.mh_code.proofs.Entries.{higher_all, lower_all}
use Rattle.mh_code.specs.declared.index.Entry.{Entry}
use Rattle.mh_code.proofs.index.search.Goals as goal
use Rattle.mh_code.proofs.index.search.Goals.{then-entries-middle, else-entries-middle}

-- the entry that stands for none
abbrev nothing : Entry
nothing = record { key = pos 0; row = 0; steps = 0 }

pub loop-count-preserved : goal.loop-count-preserved
loop-count-preserved c =
    let es = c.args.entries.now in
    let low = c.loop-count.low in
    let count = c.loop-count.count in
    let middle = low + count / 2 in
    let found = (get_or es middle nothing).key in
    let k = to_z w32 (of_z w32 c.args.key) in
    let fits : FitsSigned w32 found = search rules in
    let here : middle < length es = omega (arith, c.loop-count-test.true, c.loop-count.invariant.inside) in
    elim c.if-entries-middle.branch [
      | then-entries-middle w ↦
          let is = w.if-entries-middle in
          let less : found ≤ℤ k = grind (arith, ints) in
          record {
            inside = omega (arith, w.low-is, c.loop-count.invariant.inside);
            lower = λ j d below. lower_all es k middle nothing c.requires.rising here less j d (omega (arith, w.low-is, below));
            higher = λ j d above inside. c.loop-count.invariant.higher j d (omega (arith, w.low-is, above)) inside;
          }
      | else-entries-middle w ↦
          let no = w.if-entries-middle in
          let more : k <ℤ found = grind (arith, ints) in
          record {
            inside = omega (arith, w.low-is, c.loop-count.invariant.inside);
            lower = λ j d below. c.loop-count.invariant.lower j d (omega (arith, w.low-is, below));
            higher = λ j d above inside. higher_all es k middle nothing c.requires.rising more j d (omega (arith, w.low-is, above, c.loop-count-test.true)) inside;
          }
    ]
