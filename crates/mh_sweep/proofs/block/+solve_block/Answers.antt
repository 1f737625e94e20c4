use Rattle.std.proofs.Common.{◌≡◌, ◌∙◌, ◌<◌, ℕ, List, ap, sym, arith, length}
use Rattle.std.proofs.lemmas.Bool.{eqb-true}
use Rattle.mh_network.specs.Selection.{member}
use Rattle.mh_network.specs.Laws.Members.{all_members}
use Rattle.mh_sweep.proofs.Spans.{AreHalves, IsWritten, between_two, on_ok, others_two, solved_none, solved_one, solved_two}
use Rattle.mh_sweep.proofs.block.+solve_block.Goals as goal

pub returns-then-is_empty-clause-solved : goal.returns-then-is_empty-clause-solved
returns-then-is_empty-clause-solved t c =
    let P = c.args.swept.now.problem.now in
    let none : length c.args.part.now.links ≡ 0 = ap (λ (xs : List ℕ). length xs) (sym c.as_slice-links.ensures.value) ∙ eqb-true (length c.as_slice-links.result.now) 0 (sym c.if-is_empty.ensures) in
    solved_none P (c.blocks_join.ensures.solve P) c.args.span.first c.args.span.last c.args.part.now _ none

pub write_all-requires : goal.write_all-requires
write_all-requires t c =
    record { inside = rw (c.as_slice-links.ensures.value, c.requires.links) (all_members (λ j. j < length c.args.swept.now.problem.now.links) c.args.part.now.links c.requires.open.2.block.links_in) }

pub returns-then-span-eq1-clause-solved : goal.returns-then-span-eq1-clause-solved
returns-then-span-eq1-clause-solved t c =
    let P = c.args.swept.now.problem.now in
    solved_one P (c.blocks_join.ensures.solve P) c.args.span.first c.args.span.last c.args.part.now _ (omega (arith, c.if-span-eq1.true, c.requires.span))
    (λ j e. c.write_all.ensures.written j (ap (λ (xs : List ℕ). member xs j) c.as_slice-links.ensures.value ∙ e))

pub solve_block-requires : goal.solve_block-requires
solve_block-requires t c =
    let open_block = c.requires.open in
    let halves = c.in_ok-upper.ensures.halves c.args.span.first c.args.span.last open_block.0 open_block.1 (omega (arith, c.middle-middle.ensures.above)) (omega (arith, c.middle-middle.ensures.below)) open_block.2 in (
      omega (arith, c.decreases, c.middle-middle.ensures.above, c.middle-middle.ensures.below),
      (c.middle-middle.ensures.below, ((halves.0, open_block.1, halves.1), (c.requires.gains, (c.requires.costs, (c.requires.links, c.in_ok-upper.ensures.room ∙ c.requires.points))))),
    )

pub solve_block-requires-2 : goal.solve_block-requires-2
solve_block-requires-2 t c =
    let open_block = c.requires.open in
    let halves = c.in_ok-upper.ensures.halves c.args.span.first c.args.span.last open_block.0 open_block.1 (omega (arith, c.middle-middle.ensures.above)) (omega (arith, c.middle-middle.ensures.below)) open_block.2 in (
      omega (arith, c.decreases, c.middle-middle.ensures.above, c.middle-middle.ensures.below),
      (c.middle-middle.ensures.above, ((open_block.0, halves.0, halves.2), (c.requires.gains, ((λ k l. c.requires.costs k (omega (arith, l, c.middle-middle.ensures.below))), (c.in_ok-solve_block.ensures.links ∙ c.requires.links, c.in_ok-solve_block.ensures.points ∙ (c.in_ok-upper.ensures.room ∙ c.requires.points)))))),
    )

pub returns-clause-between : goal.returns-clause-between
returns-clause-between t c =
    let P = c.args.swept.now.problem.now in
    let k = c.middle-middle.result in
    let halves : AreHalves P c.args.span.first k c.args.span.last c.args.part.now c.in_ok-upper.upper c.in_ok-upper.lower =
    record { between = λ low high. c.in_ok-upper.ensures.halves c.args.span.first c.args.span.last low high (omega (arith, c.middle-middle.ensures.above)) (omega (arith, c.middle-middle.ensures.below)) } in
    let high_half : IsWritten P k c.args.span.last c.in_ok-upper.upper c.args.until.now c.solve_block.new.until =
    record { between = c.in_ok-solve_block.ensures.between; others = c.in_ok-solve_block.ensures.others; solved = c.in_ok-solve_block.ensures.solved } in
    on_ok c.solve_block-2.result
    (λ between others solved. between_two P (c.blocks_join.ensures.solve P) c.args.span.first k c.args.span.last c.middle-middle.ensures.above c.middle-middle.ensures.below c.args.part.now c.in_ok-upper.upper c.in_ok-upper.lower halves c.args.until.now c.solve_block.new.until c.solve_block-2.new.until high_half record { between = between; others = others; solved = solved } c.requires.open.0 c.requires.open.1 c.requires.open.2)
    c.solve_block-2.ensures.between c.solve_block-2.ensures.others c.solve_block-2.ensures.solved

pub returns-clause-others : goal.returns-clause-others
returns-clause-others t c =
    let P = c.args.swept.now.problem.now in
    let k = c.middle-middle.result in
    let halves : AreHalves P c.args.span.first k c.args.span.last c.args.part.now c.in_ok-upper.upper c.in_ok-upper.lower =
    record { between = λ low high. c.in_ok-upper.ensures.halves c.args.span.first c.args.span.last low high (omega (arith, c.middle-middle.ensures.above)) (omega (arith, c.middle-middle.ensures.below)) } in
    let high_half : IsWritten P k c.args.span.last c.in_ok-upper.upper c.args.until.now c.solve_block.new.until =
    record { between = c.in_ok-solve_block.ensures.between; others = c.in_ok-solve_block.ensures.others; solved = c.in_ok-solve_block.ensures.solved } in
    on_ok c.solve_block-2.result
    (λ between others solved. others_two P (c.blocks_join.ensures.solve P) c.args.span.first k c.args.span.last c.middle-middle.ensures.above c.middle-middle.ensures.below c.args.part.now c.in_ok-upper.upper c.in_ok-upper.lower halves c.args.until.now c.solve_block.new.until c.solve_block-2.new.until high_half record { between = between; others = others; solved = solved } c.requires.open.0 c.requires.open.1 c.requires.open.2)
    c.solve_block-2.ensures.between c.solve_block-2.ensures.others c.solve_block-2.ensures.solved

pub returns-clause-solved : goal.returns-clause-solved
returns-clause-solved t c =
    let P = c.args.swept.now.problem.now in
    let k = c.middle-middle.result in
    let halves : AreHalves P c.args.span.first k c.args.span.last c.args.part.now c.in_ok-upper.upper c.in_ok-upper.lower =
    record { between = λ low high. c.in_ok-upper.ensures.halves c.args.span.first c.args.span.last low high (omega (arith, c.middle-middle.ensures.above)) (omega (arith, c.middle-middle.ensures.below)) } in
    let high_half : IsWritten P k c.args.span.last c.in_ok-upper.upper c.args.until.now c.solve_block.new.until =
    record { between = c.in_ok-solve_block.ensures.between; others = c.in_ok-solve_block.ensures.others; solved = c.in_ok-solve_block.ensures.solved } in
    on_ok c.solve_block-2.result
    (λ between others solved. solved_two P (c.blocks_join.ensures.solve P) c.args.span.first k c.args.span.last c.middle-middle.ensures.above c.middle-middle.ensures.below c.args.part.now c.in_ok-upper.upper c.in_ok-upper.lower halves c.args.until.now c.solve_block.new.until c.solve_block-2.new.until high_half record { between = between; others = others; solved = solved })
    c.solve_block-2.ensures.between c.solve_block-2.ensures.others c.solve_block-2.ensures.solved
