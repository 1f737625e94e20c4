use Rattle.std.proofs.Common.{rules, ◌≡◌, ◌+◌, ◌≤◌, ◌++◌, ◌∷◌, [], ap, sym, ◌∙◌, arith, length, length-append, List, to_z, of_z, w32, FitsSigned}
use Rattle.std.proofs.lemmas.Int.{ints}
use Rattle.std.specs.Arc.{arc_value}
use Rattle.std.specs.declared.alloc.Global.{Global}
use Rattle.std.specs.declared.sync.Arc.{Arc}
use Rattle.mh_code.proofs.Chains.{gathered}
use Rattle.mh_code.proofs.switching.gather.Goals as goal
use Rattle.mh_code.specs.PieceOf.{chain, routine_of, routines}
use Rattle.mh_code.specs.declared.code.Piece.{Piece}
use Rattle.mh_code.specs.declared.index.Row.{Row}

pub loop-preserved : goal.loop-preserved
loop-preserved c =
    let now = c.in_ok-chain-in-Case.chain in
    let old = c.loop.chain in
    let row : Row = record { key = c.in-Case.test.key; steps = c.in-Case.steps } in
    let z = c.in_ok-owner-in-Case.field-0 in
    let fits : FitsSigned w32 c.in-Case.test.key = search rules in
    let same : to_z w32 (of_z w32 c.in-Case.test.key) ≡ c.in-Case.test.key = omega (arith, ints) in
    let index : now.index ≡ old.index ++ row ∷ [] = c.in_ok-chain-in-Case.ensures.index ∙ ap (λ k. old.index ++ (record { key = k; steps = c.in-Case.steps }) ∷ []) same in
    let targets : now.targets.items ≡ old.targets.items ++ z ∷ [] = search rules in
    let owned : arc_value z ≡ arc_value c.in-Case.target = search rules in
    let place : c.in-Case.test.place ≡ c.args.place = search rules in
    let o = routine_of (arc_value c.in-Case.fallback) in
    record {
      value = (λ i. chain c.args.place (index i) (routines (targets i)) o)
          ∙ gathered c.args.place old.index old.targets.items c.in-Case.test c.in-Case.target c.in-Case.fallback z c.in-Case.steps (arc_value c.loop.behind.now) c.loop.invariant.even (sym c.deref.ensures ∙ c.in-Case.is) place owned
          ∙ c.loop.invariant.value;
      few = omega (arith, ap length index, length-append old.index (row ∷ []), c.loop.invariant.few);
      even = omega (arith, ap length index, length-append old.index (row ∷ []), ap (λ (ts : List (Arc Piece Global)). length ts) targets, length-append old.targets.items (z ∷ []), c.loop.invariant.even);
    }
