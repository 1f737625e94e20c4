use Rattle.std.proofs.Common.{◌≡◌, ◌∷◌, [], List, ap, ◌∙◌, arith, length}
use Rattle.std.specs.Prelude.{◌++◌}
use Rattle.std.specs.Prelude.{Result, Ok}
use Rattle.mh_base.specs.declared.memory.NoMemory.{NoMemory}
use Rattle.mh_flow.specs.FlowData.{FlowData}
use Rattle.mh_plan.proofs.Shared.{full_alone, solved_alone}
use Rattle.mh_plan.proofs.runs.solve_alone.Goals as goal

pub returns-clause-shared : goal.returns-clause-shared
returns-clause-shared g c =
    let only : c.push_reserved.new.self.items ≡ Ok c.in_ok-all.all ∷ [] = c.push_reserved.ensures.items ∙ ap (λ (xs : List (Result (List FlowData) NoMemory)). xs ++ Ok c.in_ok-all.all ∷ []) c.in_ok-shares.ensures.items in
    record {
      workers = omega arith;
      count = ap length only;
      full = full_alone c.args.problem.now c.args.parts.now _ c.in_ok-all.all only c.in_ok-all.ensures.share;
    }

pub returns-clause-solved : goal.returns-clause-solved
returns-clause-solved g c =
    let only : c.push_reserved.new.self.items ≡ Ok c.in_ok-all.all ∷ [] = c.push_reserved.ensures.items ∙ ap (λ (xs : List (Result (List FlowData) NoMemory)). xs ++ Ok c.in_ok-all.all ∷ []) c.in_ok-shares.ensures.items in
    solved_alone c.args.problem.now c.args.parts.now _ c.in_ok-all.all only c.in_ok-all.ensures.share
