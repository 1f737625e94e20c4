use Rattle.std.proofs.Common.{◌∙◌, sym, refl, []}
use Rattle.std.specs.Prelude.{Ok, All, IsOk}
use Rattle.mh_plan.proofs.Shared.{solved_at}
use Rattle.mh_plan.proofs.runs.solve_parts.Goals as goal

pub returns-clause-solved : goal.returns-clause-solved
returns-clause-solved g c =
    let all : All (λ share. IsOk share) c.in_ok-shares.shares.items = rw c.deref.ensures.value at (c.if-not-are_ok.ensures.value.0 refl) in
    solved_at _ _ c.args.workers c.in_ok-shares.shares.items c.requires.workers (sym c.in_ok-shares.shares.ok.0 ∙ c.in_ok-shares.ensures.len) all
    (λ w l. (c.in_ok-shares.ensures.each w (Ok []) l).1.met)
