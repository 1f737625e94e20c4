use Rattle.std.proofs.Common.{◌≤◌, inl, inr, refl, arith}
use Rattle.std.proofs.lemmas.Bool.Decides.{nat_tests}
use Rattle.mh_core.specs.Books.{book_state}
use Rattle.mh_core.specs.Limits.{most_plans}
use Rattle.mh_core.specs.Laws.PlanTables.{plans_now}
use Rattle.mh_core.proofs.book.Book.plans_are_full.Goals as goal

pub returns-else-is_full : goal.returns-else-is_full
returns-else-is_full c =
    let b = c.args.self.now in
    let count = plans_now (book_state c.self.inside) b c.self.inside.plans.items c.self.invariant c.self.view_is refl in
    record {
      decides = (
        λ e. let many : most_plans ≤ c.len.result = grind (arith, nat_tests) in inr (omega (arith, many, c.len.ensures, c.self.inside.plans.ok.0, count)),
        λ p. elim p [
          | inl full ↦ absurd (let is = c.is_full.ensures.decides.1 full in cc)
          | inr many ↦ let past : most_plans ≤ c.len.result = omega (arith, many, c.len.ensures, c.self.inside.plans.ok.0, count) in grind (arith, nat_tests)
        ],
      );
    }
