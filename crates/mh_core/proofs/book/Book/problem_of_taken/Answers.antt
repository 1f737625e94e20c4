use Rattle.std.proofs.Common.{◌≡◌, IfOk, refl, subst, arith}
use Rattle.mh_network.specs.Problems.{ProblemData}
use Rattle.mh_core.specs.Books.{book_state}
use Rattle.mh_core.proofs.Standing.{read_makes, read_problem, snapshots_now}
use Rattle.mh_core.proofs.book.Book.problem_of_taken.Goals as goal

pub index-kept-requires : goal.index-kept-requires
index-kept-requires c =
    let count = snapshots_now (book_state c.self.inside) c.args.self.now c.self.inside.snapshots.items c.self.invariant c.self.view_is refl in
    omega (arith, c.requires.taken.0, c.requires.taken.1, c.self.inside.snapshots.ok.0, count)

pub make_problem-requires : goal.make_problem-requires
make_problem-requires c =
    let makes = read_makes (book_state c.self.inside) c.args.self.now c.self.inside.snapshots.items c.args.snapshot c.totals.result.now c.valid.result.now record {
      book = c.self.invariant;
      seen = c.self.view_is;
      snapshots = refl;
      taken = c.requires.taken;
      snapshot = c.index-kept.result.now;
      which = c.index-kept.ensures;
      numbers = c.totals.ensures.value;
      points = c.valid.ensures.value;
    } in
    record { lawful = c.self.invariant.definition; links = makes.links; few = makes.few; gains = makes.gains }

pub returns-clause-value : goal.returns-clause-value
returns-clause-value c =
    let problem = read_problem (book_state c.self.inside) c.args.self.now c.self.inside.snapshots.items c.args.snapshot c.totals.result.now c.valid.result.now record {
      book = c.self.invariant;
      seen = c.self.view_is;
      snapshots = refl;
      taken = c.requires.taken;
      snapshot = c.index-kept.result.now;
      which = c.index-kept.ensures;
      numbers = c.totals.ensures.value;
      points = c.valid.ensures.value;
    } in
    subst (λ (q : ProblemData). IfOk c.make_problem.result (λ p. p ≡ q)) problem c.make_problem.ensures.value
