use Rattle.std.proofs.Common.{rules, ◌≡◌, ◌∙◌, ap, sym, length}
use Rattle.mh_code.proofs.Entries.{steps_all}
use Rattle.mh_code.proofs.index.Index.find.Goals as goal
use Rattle.mh_code.specs.Rows.{row_of, steps_to}
use Rattle.mh_type.specs.declared.value.Value.TheVariants.{Int}

pub returns-in-Err-clause-steps : goal.returns-in-Err-clause-steps
returns-in-Err-clause-steps c =
    let rows = c.self.inside.rows.items in
    let none : row_of (Int c.args.number) rows ≡ length rows = search rules in
    c.self.invariant.1 ∙ sym (steps_all (Int c.args.number) rows none) ∙ ap (steps_to (Int c.args.number)) c.self.view_is
