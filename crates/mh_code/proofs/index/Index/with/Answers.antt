use Rattle.std.proofs.Common.{rules, ◌≡◌, ◌+◌, ◌<◌, ◌^◌, ◌++◌, ◌∷◌, [], ap, sym, subst, arith, length, length-append}
use Rattle.mh_code.proofs.Entries.{all_more}
use Rattle.mh_code.proofs.index.Index.with.Goals as goal
use Rattle.mh_code.specs.inner.Entries.{AreEntries}
use Rattle.mh_code.specs.Rows.{all_steps}

pub invariant_of-result : goal.invariant_of-result
invariant_of-result c =
    let rows = c.self.inside.rows.items in
    let es = c.in_ok-entries.entries.items in
    let items : c.push.new.self.items ≡ rows ++ c.args.row ∷ [] = search rules in
    let small : c.args.row.steps < 2 ^ 32 = search rules in (
      subst (λ rs. AreEntries rs es) (sym items) (subst (λ rs. AreEntries (rs ++ c.args.row ∷ []) es) c.deref.ensures.value c.in_ok-entries.ensures.entries),
      omega (arith, c.self.invariant.1, c.from.ensures, all_more rows c.args.row, ap all_steps items),
      omega (arith, c.self.invariant.2, c.from.ensures, small, ap length items, length-append rows (c.args.row ∷ [])),
    )
