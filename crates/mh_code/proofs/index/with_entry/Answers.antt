use Rattle.std.proofs.Common.{rules, ◌≡◌, ◌+◌, ◌++◌, ◌∷◌, [], Ok, Err, refl, sym, subst, arith, length, to_z, of_z, w32, FitsSigned}
use Rattle.std.proofs.lemmas.Int.{ints}
use Rattle.std.specs.List.{insert}
use Rattle.mh_code.proofs.Entries.{entries_kept, entries_put}
use Rattle.mh_code.proofs.index.with_entry.Goals as goal
use Rattle.mh_code.specs.inner.Entries.{AreEntries, IsFound}
use Rattle.mh_code.specs.declared.index.Entry.{Entry}

pub returns-in-Ok : goal.returns-in-Ok
returns-in-Ok c =
    let es = c.args.entries.items in
    let fits : FitsSigned w32 c.args.row.key = search rules in
    let same : to_z w32 (of_z w32 c.args.row.key) ≡ c.args.row.key = omega (arith, ints) in
    let found : IsFound es c.args.row.key (Ok c.in-Ok.field-0) =
    subst (λ xs. IsFound xs c.args.row.key (Ok c.in-Ok.field-0)) c.deref.ensures.value (subst (λ k. IsFound c.deref.result.now k (Ok c.in-Ok.field-0)) same c.in-Ok.ensures.found) in
    record { entries = entries_kept c.args.rows.now c.args.row es c.in-Ok.field-0 c.requires.entries found.0 found.1 }

pub returns-in_ok-map_err-in-Err : goal.returns-in_ok-map_err-in-Err
returns-in_ok-map_err-in-Err c =
    let es = c.args.entries.items in
    let fits : FitsSigned w32 c.args.row.key = search rules in
    let same : to_z w32 (of_z w32 c.args.row.key) ≡ c.args.row.key = omega (arith, ints) in
    let found : IsFound es c.args.row.key (Err c.in-Err.at) =
    subst (λ xs. IsFound xs c.args.row.key (Err c.in-Err.at)) c.deref.ensures.value (subst (λ k. IsFound c.deref.result.now k (Err c.in-Err.at)) same c.in-Err.ensures.found) in
    let e : Entry = record { key = c.args.row.key; row = length c.args.rows.now; steps = c.args.steps } in
    let items : c.insert.new.self.items ≡ insert es c.in-Err.at e = search rules in
    record {
      entries = subst (AreEntries (c.args.rows.now ++ c.args.row ∷ [])) (sym items)
          (entries_put c.args.rows.now c.args.row es c.in-Err.at e c.requires.entries found refl refl c.requires.steps);
    }
