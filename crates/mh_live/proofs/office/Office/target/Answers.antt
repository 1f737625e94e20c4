use Rattle.mh_live.proofs.office.Office.target.Goals as goal

pub returns : goal.returns
returns g c =
    let told = c.change.ensures in
    record {
      changes = record { office = told.office; accepted = told.accepted; was_open = told.open; totals = told.totals; refused = told.refused; kept = told.kept; closed = told.closed };
    }
