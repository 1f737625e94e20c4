use Rattle.mh_json.proofs.SitesInOrder.{misfit_is_told}
use Rattle.mh_json.proofs.json.script.define.Goals as goal

pub returns-in-Err : goal.returns-in-Err
returns-in-Err c = record {
  value = misfit_is_told c.args.version c.args.points c.args.sites c.in-Err.misfit c.misread_of_misfit.result c.in-Err.ensures.misfit c.misread_of_misfit.ensures.value;
}
