use Rattle.std.proofs.lemmas.Result.{err_from_is_err_and}
use Rattle.mh_json.proofs.SitesInOrder.{site_more, site_stops}
use Rattle.mh_json.proofs.json.sites.read_sites.Goals as goal

pub returns-in_err-read : goal.returns-in_err-read
returns-in_err-read c =
    let p = err_from_is_err_and c.from_residual-in_err-read.result c.from_residual-in_err-read.ensures.1 in
    let gives = c.in_err-read.ensures.value _ c.read_site.ensures.value in
    record {
      value = rw (p.1, p.2, c.in_ok-sites.ensures.value, ← c.new-sited.ensures.value) (site_stops c.args.version c.loop-i.sited c.in_ok-sites.sites.now c.loop-i.i c.index-sites-i.result c.in_err-read.field-0.0 _ c.loop-i-test.true c.index-sites-i.is gives c.loop-i.invariant);
    }

pub loop-i-preserved : goal.loop-i-preserved
loop-i-preserved c =
    let gives = c.in_ok-read.ensures.value _ c.read_site.ensures.value in
    rw c.in_ok-add.ensures.value (site_more c.args.version c.loop-i.sited c.in_ok-sites.sites.now c.loop-i.i c.index-sites-i.result c.in_ok-read.read _ c.loop-i-test.true c.index-sites-i.is gives c.loop-i.invariant)
