use Rattle.std.proofs.Common.{◌≡◌, ◌∙◌, true, false, sym, subst}
use Rattle.mh_ledger.specs.Ledgers.{made}
use Rattle.mh_stress.specs.Rounds.{hits_by}
use Rattle.mh_stress.proofs.Hits.{counted_more}
use Rattle.mh_stress.proofs.rounds.make_calls.Goals as goal

pub loop-call-preserved : goal.loop-call-preserved
loop-call-preserved g c =
    let d = g.N.ListName.definition in
    let before = c.loop-call.invariant in
    let calls = c.make_call.ensures.made in
    record {
      worker = calls.worker ∙ before.worker;
      hit = λ j.
          let w = c.args.pass.now.ledger.worker in
          counted_more d c.args.calls.now w c.loop-call.call-index j c.call-item.result c.loop-call-test.true (sym c.call-item.is) (made c.args.pass.now.ledger j) (made c.loop-call.pass.ledger j) (made c.make_call.new.pass.ledger j) (before.hit j)
          (λ hit. calls.hit j (subst (λ v. hits_by d v j c.call-item.result ≡ true) (sym before.worker) hit))
          (λ none. calls.miss j (subst (λ v. hits_by d v j c.call-item.result ≡ false) (sym before.worker) none));
    }
