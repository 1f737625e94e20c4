use Rattle.std.proofs.Common.{◌≡◌, ◌<◌, ◌∙◌, List, ap, arith, length, slice_index_or}
use Rattle.std.proofs.lemmas.List.{get_or_default}
use Rattle.mh_ledger.specs.Ledgers.{LedgerState, at, ledger_at, no_ledger}
use Rattle.mh_site.specs.Links.{links}
use Rattle.mh_core.specs.Hits.{unflushed}
use Rattle.mh_core.specs.Legal.{MachineState}
use Rattle.mh_core.proofs.Machines.{hits_had}
use Rattle.mh_core.proofs.machine.Machine.unflushed_by.Goals as goal

pub returns-clause-value : goal.returns-clause-value
returns-clause-value c =
    let m = c.self.inside in
    let w = c.args.worker in
    let k = c.args.link in
    let l = c.index-ledgers-worker.result in
    let known : w < length m.runtime.ledgers = omega (arith, c.requires.worker, ap (λ (y : MachineState). y.setting.workers) c.self.view_is) in
    let inside : k < length (links m.runtime.book.definition) = omega (arith, c.requires.inside, ap (λ (y : MachineState). length (links y.setting.definition)) c.self.view_is) in
    let own : l ≡ ledger_at m.runtime.ledgers w =
    c.index-ledgers-worker.is ∙ (ap (λ (ls : List LedgerState). slice_index_or ls w l) c.ledgers.ensures.value ∙ get_or_default m.runtime.ledgers w l no_ledger known) in
    c.unflushed.ensures.value
    ∙ (ap (λ (x : LedgerState). at x.unflushed k) own
    ∙ (hits_had m.runtime m.history c.self.invariant w k known inside ∙ ap (λ (y : MachineState). unflushed y.setting.definition y.history w k) c.self.view_is))
