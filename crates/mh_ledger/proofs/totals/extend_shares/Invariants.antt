use Rattle.std.proofs.Common.{◌≡◌, map, take}
use Rattle.mh_ledger.specs.Extensions.{longer}
use Rattle.mh_ledger.proofs.Taken.{items_of}
use Rattle.mh_ledger.proofs.totals.extend_shares.Given as goal

abbrev pub invariant-loop-share : goal.invariant-loop-share
invariant-loop-share l = map items_of l.all.items ≡ map (longer l.more) (map items_of (take l.share-index l.shares))
