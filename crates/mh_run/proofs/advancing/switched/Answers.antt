use Rattle.std.proofs.Common.{rules, ◌≡◌, ◌<◌, ap, length, arith}
use Rattle.std.specs.Prelude.{get_or}
use Rattle.std.specs.Arc.{arc_value}
use Rattle.std.specs.declared.alloc.Global.{Global}
use Rattle.std.specs.declared.sync.Arc.{Arc}
use Rattle.mh_code.specs.Height.{height}
use Rattle.mh_code.specs.declared.code.Piece.{Piece}
use Rattle.mh_run.proofs.Switches.{highest_at}
use Rattle.mh_run.proofs.advancing.switched.Goals as goal

pub returns-in-Some-clause-lower : goal.returns-in-Some-clause-lower
returns-in-Some-clause-lower c =
    let ts = c.args.targets.now in
    let row = c.found-row.result.0 in
    let target = c.in-Some.target.now in
    let inside : row < length ts = search rules in
    let is : target ≡ get_or ts row target = search rules in
    omega (arith, ap height c.deref.ensures, ap (λ (t : Arc Piece Global). height (arc_value t)) is, highest_at ts row target inside)
