use Rattle.std.proofs.Common.{rules, ◌≡◌, ◌++◌, ◌∷◌, [], subst, sym, ◌∙◌, ap, refl}
use Rattle.mh_code.proofs.Chains.{routines_more}
use Rattle.mh_code.proofs.switching.append.Goals as goal
use Rattle.mh_code.specs.PieceOf.{routines}

pub loop-piece-preserved : goal.loop-piece-preserved
loop-piece-preserved c =
    let items : c.push.new.self.items ≡ c.loop-piece.list.items ++ c.in_ok-owner.field-0 ∷ [] = search rules in
    ap routines items
    ∙ routines_more c.loop-piece.list.items c.args.pieces.now (routines c.args.list.now.items) c.loop-piece.piece-index c.piece-item.result c.in_ok-owner.field-0 c.loop-piece-test.true (search rules) c.loop-piece.invariant
