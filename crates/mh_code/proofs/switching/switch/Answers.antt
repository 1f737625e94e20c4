use Rattle.std.proofs.Common.{rules, ◌≡◌, ◌++◌, ap, sym, ◌∙◌, subst, length, IfOk}
use Rattle.std.proofs.lemmas.List.{length-map}
use Rattle.std.specs.Arc.{arc_value}
use Rattle.std.specs.declared.alloc.Global.{Global}
use Rattle.std.specs.declared.sync.Arc.{Arc}
use Rattle.mh_code.proofs.Chains.{chain_more}
use Rattle.mh_code.proofs.switching.switch.Goals as goal
use Rattle.mh_code.specs.Laws.Switches.{routine_of_switch}
use Rattle.mh_code.specs.PieceOf.{chain, routine_of, routines}
use Rattle.mh_code.specs.Routine.{Routine}
use Rattle.mh_code.specs.declared.code.Piece.{Piece}

pub returns-in_ok-owner-in-Switch : goal.returns-in_ok-owner-in-Switch
returns-in_ok-owner-in-Switch c =
    let p = c.args.place in
    let all = c.in_ok-chain-in-Switch.chain in
    let old = c.args.chain in
    let rows = arc_value c.in-Switch.index in
    let further = routines c.in-Switch.targets.items in
    let otherwise = arc_value c.in-Switch.otherwise in
    let index : all.index ≡ old.index ++ rows = search rules in
    let targets : routines all.targets.items ≡ routines old.targets.items ++ further = search rules in
    let owned : arc_value c.in_ok-owner-in-Switch.field-0 ≡ otherwise = search rules in
    let other : c.in-Switch.other ≡ p = search rules in
    let behind : routine_of (arc_value c.args.behind.now) ≡ chain p rows further (routine_of otherwise) =
    ap routine_of (sym c.deref.ensures ∙ c.in-Switch.is)
    ∙ routine_of_switch c.in-Switch.other c.in-Switch.index c.in-Switch.targets c.in-Switch.otherwise
    ∙ ap (λ q. chain q rows further (routine_of otherwise)) other in
    let even : length old.index ≡ length (routines old.targets.items) = c.requires.even ∙ sym (length-map old.targets.items (λ (t : Arc Piece Global). routine_of (arc_value t))) in
    record {
      value = subst (λ (r : Routine). IfOk c.finish.result (λ q. routine_of q ≡ r))
          ((λ i. chain p (index i) (targets i) (routine_of (owned i)))
          ∙ chain_more p old.index rows (routines old.targets.items) further (routine_of otherwise) even
          ∙ ap (chain p old.index (routines old.targets.items)) (sym behind))
          c.finish.ensures.value;
    }
