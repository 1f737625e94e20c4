-- The routine of a guard and of a point is made of those of their parts.
use Rattle.std.proofs.Common.{◌≡◌, ℕ, ap, sym, ◌∙◌, subst, length, Ok}
use Rattle.std.specs.Prelude.{map}
use Rattle.std.specs.List.{range_with_len}
use Rattle.mh_base.specs.Laws.{made_is}
use Rattle.mh_type.specs.declared.kind.Kind.TheVariants as kind
use Rattle.mh_type.specs.Signature.{Signature}
use Rattle.mh_tree.specs.Code.{branch, point as code_point}
use Rattle.mh_code.specs.Routine.{Routine, answer, truth, point as point_routine}
use Rattle.mh_code.specs.PieceOf.{piece_step, entry_step, routine_of}
use Rattle.mh_code.specs.RoutineOf.{routine, handle_routine}
use Rattle.mh_code.specs.declared.code.Piece.{Piece}
use Rattle.mh_code.specs.declared.code.Piece.TheFolds.{fold-roll-Piece}
use Rattle.mh_code.specs.declared.code.Piece.TheOpen as open_piece
use Rattle.mh_code.specs.declared.code.Piece.TheVariants.{Point, rolls-Point}
use Rattle.std.specs.Arc.{arc_value}
use Rattle.std.specs.declared.alloc.Global.{Global}
use Rattle.std.specs.declared.sync.Arc.{Arc}
use Rattle.mh_tree.specs.Constructors.{guarded, guard_made, pointed, point_made}
use Rattle.mh_tree.specs.Handle.{TypedTree, IsSound}
use Rattle.mh_tree.specs.Prepared.{handle_code, prepared}
use Rattle.mh_tree.specs.Tree.{Tree, guard, point}
use Rattle.mh_tree.specs.Typing.{IsTyped}
use Rattle.mh_tree.specs.declared.operand.Operand.TheVariants.{Argument}
use Rattle.mh_code.proofs.LeadingOperands.{prepared_leading}
use Rattle.mh_tree.specs.Laws.OperandReads.{shorter}
use Rattle.mh_tree.specs.Laws.Types.{type_computed}

-- what is made, where the tests passed
guard_is : (c x y h : TypedTree) → guard_made c x y ≡ Ok h → guarded c x y ≡ h
guard_is c x y h is = made_is _ _ _ is

point_is : (p : ℕ) (x y h : TypedTree) → point_made p x y ≡ Ok h → pointed p x y ≡ h
point_is p x y h is = made_is _ _ _ is

-- the code of a tree in a call of any type with as many parameters
in_call : (t : Tree) (m n : Signature) → m ≡ n → prepared t (map (λ i. Argument i) (range_with_len 0 (length m.parameters))) 0 0 ≡ prepared t (map (λ i. Argument i) (range_with_len 0 (length n.parameters))) 0 0
in_call t m n same = ap (λ (k : Signature). prepared t (map (λ i. Argument i) (range_with_len 0 (length k.parameters))) 0 0) same

guarded_code : (c x y : TypedTree) → IsSound c.tree c.signature → IsSound x.tree x.signature → IsSound y.tree y.signature → IsTyped (guard c.tree x.tree y.tree) x.signature → branch 1 (handle_code c) (handle_code x) (handle_code y) ≡ handle_code (guarded c x y)
guarded_code c x y sc sx sy (ks, test, begins, one, two) =
    let few = shorter ks x.signature.parameters begins in
    let types : c.signature ≡ record { ret = kind.Boolean; parameters = ks } = sym (type_computed c.tree c.signature sc.typed) ∙ type_computed c.tree _ test in
    let others : y.signature ≡ x.signature = sym (type_computed y.tree y.signature sy.typed) ∙ type_computed y.tree x.signature two in
    let leading = prepared_leading c.tree _ (length x.signature.parameters) test few in
    λ i. branch 1 ((in_call c.tree _ _ types ∙ sym leading) i) (handle_code x) (in_call y.tree _ _ others i)

pub guard_has_routine : (c x y h : TypedTree) (k : Routine) → guard_made c x y ≡ Ok h → IsSound c.tree c.signature → IsSound x.tree x.signature → IsSound y.tree y.signature → IsSound h.tree h.signature → k ≡ routine (handle_code c) 0 1 (truth (handle_routine x) (handle_routine y)) → k ≡ handle_routine h
guard_has_routine c x y h k is sc sx sy sh made =
    let same = guard_is c x y h is in
    let P : TypedTree → Type 0 = λ g. IsTyped g.tree g.signature in
    made ∙ ap (λ code. routine code 0 0 answer) (guarded_code c x y sc sx sy (subst P (sym same) sh.typed) ∙ ap handle_code same)

pointed_code : (p : ℕ) (x y : TypedTree) → IsSound y.tree y.signature → IsTyped (point p x.tree y.tree) x.signature → code_point 1 p (handle_code x) (handle_code y) ≡ handle_code (pointed p x y)
pointed_code p x y sy (one, two) =
    let others : y.signature ≡ x.signature = sym (type_computed y.tree y.signature sy.typed) ∙ type_computed y.tree x.signature two in
    λ i. code_point 1 p (handle_code x) (in_call y.tree _ _ others i)

pub point_has_routine : (p : ℕ) (x y h : TypedTree) (k : Routine) → point_made p x y ≡ Ok h → IsSound y.tree y.signature → IsSound h.tree h.signature → k ≡ point_routine 1 p (handle_routine x) (handle_routine y) → k ≡ handle_routine h
point_has_routine p x y h k is sy sh made =
    let same = point_is p x y h is in
    let P : TypedTree → Type 0 = λ g. IsTyped g.tree g.signature in
    made ∙ ap (λ code. routine code 0 0 answer) (pointed_code p x y sy (subst P (sym same) sh.typed) ∙ ap handle_code same)

pub routine_of_point : (p : ℕ) (x y : Arc Piece Global) (s : ℕ) → routine_of (Point p x y s) ≡ point_routine s p (routine_of (arc_value x)) (routine_of (arc_value y))
routine_of_point p x y s = ap routine_of (sym (rolls-Point p x y s)) ∙ fold-roll-Piece Routine Routine piece_step entry_step (open_piece.Point p x y s)
