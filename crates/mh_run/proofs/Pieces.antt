-- The routines of pieces, and how much lower the piece is that goes on.
use Rattle.std.proofs.Common.{◌≡◌, ℕ, ◌+◌, sym, ap, ◌∙◌, Result, Ok, Err, IfOk, IfErr, Vec}
use Rattle.std.specs.Arc.{arc_value}
use Rattle.std.specs.declared.alloc.Global.{Global}
use Rattle.std.specs.declared.sync.Arc.{Arc}
use Rattle.mh_code.specs.PieceOf.{piece_step, entry_step, routine_of}
use Rattle.mh_code.specs.Routine.{Routine, operand, operation, invocation, give, keep}
use Rattle.mh_code.specs.declared.code.Code.{Code}
use Rattle.mh_code.specs.declared.code.Piece.{Piece}
use Rattle.mh_code.specs.declared.code.Piece.TheFolds.{fold-roll-Piece}
use Rattle.mh_code.specs.declared.code.Piece.TheOpen as open_piece
use Rattle.mh_code.specs.declared.code.Piece.TheVariants.{Apply, rolls-Apply, Put, rolls-Put, Let, rolls-Let, Call, rolls-Call, Forward, rolls-Forward, Go, rolls-Go}
use Rattle.mh_code.specs.Height.{code_height, height, height_step, entry_height}
use Rattle.mh_tree.specs.Prepared.{leading_arguments}
use Rattle.mh_tree.specs.declared.operand.Operand.{Operand}
use Rattle.mh_type.specs.declared.operation.Op.{Op}

pub routine_of_put : (o : Operand) (i : ℕ) (then : Arc Piece Global) (s : ℕ) → routine_of (Put o i then s) ≡ keep s (operand o) i (routine_of (arc_value then))
routine_of_put o i then s = ap routine_of (sym (rolls-Put o i then s)) ∙ fold-roll-Piece Routine Routine piece_step entry_step (open_piece.Put o i then s)

pub routine_of_let : (op : Op) (x y : Operand) (i : ℕ) (then : Arc Piece Global) (s : ℕ) → routine_of (Let op x y i then s) ≡ keep s (operation op x y) i (routine_of (arc_value then))
routine_of_let op x y i then s = ap routine_of (sym (rolls-Let op x y i then s)) ∙ fold-roll-Piece Routine Routine piece_step entry_step (open_piece.Let op x y i then s)

pub routine_of_call : (site : ℕ) (os : Vec Operand Global) (i : ℕ) (then : Arc Piece Global) (s : ℕ) → routine_of (Call site os i then s) ≡ keep s (invocation site os.items) i (routine_of (arc_value then))
routine_of_call site os i then s = ap routine_of (sym (rolls-Call site os i then s)) ∙ fold-roll-Piece Routine Routine piece_step entry_step (open_piece.Call site os i then s)

pub routine_of_apply : (op : Op) (x y : Operand) (s : ℕ) → routine_of (Apply op x y s) ≡ give s (operation op x y)
routine_of_apply op x y s = ap routine_of (sym (rolls-Apply op x y s)) ∙ fold-roll-Piece Routine Routine piece_step entry_step (open_piece.Apply op x y s)

pub routine_of_forward : (site count s : ℕ) → routine_of (Forward site count s) ≡ give s (invocation site (leading_arguments count))
routine_of_forward site count s = ap routine_of (sym (rolls-Forward site count s)) ∙ fold-roll-Piece Routine Routine piece_step entry_step (open_piece.Forward site count s)

-- what holds of a result's value
pub if_ok : {A E : Type 0} (r : Result A E) (P Q : A → Type 0) → ((x : A) → P x → Q x) → IfOk r P → IfOk r Q
if_ok (Ok x) P Q k h = k x h
if_ok (Err e) P Q k h = h

-- what holds of a result's fault, by two facts
pub if_err : {A E : Type 0} (r : Result A E) (P Q R : E → Type 0) → ((x : E) → P x → Q x → R x) → IfErr r P → IfErr r Q → IfErr r R
if_err (Ok x) P Q R k h g = h
if_err (Err e) P Q R k h g = k e h g

pub err_given : {A E : Type 0} (r : Result A E) (X : Type 0) (P : E → Type 0) → (X → IfErr r P) → IfErr r (λ e. X → P e)
err_given (Ok x) X P h = tt
err_given (Err e) X P h = h

pub lower_go : (code : Arc Code Global) (s : ℕ) → height (Go code s) ≡ 1 + code_height (arc_value code)
lower_go code s = ap height (sym (rolls-Go code s)) ∙ fold-roll-Piece ℕ ℕ height_step entry_height (open_piece.Go code s)
