-- The routines of pieces.
use Rattle.std.proofs.Common.{◌≡◌, ℕ, List, [], ◌∷◌, Vec, map, refl, sym, ap, ◌∙◌}
use Rattle.std.specs.Prelude.{ℤ}
use Rattle.std.specs.Arc.{arc_value}
use Rattle.std.specs.declared.alloc.Global.{Global}
use Rattle.std.specs.declared.sync.Arc.{Arc}
use Rattle.mh_code.specs.PieceOf.{key_source, piece_step, entry_step, routine_of, routine_of_code}
use Rattle.mh_code.specs.Routine.{Routine, operand, operation, give, keep, pick, point}
use Rattle.mh_code.specs.RoutineOf.{after_steps}
use Rattle.mh_code.specs.declared.code.Code.{Code}
use Rattle.mh_code.specs.declared.code.KeyTest.{KeyTest}
use Rattle.mh_code.specs.declared.code.Piece.{Piece}
use Rattle.mh_code.specs.declared.code.Piece.TheFolds.{fold-roll-Piece}
use Rattle.mh_code.specs.declared.code.Piece.TheOpen as open_piece
use Rattle.mh_code.specs.declared.code.Piece.TheVariants.{Leaf, rolls-Leaf, Apply, rolls-Apply, Put, rolls-Put, Let, rolls-Let, Truth, rolls-Truth, Test, rolls-Test, Case, rolls-Case, Point, rolls-Point, Go, rolls-Go}
use Rattle.mh_tree.specs.declared.operand.Operand.{Operand}
use Rattle.mh_type.specs.declared.operation.Op.{Op}
use Rattle.mh_words.specs.Routine.{WordRoutine, give as give_word, keep as keep_word, pick as pick_word, point as point_word}
use Rattle.mh_words.specs.RoutineOf.{constants, table, word_step, word_routine, word_routines}
use Rattle.mh_words.specs.declared.piece.WordPiece.{WordPiece}
use Rattle.mh_words.specs.declared.piece.WordPiece.TheFolds.{fold-roll-WordPiece}
use Rattle.mh_words.specs.declared.piece.WordPiece.TheOpen as open_word
use Rattle.mh_words.specs.declared.piece.WordPiece.TheVariants as word
use Rattle.mh_words.specs.declared.constant.Constant.{Constant as ConstantAnswer}
use Rattle.mh_words.specs.declared.slot.Slot.{Slot}
use Rattle.mh_words.specs.declared.word_source.WordSource.{WordSource}
use Rattle.mh_words.specs.declared.word_source.WordSource.TheVariants.{Constant}
use Rattle.mh_words.specs.declared.word_test.WordTest.{WordTest}
use Rattle.mh_words.specs.declared.word_test.WordTest.TheVariants.{Is}

pub of_leaf : (o : Operand) (s : ℕ) → routine_of (Leaf o s) ≡ give s (operand o)
of_leaf o s = ap routine_of (sym (rolls-Leaf o s)) ∙ fold-roll-Piece Routine Routine piece_step entry_step (open_piece.Leaf o s)

pub of_apply : (op : Op) (x y : Operand) (s : ℕ) → routine_of (Apply op x y s) ≡ give s (operation op x y)
of_apply op x y s = ap routine_of (sym (rolls-Apply op x y s)) ∙ fold-roll-Piece Routine Routine piece_step entry_step (open_piece.Apply op x y s)

pub of_put : (o : Operand) (i : ℕ) (then : Arc Piece Global) (s : ℕ) → routine_of (Put o i then s) ≡ keep s (operand o) i (routine_of (arc_value then))
of_put o i then s = ap routine_of (sym (rolls-Put o i then s)) ∙ fold-roll-Piece Routine Routine piece_step entry_step (open_piece.Put o i then s)

pub of_let : (op : Op) (x y : Operand) (i : ℕ) (then : Arc Piece Global) (s : ℕ) → routine_of (Let op x y i then s) ≡ keep s (operation op x y) i (routine_of (arc_value then))
of_let op x y i then s = ap routine_of (sym (rolls-Let op x y i then s)) ∙ fold-roll-Piece Routine Routine piece_step entry_step (open_piece.Let op x y i then s)

pub of_truth : (o : Operand) (target fallback : Arc Piece Global) (s : ℕ) → routine_of (Truth o target fallback s) ≡ pick s (operand o) (routine_of (arc_value target)) (routine_of (arc_value fallback))
of_truth o target fallback s = ap routine_of (sym (rolls-Truth o target fallback s)) ∙ fold-roll-Piece Routine Routine piece_step entry_step (open_piece.Truth o target fallback s)

pub of_test : (op : Op) (x y : Operand) (target fallback : Arc Piece Global) (s : ℕ) → routine_of (Test op x y target fallback s) ≡ pick s (operation op x y) (routine_of (arc_value target)) (routine_of (arc_value fallback))
of_test op x y target fallback s = ap routine_of (sym (rolls-Test op x y target fallback s)) ∙ fold-roll-Piece Routine Routine piece_step entry_step (open_piece.Test op x y target fallback s)

pub of_case : (t : KeyTest) (target fallback : Arc Piece Global) (s : ℕ) → routine_of (Case t target fallback s) ≡ pick s (key_source t) (routine_of (arc_value target)) (routine_of (arc_value fallback))
of_case t target fallback s = ap routine_of (sym (rolls-Case t target fallback s)) ∙ fold-roll-Piece Routine Routine piece_step entry_step (open_piece.Case t target fallback s)

pub of_point : (p : ℕ) (target fallback : Arc Piece Global) (s : ℕ) → routine_of (Point p target fallback s) ≡ point s p (routine_of (arc_value target)) (routine_of (arc_value fallback))
of_point p target fallback s = ap routine_of (sym (rolls-Point p target fallback s)) ∙ fold-roll-Piece Routine Routine piece_step entry_step (open_piece.Point p target fallback s)

pub of_go : (code : Arc Code Global) (s : ℕ) → routine_of (Go code s) ≡ after_steps s (routine_of_code (arc_value code))
of_go code s = ap routine_of (sym (rolls-Go code s)) ∙ fold-roll-Piece Routine Routine piece_step entry_step (open_piece.Go code s)

pub word_of_answer : (x : WordSource) (s : ℕ) → word_routine (word.Answer x s) ≡ give_word s x
word_of_answer x s = ap word_routine (sym (word.rolls-Answer x s)) ∙ fold-roll-WordPiece WordRoutine word_step (open_word.Answer x s)

pub word_of_let : (x : WordSource) (i : Slot) (then : Arc WordPiece Global) (s : ℕ) → word_routine (word.Let x i then s) ≡ keep_word s x i.place (word_routine (arc_value then))
word_of_let x i then s = ap word_routine (sym (word.rolls-Let x i then s)) ∙ fold-roll-WordPiece WordRoutine word_step (open_word.Let x i then s)

pub word_of_if : (t : WordTest) (target fallback : Arc WordPiece Global) → word_routine (word.If t target fallback) ≡ pick_word t (word_routine (arc_value target)) (word_routine (arc_value fallback))
word_of_if t target fallback = ap word_routine (sym (word.rolls-If t target fallback)) ∙ fold-roll-WordPiece WordRoutine word_step (open_word.If t target fallback)

pub word_of_told : (i : Slot) (w n : ℤ) (s : ℕ) (fallback : Arc WordPiece Global) → word_routine (word.Told i w n s fallback) ≡ pick_word (Is i w) (give_word s (Constant n)) (word_routine (arc_value fallback))
word_of_told i w n s fallback = ap word_routine (sym (word.rolls-Told i w n s fallback)) ∙ fold-roll-WordPiece WordRoutine word_step (open_word.Told i w n s fallback)

pub word_of_point : (p : ℕ) (target fallback : Arc WordPiece Global) → word_routine (word.Point p target fallback) ≡ point_word p (word_routine (arc_value target)) (word_routine (arc_value fallback))
word_of_point p target fallback = ap word_routine (sym (word.rolls-Point p target fallback)) ∙ fold-roll-WordPiece WordRoutine word_step (open_word.Point p target fallback)

-- two maps, one after the other, that agree with a third at each element
map_twice : {A B C : Type 0} (f : A → B) (g : B → C) (h : A → C) → ((x : A) → g (f x) ≡ h x) → (xs : List A) → map g (map f xs) ≡ map h xs
map_twice f g h e [] = refl
map_twice f g h e (x ∷ xs) = λ i. e x i ∷ map_twice f g h e xs i

pub word_of_table : (i : Slot) (n : ℤ) (ts : Vec (Arc WordPiece Global) Global) (o : Arc WordPiece Global) → word_routine (word.Table i n ts o) ≡ table i n (word_routines ts.items) (word_routine (arc_value o))
word_of_table i n ts o =
    ap word_routine (sym (word.rolls-Table i n ts o)) ∙ fold-roll-WordPiece WordRoutine word_step (open_word.Table i n ts o)
    ∙ ap (λ ps. table i n ps (word_routine (arc_value o))) (map_twice _ _ _ (λ x. refl) ts.items)

pub word_of_answers : (i : Slot) (n : ℤ) (cs : Vec ConstantAnswer Global) (o : Arc WordPiece Global) → word_routine (word.Answers i n cs o) ≡ table i n (constants cs.items) (word_routine (arc_value o))
word_of_answers i n cs o = ap word_routine (sym (word.rolls-Answers i n cs o)) ∙ fold-roll-WordPiece WordRoutine word_step (open_word.Answers i n cs o)
