-- The routine and the height of a piece that stands for a chain of tests.
use Rattle.std.proofs.Common.{◌≡◌, ℕ, ◌+◌, refl, ap, sym, ◌∙◌, List, [], ◌∷◌, Vec}
use Rattle.std.specs.Prelude.{map, max}
use Rattle.std.specs.Arc.{arc_value}
use Rattle.std.specs.declared.alloc.Global.{Global}
use Rattle.std.specs.declared.sync.Arc.{Arc}
use Rattle.mh_code.specs.Height.{height, height_step, entry_height, highest}
use Rattle.mh_code.specs.PieceOf.{chain, piece_step, entry_step, routine_of, routines}
use Rattle.mh_code.specs.Routine.{Routine}
use Rattle.mh_code.specs.declared.code.Piece.{Piece}
use Rattle.mh_code.specs.declared.code.Piece.TheFolds.{fold-roll-Piece}
use Rattle.mh_code.specs.declared.code.Piece.TheOpen as open_piece
use Rattle.mh_code.specs.declared.code.Piece.TheVariants.{rolls-Switch}
use Rattle.mh_code.specs.declared.code.Piece.TheViews.{Switch}
use Rattle.mh_code.specs.declared.index.Row.{Row}

-- two maps, one after the other, that agree with a third at each element
map_twice : {A B C : Type 0} (f : A → B) (g : B → C) (h : A → C) → ((x : A) → g (f x) ≡ h x) → (xs : List A) → map g (map f xs) ≡ map h xs
map_twice f g h e [] = refl
map_twice f g h e (x ∷ xs) = λ i. e x i ∷ map_twice f g h e xs i

pub routine_of_switch : (p : ℕ) (i : Arc (List Row) Global) (ts : Vec (Arc Piece Global) Global) (o : Arc Piece Global) → routine_of (Switch p i ts o) ≡ chain p (arc_value i) (routines ts.items) (routine_of (arc_value o))
routine_of_switch p i ts o =
    ap routine_of (sym (rolls-Switch p i ts o)) ∙ fold-roll-Piece Routine Routine piece_step entry_step (open_piece.Switch p i ts o)
    ∙ ap (λ rs. chain p (arc_value i) rs (routine_of (arc_value o))) (map_twice _ _ _ (λ x. refl) ts.items)

pub height_of_switch : (p : ℕ) (i : Arc (List Row) Global) (ts : Vec (Arc Piece Global) Global) (o : Arc Piece Global) → height (Switch p i ts o) ≡ 1 + max (highest (map (λ t. height (arc_value t)) ts.items)) (height (arc_value o))
height_of_switch p i ts o =
    ap height (sym (rolls-Switch p i ts o)) ∙ fold-roll-Piece ℕ ℕ height_step entry_height (open_piece.Switch p i ts o)
    ∙ ap (λ ns. 1 + max (highest ns) (height (arc_value o))) (map_twice _ _ _ (λ x. refl) ts.items)
