-- Chains of tests, put together.
use Rattle.std.proofs.Common.{◌≡◌, ℕ, ◌+◌, ◌<◌, refl, ap, sym, ◌∙◌, List, [], ◌∷◌, ◌++◌, length, take, arith}
use Rattle.std.specs.Prelude.{map, get_or}
use Rattle.std.specs.Arc.{arc_value}
use Rattle.std.specs.declared.alloc.Global.{Global}
use Rattle.std.specs.declared.sync.Arc.{Arc}
use Rattle.std.proofs.lemmas.List.{append_assoc, length-map, map-append, map_more}
use Rattle.mh_code.specs.PieceOf.{chain, key_source, piece_step, entry_step, routine_of, routines}
use Rattle.mh_code.specs.Routine.{Routine, pick}
use Rattle.mh_code.specs.declared.code.KeyTest.{KeyTest}
use Rattle.mh_code.specs.declared.code.Piece.{Piece}
use Rattle.mh_code.specs.declared.code.Piece.TheFolds.{fold-roll-Piece}
use Rattle.mh_code.specs.declared.code.Piece.TheOpen as open_piece
use Rattle.mh_code.specs.declared.code.Piece.TheVariants.{Case, rolls-Case}
use Rattle.mh_code.specs.declared.index.Row.{Row}

pub chain_more : (p : ℕ) (rs qs : List Row) (ts us : List Routine) (o : Routine) → length rs ≡ length ts → chain p (rs ++ qs) (ts ++ us) o ≡ chain p rs ts (chain p qs us o)
chain_more p [] qs [] us o even = refl
chain_more p [] qs (t ∷ ts) us o even = absurd (omega (arith, even))
chain_more p (r ∷ rs) qs [] us o even = absurd (omega (arith, even))
chain_more p (r ∷ rs) qs (t ∷ ts) us o even = ap (pick r.steps (key_source (record { place = p; key = r.key })) t) (chain_more p rs qs ts us o (omega (arith, even)))

routine_of_case : (test : KeyTest) (x y : Arc Piece Global) (s : ℕ) → routine_of (Case test x y s) ≡ pick s (key_source test) (routine_of (arc_value x)) (routine_of (arc_value y))
routine_of_case test x y s = ap routine_of (sym (rolls-Case test x y s)) ∙ fold-roll-Piece Routine Routine piece_step entry_step (open_piece.Case test x y s)

-- one more test of a chain in place of the piece of it
pub gathered : (p : ℕ) (rs : List Row) (ts : List (Arc Piece Global)) (test : KeyTest) (x y z : Arc Piece Global) (s : ℕ) (b : Piece) → length rs ≡ length ts → b ≡ Case test x y s → test.place ≡ p → arc_value z ≡ arc_value x → chain p (rs ++ (record { key = test.key; steps = s }) ∷ []) (routines (ts ++ z ∷ [])) (routine_of (arc_value y)) ≡ chain p rs (routines ts) (routine_of b)
gathered p rs ts test x y z s b even is at same =
    let row : Row = record { key = test.key; steps = s } in
    let o = routine_of (arc_value y) in
    ap (λ us. chain p (rs ++ row ∷ []) us o) (map-append (λ (t : Arc Piece Global). routine_of (arc_value t)) ts (z ∷ []))
    ∙ chain_more p rs (row ∷ []) (routines ts) (routine_of (arc_value z) ∷ []) o (even ∙ sym (length-map ts (λ (t : Arc Piece Global). routine_of (arc_value t))))
    ∙ ap (chain p rs (routines ts)) ((λ i. pick s (key_source (record { place = sym at i; key = test.key })) (routine_of (same i)) o) ∙ sym (ap routine_of is ∙ routine_of_case test x y s))

-- one more owner of a piece at the end of a list
pub routines_more : (ts us : List (Arc Piece Global)) (front : List Routine) (i : ℕ) (d z : Arc Piece Global) → i < length us → arc_value z ≡ arc_value (get_or us i d) → routines ts ≡ front ++ routines (take i us) → routines (ts ++ z ∷ []) ≡ front ++ routines (take (i + 1) us)
routines_more ts us front i d z below same h =
    let f = λ (t : Arc Piece Global). routine_of (arc_value t) in
    map-append f ts (z ∷ []) ∙ (λ j. h j ++ routine_of (same j) ∷ []) ∙ append_assoc front (routines (take i us)) (f (get_or us i d) ∷ []) ∙ ap (λ (q : List Routine). front ++ q) (sym (map_more f us i d below))
