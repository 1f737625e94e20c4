-- The code of a typed tree names no operand behind those of its parameters.
use Rattle.std.proofs.Common.{◌≡◌, ℕ, suc, ◌+◌, ◌≤◌, ◌<◌, refl, ap, sym, ◌∙◌, List, [], ◌∷◌, ◌++◌, append_assoc, take, drop, map, length, arith, length-append, length-take, length-drop}
use Rattle.std.specs.Prelude.{slice_set}
use Rattle.std.specs.List.{All, range_with_len}
use Rattle.std.proofs.lemmas.List.{take-append-le, drop-append-le, take-append-drop, get_or_append_left, set-append_left, length-map}
use Rattle.std.proofs.lemmas.List.FromFn.{take-map-range_with_len, length-map-range_with_len}
use Rattle.std.proofs.Math.ListN.{length-set}
use Rattle.mh_type.specs.Operations.{op_signature}
use Rattle.mh_type.specs.Signature.{Signature}
use Rattle.mh_tree.specs.Code.{Code, leaf, apply, bind, branch, point as code_point, invoke as code_invoke}
use Rattle.mh_tree.specs.Prepared.{operand_at, prepared, prepared_filters}
use Rattle.mh_tree.specs.Tree.{Tree, Filters, constant, identity, operation, insert, discard, permute, filter, filter_return, fold, guard, point, invoke, no_more, absent, present}
use Rattle.mh_tree.specs.Typing.{IsTyped}
use Rattle.mh_tree.specs.declared.operand.Operand.{Operand}
use Rattle.mh_tree.specs.declared.operand.Operand.TheVariants.{Argument, Local, Constant}
use Rattle.mh_tree.specs.Laws.LeadingArguments.{same_count, count, counted}
use Rattle.mh_tree.specs.Laws.OperandReads.{shorter}

operand_more : (env e : List Operand) (i : ℕ) → i < length env → operand_at (env ++ e) i ≡ operand_at env i
operand_more env e i h = get_or_append_left env e _ i h

reordered_more : (env e : List Operand) (n : ℕ) (r : List ℕ) → n ≤ length env → All (λ i. i < n) r → map (operand_at (env ++ e)) r ≡ map (operand_at env) r
reordered_more env e n [] h all = refl
reordered_more env e n (i ∷ r) h all =
    let first : i < n = all 0 0 (omega arith) in
    let here : operand_at (env ++ e) i ≡ operand_at env i = operand_more env e i (omega arith) in
    let rest = reordered_more env e n r h (λ k d below. all (suc k) d (omega arith)) in
    λ j. here j ∷ rest j

filters_more : (fs : Filters) (p : ℕ) (env e : List Operand) (d s w : ℕ) (go : List Operand → ℕ → ℕ → Code) → p + count fs ≤ length env → w ≤ length env → ((env' : List Operand) (d' s' : ℕ) → w ≤ length env' → go (env' ++ e) d' s' ≡ go env' d' s') → prepared_filters fs p (env ++ e) d s go ≡ prepared_filters fs p env d s go
filters_more no_more p env e d s w go room wide k = k env d s wide
filters_more (absent fs) p env e d s w go room wide k = filters_more fs (p + 1) env e d s w go (omega arith) wide k
filters_more (present f fs) p env e d s w go room wide k =
    let inside : p < length env = omega arith in
    let same = length-set env p (Local d) in
    let here = operand_more env e p inside in
    let rest =
    ap (λ x. prepared_filters fs (p + 1) x (d + 1) 0 go) (set-append_left env e p (Local d) inside)
    ∙ filters_more fs (p + 1) (slice_set env p (Local d)) e (d + 1) 0 w go (omega (arith, same)) (omega (arith, same)) k in
    λ i. bind s (prepared f (here i ∷ []) d 0) (rest i)

pub prepared_more : (t : Tree) (m : Signature) (env e : List Operand) (d s : ℕ) → IsTyped t m → length m.parameters ≤ length env → prepared t (env ++ e) d s ≡ prepared t env d s
prepared_more (constant x) m env e d s typed wide = refl
prepared_more (identity k) m env e d s typed wide =
    let one = ap (λ (n : Signature). length n.parameters) typed in
    ap (λ o. leaf (s + 1) o) (operand_more env e 0 (omega arith))
prepared_more (operation o) m env e d s typed wide =
    let many = ap (λ (n : Signature). length n.parameters) typed in
    ap (λ read. apply (s + 1) o (operand_at read 0) (operand_at read 1)) (take-append-le (length (op_signature o).parameters) env e (omega arith))
prepared_more (insert t p xs) m env e d s (n, typed, inserts) wide =
    let made = ap (λ (k : Signature). length k.parameters) inserts.made in
    let inside = inserts.inside in
    let count = simp (length-append, length-take, length-drop) at made in
    let split : take p (env ++ e) ++ (map Constant xs ++ drop p (env ++ e)) ≡ (take p env ++ (map Constant xs ++ drop p env)) ++ e =
    rw (take-append-le p env e (omega arith), drop-append-le p env e (omega arith)) (simp append_assoc) in
    let many : length n.parameters ≤ length (take p env ++ (map Constant xs ++ drop p env)) =
    omega (arith, length-append (take p env) (map Constant xs ++ drop p env), length-append (map Constant xs) (drop p env), length-take p env, length-drop p env, length-map xs Constant) in
    ap (λ x. prepared t x d (s + 1)) split ∙ prepared_more t n _ e d (s + 1) typed many
prepared_more (discard t p ks) m env e d s (n, typed, discards) wide =
    let made = ap (λ (k : Signature). length k.parameters) discards.made in
    let inside = discards.inside in
    let count = simp (length-append, length-take, length-drop) at made in
    let split : take p (env ++ e) ++ drop (p + length ks) (env ++ e) ≡ (take p env ++ drop (p + length ks) env) ++ e =
    rw (take-append-le p env e (omega arith), drop-append-le (p + length ks) env e (omega arith)) (simp append_assoc) in
    let many : length n.parameters ≤ length (take p env ++ drop (p + length ks) env) =
    omega (arith, length-append (take p env) (drop (p + length ks) env), length-take p env, length-drop (p + length ks) env) in
    ap (λ x. prepared t x d (s + 1)) split ∙ prepared_more t n _ e d (s + 1) typed many
prepared_more (permute t new_type r) m env e d s (n, typed, reorders, made) wide =
    ap (λ x. prepared t x d (s + 1)) (reordered_more env e (length m.parameters) r wide reorders.inside)
prepared_more (filter t p fs) m env e d s (n, typed, inside, returns, firsts, filters) wide =
    let same = same_count p fs n.parameters m.parameters inside firsts filters in
    let few = counted fs _ _ filters in
    filters_more fs p env e d (s + 1) (length n.parameters) (prepared t) (omega (arith, length-drop p n.parameters)) (omega arith)
    (λ env' d' s' wide'. prepared_more t n env' e d' s' typed wide')
prepared_more (filter_return t f) m env e d s (k, typed, last) wide =
    λ i. bind (s + 1) (prepared_more t _ env e d 0 typed wide i) (prepared f (Local d ∷ []) (d + 1) 0)
prepared_more (fold t c) m env e d s (k, ks, typed, combiner, begins) wide =
    let few = shorter ks m.parameters begins in
    λ i. bind (s + 1) (prepared_more c _ env e d 0 combiner (omega arith) i) (prepared_more t _ (Local d ∷ env) e (d + 1) 0 typed (omega arith) i)
prepared_more (guard c x y) m env e d s (ks, test, begins, one, two) wide =
    let few = shorter ks m.parameters begins in
    λ i. branch (s + 1) (prepared_more c _ env e d 0 test (omega arith) i) (prepared_more x m env e d 0 one wide i) (prepared_more y m env e d 0 two wide i)
prepared_more (point p x y) m env e d s (one, two) wide =
    λ i. code_point (s + 1) p (prepared_more x m env e d 0 one wide i) (prepared_more y m env e d 0 two wide i)
prepared_more (invoke k n) m env e d s (few, made) wide =
    let many = ap (λ (q : Signature). length q.parameters) made in
    ap (code_invoke (s + 1) k) (take-append-le (length n.parameters) env e (omega arith))

-- the arguments of a call of n parameters
abbrev arguments : ℕ → List Operand
arguments n = map (λ i. Argument i) (range_with_len 0 n)

-- a part with fewer parameters than the call has arguments
pub prepared_leading : (t : Tree) (m : Signature) (n : ℕ) → IsTyped t m → length m.parameters ≤ n → prepared t (arguments n) 0 0 ≡ prepared t (arguments (length m.parameters)) 0 0
prepared_leading t m n typed few =
    let k = length m.parameters in
    let first = take-map-range_with_len (λ i. Argument i) 0 n k few in
    let many = length-map-range_with_len (λ i. Argument i) 0 k in
    let same : length (take k (arguments n)) ≡ length (arguments k) = ap (λ (xs : List Operand). length xs) first in
    ap (λ x. prepared t x 0 0) (sym (take-append-drop k (arguments n)))
    ∙ prepared_more t m (take k (arguments n)) (drop k (arguments n)) 0 0 typed (omega (arith, same, many))
    ∙ ap (λ x. prepared t x 0 0) first
