-- Operands that read the arguments of a part, and the width of a part.
use Rattle.std.proofs.Common.{◌≡◌, ℕ, ◌+◌, ◌≤◌, refl, ap, sym, ◌∙◌, List, [], ◌∷◌, ◌++◌, append_assoc, take, drop, map, length, arith, false, Result, length-append, length-take, length-drop}
use Rattle.std.specs.Prelude.{slice_set}
use Rattle.std.proofs.lemmas.List.{map-append, take-map, drop-map, map-set, append-nil, length-map}
use Rattle.std.proofs.Math.ListN.{get_or-map}
use Rattle.std.proofs.Math.Seq.{get_or-append_seam}
use Rattle.mh_type.specs.declared.kind.Kind.{Kind}
use Rattle.mh_type.specs.declared.operation.Op.{Op}
use Rattle.mh_type.specs.declared.operation.Op.TheVariants.{Iadd, Isub, Imul, Idiv, Irem, Ineg, Ieq, Ilt, Ladd, Lsub, Lmul, Ldiv, Lrem, Lneg, Leq, Llt, I2l, L2i, Not, Beq, Concat, Seq, Len}
use Rattle.mh_type.specs.declared.value.Value.{Value}
use Rattle.mh_type.specs.declared.value.Value.TheVariants.{Boolean}
use Rattle.mh_type.specs.declared.outcome.Throw.{Throw}
use Rattle.mh_type.specs.declared.outcome.Outcome.{Outcome}
use Rattle.mh_type.specs.declared.outcome.Outcome.TheVariants.{Thrown, Value as Value'}
use Rattle.mh_type.specs.Operations.{operate, op_signature, first, second}
use Rattle.mh_type.specs.Signature.{Signature}
use Rattle.mh_tree.specs.Meaning.{◌>>=◌, with_arguments, with_value, argument, put_in, taken_out}
use Rattle.mh_tree.specs.Tree.{Filters}
use Rattle.mh_tree.specs.Typing.{AreTyped, Reorders, kind_at}
use Rattle.mh_tree.specs.Laws.LeadingArguments.{as_few, as_many}
use Rattle.mh_tree.specs.Running.{value_of}
use Rattle.mh_tree.specs.Prepared.{operand_at}
use Rattle.mh_tree.specs.declared.operand.Operand.{Operand}
use Rattle.mh_tree.specs.declared.operand.Operand.TheVariants.{Local, Constant}

-- the operands read these values, whatever further locals there are
abbrev pub Reads : List Value → List Value → List Operand → List Value → Type 0
Reads a l env b = (e : List Value) → map (value_of a (l ++ e)) env ≡ b

pub reads_now : (a l : List Value) (env : List Operand) (b : List Value) → Reads a l env b → map (value_of a l) env ≡ b
reads_now a l env b h = ap (λ k. map (value_of a k) env) (sym (append-nil l)) ∙ h []

-- one more local
reads_more : (a l : List Value) (x : Value) (env : List Operand) (b : List Value) → Reads a l env b → Reads a (l ++ x ∷ []) env b
reads_more a l x env b h e = ap (λ k. map (value_of a k) env) (append_assoc l (x ∷ []) e) ∙ h (x ∷ e)

-- the local that was put last
newest : (a l : List Value) (x : Value) (d : ℕ) → d ≡ length l → (e : List Value) → value_of a ((l ++ x ∷ []) ++ e) (Local d) ≡ x
newest a l x d h e =
    ap (λ n. argument ((l ++ x ∷ []) ++ e) n) h
    ∙ ap (λ k. argument k (length l)) (append_assoc l (x ∷ []) e)
    ∙ get_or-append_seam l x e (Boolean false)

pub reads_at : (a k : List Value) (env : List Operand) (b : List Value) (i : ℕ) → map (value_of a k) env ≡ b → value_of a k (operand_at env i) ≡ argument b i
reads_at a k env b i h = sym (get_or-map (value_of a k) env i (Constant (Boolean false))) ∙ ap (λ c. argument c i) h

constants : (a k xs : List Value) → map (value_of a k) (map Constant xs) ≡ xs
constants a k [] = refl
constants a k (x ∷ xs) = ap (λ c. x ∷ c) (constants a k xs)

pub reads_inserted : (a l : List Value) (env : List Operand) (b : List Value) (p : ℕ) (xs : List Value) → Reads a l env b → Reads a l (take p env ++ (map Constant xs ++ drop p env)) (put_in b p xs)
reads_inserted a l env b p xs h e =
    let f = value_of a (l ++ e) in
    map-append f (take p env) (map Constant xs ++ drop p env)
    ∙ (λ i. sym (take-map f p env) i ++ map-append f (map Constant xs) (drop p env) i)
    ∙ (λ i. take p (h e i) ++ (constants a (l ++ e) xs i ++ (sym (drop-map f p env) ∙ ap (λ c. drop p c) (h e)) i))

pub reads_discarded : (a l : List Value) (env : List Operand) (b : List Value) (p n : ℕ) → Reads a l env b → Reads a l (take p env ++ drop (p + n) env) (taken_out b p n)
reads_discarded a l env b p n h e =
    let f = value_of a (l ++ e) in
    map-append f (take p env) (drop (p + n) env)
    ∙ (λ i. (sym (take-map f p env) ∙ ap (λ c. take p c) (h e)) i ++ (sym (drop-map f (p + n) env) ∙ ap (λ c. drop (p + n) c) (h e)) i)

pub reads_permuted : (a l : List Value) (env : List Operand) (b : List Value) (r : List ℕ) → Reads a l env b → Reads a l (map (operand_at env) r) (map (argument b) r)
reads_permuted a l env b [] h e = refl
reads_permuted a l env b (i ∷ r) h e = λ j. reads_at a (l ++ e) env b i (h e) j ∷ reads_permuted a l env b r h e j

pub reads_one : (a l : List Value) (env : List Operand) (b : List Value) (i : ℕ) → Reads a l env b → Reads a l (operand_at env i ∷ []) (argument b i ∷ [])
reads_one a l env b i h e = ap (λ x. x ∷ []) (reads_at a (l ++ e) env b i (h e))

pub reads_newest : (a l : List Value) (x : Value) (d : ℕ) (env : List Operand) (b : List Value) → d ≡ length l → Reads a l env b → Reads a (l ++ x ∷ []) (Local d ∷ env) (x ∷ b)
reads_newest a l x d env b s h e = λ i. newest a l x d s e i ∷ reads_more a l x env b h e i

pub reads_set : (a l : List Value) (x : Value) (d p : ℕ) (env : List Operand) (b : List Value) → d ≡ length l → Reads a l env b → Reads a (l ++ x ∷ []) (slice_set env p (Local d)) (slice_set b p x)
reads_set a l x d p env b s h e =
    map-set (value_of a ((l ++ x ∷ []) ++ e)) env p (Local d)
    ∙ (λ i. slice_set (reads_more a l x env b h e i) p (newest a l x d s e i))

pub reads_nothing : (a l : List Value) → Reads a l [] []
reads_nothing a l e = refl

-- an operation reads two operands
one_read : (b : List Value) (go : Value → Outcome) → 1 ≤ length b → first (argument b 0 ∷ argument b 1 ∷ []) go ≡ first b go
one_read [] go h = absurd (omega arith)
one_read (x ∷ rest) go h = refl

both_read : (b : List Value) (go : Value → Value → Outcome) → 2 ≤ length b → first (argument b 0 ∷ argument b 1 ∷ []) (λ x. second (argument b 0 ∷ argument b 1 ∷ []) (go x)) ≡ first b (λ x. second b (go x))
both_read [] go h = absurd (omega arith)
both_read (x ∷ []) go h = absurd (omega arith)
both_read (x ∷ y ∷ rest) go h = refl

pub two_read : (o : Op) (b : List Value) → length (op_signature o).parameters ≤ length b → operate o (argument b 0 ∷ argument b 1 ∷ []) ≡ operate o b
two_read Ineg b h = one_read b _ h
two_read Lneg b h = one_read b _ h
two_read I2l b h = one_read b _ h
two_read L2i b h = one_read b _ h
two_read Not b h = one_read b _ h
two_read Len b h = one_read b _ h
two_read Iadd b h = both_read b _ h
two_read Isub b h = both_read b _ h
two_read Imul b h = both_read b _ h
two_read Idiv b h = both_read b _ h
two_read Irem b h = both_read b _ h
two_read Ieq b h = both_read b _ h
two_read Ilt b h = both_read b _ h
two_read Ladd b h = both_read b _ h
two_read Lsub b h = both_read b _ h
two_read Lmul b h = both_read b _ h
two_read Ldiv b h = both_read b _ h
two_read Lrem b h = both_read b _ h
two_read Leq b h = both_read b _ h
two_read Llt b h = both_read b _ h
two_read Beq b h = both_read b _ h
two_read Concat b h = both_read b _ h
two_read Seq b h = both_read b _ h

pub shorter : (ks kinds : List Kind) → ks ≡ take (length ks) kinds → length ks ≤ length kinds
shorter ks kinds begins =
    let e = ap (λ (xs : List Kind). length xs) begins in omega (arith, e, length-take (length ks) kinds)

pub one_more : (l : List Value) (x : Value) (d : ℕ) → d ≡ length l → d + 1 ≡ length (l ++ x ∷ [])
one_more l x d h = omega (arith, length-append l (x ∷ []))

-- the arguments that filters pass on
pub passed : (o : Outcome) (g : Value → Result (List Value) Throw) (goes : List Value → Outcome) → (o >>= (λ x. with_arguments (g x) goes)) ≡ with_arguments (with_value o g) goes
passed (Value' x) g goes = refl
passed (Thrown t) g goes = refl

pub permuted_wide : (n m : Signature) (r : List ℕ) (b : List Value) → Reorders n m r → length n.parameters ≤ length (map (argument b) r)
permuted_wide n m r b reorders =
    let e = ap (λ (ks : List Kind). length ks) reorders.same in
    omega (arith, length-map r (λ i. kind_at m.parameters i), length-map r (argument b))

pub filter_wide : (p : ℕ) (fs : Filters) (old new : List Kind) (b : List Value) → p ≤ length old → take p new ≡ take p old → AreTyped fs (drop p old) (drop p new) → length new ≤ length b → length old ≤ length b
filter_wide p fs old new b inside firsts filters wide =
    let many = as_many fs (drop p old) (drop p new) filters in
    let few = as_few fs (drop p old) (drop p new) filters in
    let same : length (take p new) ≡ length (take p old) = ap (λ (ks : List Kind). length ks) firsts in
    omega (arith, length-take p old, length-take p new, length-drop p old, length-drop p new)
