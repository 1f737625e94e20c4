-- Operations that return a truth, and code that negates one.
use Rattle.std.proofs.Common.{◌≡◌, Bool, true, false, ◌&&◌, ◌==◌, ℕ, refl, ap, sym, ◌∙◌, subst, List, [], ◌∷◌, ◌++◌, length, ℤ, Some, None, if◌then◌else◌}
use Rattle.std.specs.Option.{unwrap_or}
use Rattle.std.proofs.Math.Seq.{get_or-append_seam}
use Rattle.std.proofs.lemmas.Bool.{eqb-true}
use Rattle.mh_type.specs.Operations.{operate, two_ints, two_longs, two_booleans, two_texts, first, with_boolean, truth as gives}
use Rattle.mh_type.specs.declared.operation.Op.{Op}
use Rattle.mh_type.specs.declared.operation.Op.TheVariants.{Iadd, Isub, Imul, Idiv, Irem, Ineg, Ieq, Ilt, Ladd, Lsub, Lmul, Ldiv, Lrem, Lneg, Leq, Llt, I2l, L2i, Not, Beq, Concat, Seq, Len}
use Rattle.mh_type.specs.declared.outcome.Outcome.{Outcome}
use Rattle.mh_type.specs.declared.outcome.Outcome.TheVariants as outcome
use Rattle.mh_type.specs.declared.value.Value.{Value}
use Rattle.mh_type.specs.declared.value.Value.TheVariants.{Int, Long, Boolean, Text}
use Rattle.mh_tree.specs.Code.{Code, leaf, apply, bind, branch, point as point_code, invoke}
use Rattle.mh_tree.specs.Meaning.{argument}
use Rattle.mh_tree.specs.declared.operand.Operand.{Operand}
use Rattle.mh_tree.specs.declared.operand.Operand.TheVariants.{Argument, Local, Constant}
use Rattle.mh_code.specs.Routine.{Routine, Purpose, answer, local, truth, untruth}
use Rattle.mh_code.specs.RoutineOf.{gives_truth, is_not, is_local, negates, bound}

-- a truth, and no throw
abbrev pub IsTruth : Outcome → Type 0
IsTruth o = (b : Bool) × (o ≡ outcome.Value (Boolean b))

of_ints : (x y : Value) (go : ℤ → ℤ → Bool) → IsTruth (two_ints (x ∷ y ∷ []) (λ m n. gives (go m n)))
of_ints (Int m) (Int n) go = (go m n, refl)
of_ints (Int m) (Long n) go = (false, refl)
of_ints (Int m) (Boolean n) go = (false, refl)
of_ints (Int m) (Text n) go = (false, refl)
of_ints (Long m) y go = (false, refl)
of_ints (Boolean m) y go = (false, refl)
of_ints (Text m) y go = (false, refl)

of_longs : (x y : Value) (go : ℤ → ℤ → Bool) → IsTruth (two_longs (x ∷ y ∷ []) (λ m n. gives (go m n)))
of_longs (Long m) (Long n) go = (go m n, refl)
of_longs (Long m) (Int n) go = (false, refl)
of_longs (Long m) (Boolean n) go = (false, refl)
of_longs (Long m) (Text n) go = (false, refl)
of_longs (Int m) y go = (false, refl)
of_longs (Boolean m) y go = (false, refl)
of_longs (Text m) y go = (false, refl)

of_booleans : (x y : Value) (go : Bool → Bool → Bool) → IsTruth (two_booleans (x ∷ y ∷ []) (λ m n. gives (go m n)))
of_booleans (Boolean m) (Boolean n) go = (go m n, refl)
of_booleans (Boolean m) (Int n) go = (false, refl)
of_booleans (Boolean m) (Long n) go = (false, refl)
of_booleans (Boolean m) (Text n) go = (false, refl)
of_booleans (Int m) y go = (false, refl)
of_booleans (Long m) y go = (false, refl)
of_booleans (Text m) y go = (false, refl)

of_texts : (x y : Value) (go : List ℕ → List ℕ → Bool) → IsTruth (two_texts (x ∷ y ∷ []) (λ m n. gives (go m n)))
of_texts (Text m) (Text n) go = (go m n, refl)
of_texts (Text m) (Int n) go = (false, refl)
of_texts (Text m) (Long n) go = (false, refl)
of_texts (Text m) (Boolean n) go = (false, refl)
of_texts (Int m) y go = (false, refl)
of_texts (Long m) y go = (false, refl)
of_texts (Boolean m) y go = (false, refl)

of_boolean : (x : Value) (xs : List Value) (go : Bool → Bool) → IsTruth (first (x ∷ xs) (λ z. with_boolean z (λ b. gives (go b))))
of_boolean (Boolean b) xs go = (go b, refl)
of_boolean (Int m) xs go = (false, refl)
of_boolean (Long m) xs go = (false, refl)
of_boolean (Text m) xs go = (false, refl)

-- an operation that returns a truth returns one for any values
pub true_or_false : (op : Op) (x y : Value) → gives_truth op ≡ true → IsTruth (operate op (x ∷ y ∷ []))
true_or_false Iadd x y h = cc
true_or_false Isub x y h = cc
true_or_false Imul x y h = cc
true_or_false Idiv x y h = cc
true_or_false Irem x y h = cc
true_or_false Ineg x y h = cc
true_or_false Ieq x y h = of_ints x y _
true_or_false Ilt x y h = of_ints x y _
true_or_false Ladd x y h = cc
true_or_false Lsub x y h = cc
true_or_false Lmul x y h = cc
true_or_false Ldiv x y h = cc
true_or_false Lrem x y h = cc
true_or_false Lneg x y h = cc
true_or_false Leq x y h = of_longs x y _
true_or_false Llt x y h = of_longs x y _
true_or_false I2l x y h = cc
true_or_false L2i x y h = cc
true_or_false Not x y h = of_boolean x (y ∷ []) _
true_or_false Beq x y h = of_booleans x y _
true_or_false Concat x y h = cc
true_or_false Seq x y h = of_texts x y _
true_or_false Len x y h = cc

pub is_not_is : (op : Op) → is_not op ≡ true → op ≡ Not
is_not_is Iadd h = cc
is_not_is Isub h = cc
is_not_is Imul h = cc
is_not_is Idiv h = cc
is_not_is Irem h = cc
is_not_is Ineg h = cc
is_not_is Ieq h = cc
is_not_is Ilt h = cc
is_not_is Ladd h = cc
is_not_is Lsub h = cc
is_not_is Lmul h = cc
is_not_is Ldiv h = cc
is_not_is Lrem h = cc
is_not_is Lneg h = cc
is_not_is Leq h = cc
is_not_is Llt h = cc
is_not_is I2l h = cc
is_not_is L2i h = cc
is_not_is Not h = refl
is_not_is Beq h = cc
is_not_is Concat h = cc
is_not_is Seq h = cc
is_not_is Len h = cc

is_local_is : (i : ℕ) (o : Operand) → is_local i o ≡ true → o ≡ Local i
is_local_is i (Argument j) h = cc
is_local_is i (Local j) h = ap (λ k. Local k) (sym (eqb-true i j h))
is_local_is i (Constant x) h = cc

both : (a b : Bool) → (a && b) ≡ true → (a ≡ true) × (b ≡ true)
both true true h = (refl, refl)
both true false h = cc
both false b h = cc

-- code that negates a local is the operation `not` on it
negates_is : (i : ℕ) (c : Code) → negates i c ≡ true → (y : Operand) × (c ≡ apply 1 Not (Local i) y)
negates_is i (leaf n o) h = cc
negates_is i (apply n op x y) h =
    let all = both ((n == 1) && is_not op) (is_local i x) h in
    let first = both (n == 1) (is_not op) all.0 in
    (y, λ j. apply (eqb-true n 1 first.0 j) (is_not_is op first.1 j) (is_local_is i x all.1 j) y)
negates_is i (bind n f g) h = cc
negates_is i (branch n c x y) h = cc
negates_is i (point_code n p x y) h = cc
negates_is i (invoke n s os) h = cc

-- a fact that holds both if the second of two parts negates the first, and if it is any other
pub bound_by : (P : Code → Purpose → Purpose → Type 0) (d : ℕ) (c : Code) (u : Purpose) (r : Routine) → P c u (local d r) → ((x q : Routine) (y : Operand) → P (apply 1 Not (Local d) y) (truth x q) (untruth x q)) → P c u (bound d c u r)
bound_by P d c answer r h k = h
bound_by P d c (local i x) r h k = h
bound_by P d c (untruth x q) r h k = h
bound_by P d c (truth x q) r h k = by (negates d c) refl
  where
    by : (b : Bool) → negates d c ≡ b → P c (truth x q) (unwrap_or (if b then Some (untruth x q) else None) (local d r))
    by true is =
        let it = negates_is d c is in
        subst (λ e. P e (truth x q) (untruth x q)) (sym it.1) (k x q it.0)
    by false is = h

-- the last of d + 1 locals
pub last_local : (l : List Value) (d : ℕ) (x : Value) → d ≡ length l → argument (l ++ x ∷ []) d ≡ x
last_local l d x deep = ap (λ n. argument (l ++ x ∷ []) n) deep ∙ get_or-append_seam l x [] (Boolean false)
