-- Key tests: their answers, their types, and that `key_in` finds exactly them.
use Rattle.std.proofs.Common.{◌≡◌, ℕ, zero, suc, ◌+◌, ◌<◌, refl, ap, sym, ◌∙◌, List, [], ◌∷◌, take, drop, length, arith, Bool, true, false, not, ◌&&◌, Option, Some, None, if◌then◌else◌}
use Rattle.std.specs.Prelude.{ℤ, int_lt, nat_eq, cond}
use Rattle.std.specs.Ordering.{int_eq}
use Rattle.std.specs.Ordering as ordering
use Rattle.std.specs.declared.cmp.Ordering.TheVariants.{Less, Equal, Greater}
use Rattle.std.proofs.lemmas.Bool.Decides.{Decides-eqb}
use Rattle.mh_type.specs.Laws.{kind_eq_decides, kinds_eq_decides}
use Rattle.mh_type.specs.declared.kind.Kind.{Kind}
use Rattle.mh_type.specs.declared.kind.Kind.TheVariants as kind
use Rattle.mh_type.specs.declared.operation.Op.{Op}
use Rattle.mh_type.specs.declared.operation.Op.TheVariants.{Ieq, Leq, Beq, Seq}
use Rattle.mh_type.specs.declared.value.Value.{Value}
use Rattle.mh_type.specs.declared.value.Value.TheVariants.{Int, Long, Boolean, Text}
use Rattle.mh_type.specs.declared.outcome.Outcome.TheVariants.{Value as Value'}
use Rattle.mh_type.specs.Kinds.{kind_of, kind_eq, kinds_eq}
use Rattle.mh_type.specs.Operations.{int_eq as equal, truth_eq}
use Rattle.mh_tree.specs.Arity.{arity}
use Rattle.mh_tree.specs.Meaning.{mean, argument, taken_out}
use Rattle.mh_tree.specs.Tree.{Tree, operation, insert, discard}
use Rattle.mh_type.specs.Values.{same_value, same_truth}
use Rattle.mh_pic.specs.Keys.{equality, first_test, key_test, equality_kind, one_of_kind, first_key, key_in}
use Rattle.mh_tree.specs.Environment.{Environment}

by_answers : (b c : Bool) → (not b && not c) ≡ ordering.is_eq (cond b Less (cond c Greater Equal))
by_answers true true = refl
by_answers true false = refl
by_answers false true = refl
by_answers false false = refl

numbers : (x y : ℤ) → equal x y ≡ int_eq x y
numbers x y = by_answers (int_lt x y) (int_lt y x)

truths : (b c : Bool) → truth_eq b c ≡ same_truth b c
truths true c = refl
truths false c = refl

first_mean : (v : Environment) (x key : Value) (rest : List Value) → kind_of x ≡ kind_of key → mean v (first_test key) (x ∷ rest) ≡ Value' (Boolean (same_value x key))
first_mean v (Int m) (Int n) rest same = ap (λ b. Value' (Boolean b)) (numbers m n)
first_mean v (Long m) (Long n) rest same = ap (λ b. Value' (Boolean b)) (numbers m n)
first_mean v (Boolean b) (Boolean c) rest same = ap (λ b. Value' (Boolean b)) (truths b c)
first_mean v (Text s) (Text t) rest same = refl
first_mean v _ _ rest same = cc

first_arity : (key : Value) → arity (first_test key) ≡ 1
first_arity (Int n) = refl
first_arity (Long n) = refl
first_arity (Boolean b) = refl
first_arity (Text t) = refl

last_one : (q : ℕ) (a : List Value) → q < length a → drop q (take (suc q) a) ≡ argument a q ∷ []
last_one q [] h = absurd (omega arith)
last_one zero (x ∷ rest) h = refl
last_one (suc q) (x ∷ rest) h = last_one q rest (omega arith)

left : (q : ℕ) (a : List Value) → q < length a → taken_out (take (1 + q) a) 0 q ≡ argument a q ∷ []
left q a h =
    let same : 0 + q ≡ q = omega arith in
    let next : 1 + q ≡ suc q = omega arith in
    rw (same, next) (last_one q a h)

-- a key test answers whether the argument at the key position is the key
pub key_test_mean : (v : Environment) (kinds : List Kind) (key : Value) (a : List Value)
    → length kinds < length a → kind_of (argument a (length kinds)) ≡ kind_of key
    → mean v (key_test kinds key) (take (arity (key_test kinds key)) a) ≡ Value' (Boolean (same_value (argument a (length kinds)) key))
key_test_mean v [] key [] inside same = absurd (omega arith)
key_test_mean v [] key (x ∷ rest) inside same = rw (first_arity key) (first_mean v x key [] same)
key_test_mean v (k ∷ kinds) key a inside same =
    rw (first_arity key, left (length (k ∷ kinds)) a inside) (first_mean v (argument a (length (k ∷ kinds))) key [] same)

-- `key_in` finds only key tests
equality_found : (o : Op) (k : Kind) → equality_kind o ≡ Some k → o ≡ equality k
equality_found Ieq k h = let same : kind.Int ≡ k = cc in ap equality same
equality_found Leq k h = let same : kind.Long ≡ k = cc in ap equality same
equality_found Beq k h = let same : kind.Boolean ≡ k = cc in ap equality same
equality_found Seq k h = let same : kind.Text ≡ k = cc in ap equality same
equality_found _ k h = cc

one_found : (o : Option Kind) (xs : List Value) (x : Value) → one_of_kind o xs ≡ Some x → (o ≡ Some (kind_of x)) × (xs ≡ x ∷ [])
one_found (Some k) (y ∷ []) x h = by_test (kind_eq (kind_of y) k) refl h
  where
    by_test : (b : Bool) → kind_eq (kind_of y) k ≡ b → (if b then Some y else None) ≡ Some x → (Some k ≡ Some (kind_of x)) × (y ∷ [] ≡ x ∷ [])
    by_test true e g =
        let same : y ≡ x = cc in
        let kinds : kind_of y ≡ k = (kind_eq_decides (kind_of y) k).0 e in
        (ap Some (sym kinds ∙ ap kind_of same), ap (λ z. z ∷ []) same)
    by_test false e g = cc
one_found _ _ x h = cc

first_found : (t : Tree) (x : Value) → first_key t ≡ Some x → t ≡ first_test x
first_found (insert (operation o) p xs) x h = by_place (nat_eq p 1) refl h
  where
    by_place : (b : Bool) → nat_eq p 1 ≡ b → (if b then one_of_kind (equality_kind o) xs else None) ≡ Some x → insert (operation o) p xs ≡ first_test x
    by_place true e g =
        let found = one_found (equality_kind o) xs x g in
        let place : p ≡ 1 = (Decides-eqb p 1).0 e in
        let op = equality_found o (kind_of x) found.0 in
        λ i. insert (operation (op i)) (place i) (found.1 i)
    by_place false e g = cc
first_found _ x h = cc

pub key_found : (kinds : List Kind) (t : Tree) (x : Value) → key_in kinds t ≡ Some x → t ≡ key_test kinds x
key_found [] t x h = first_found t x h
key_found (k ∷ kinds) (discard t p ks) x h = by_place (nat_eq p 0) (kinds_eq (k ∷ kinds) ks) refl refl h
  where
    by_place : (b c : Bool) → nat_eq p 0 ≡ b → kinds_eq (k ∷ kinds) ks ≡ c → (if b && c then first_key t else None) ≡ Some x → discard t p ks ≡ key_test (k ∷ kinds) x
    by_place true true e f g =
        let place : p ≡ 0 = (Decides-eqb p 0).0 e in
        let same = sym ((kinds_eq_decides (k ∷ kinds) ks).0 f) in
        let inner = first_found t x g in
        λ i. discard (inner i) (place i) (same i)
    by_place true false e f g = cc
    by_place false c e f g = cc
key_found (k ∷ kinds) _ x h = cc

-- and every key test
first_shown : (key : Value) → first_key (first_test key) ≡ Some key
first_shown (Int n) = refl
first_shown (Long n) = refl
first_shown (Boolean b) = refl
first_shown (Text t) = refl

pub key_shown : (kinds : List Kind) (key : Value) → key_in kinds (key_test kinds key) ≡ Some key
key_shown [] key = first_shown key
key_shown (k ∷ kinds) key = rw ((kinds_eq_decides (k ∷ kinds) (k ∷ kinds)).1 refl) (first_shown key)
