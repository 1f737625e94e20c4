-- The type of a typed tree is the one that is computed, and has at most 16 parameters.
use Rattle.std.proofs.Common.{◌≡◌, ℕ, suc, zero, add-one, ◌+◌, ◌≤◌, ◌<◌, refl, ap, sym, ◌∙◌, subst, List, [], ◌∷◌, ◌++◌, append_assoc, take, drop, length, arith, length-append, length-take, length-drop, lit≤}
use Rattle.std.specs.Prelude.{slice_set, slice_index_or}
use Rattle.mh_type.specs.declared.kind.Kind.{Kind}
use Rattle.mh_type.specs.declared.value.Value.{Value}
use Rattle.mh_type.specs.declared.operation.Op.{Op}
use Rattle.mh_type.specs.declared.operation.Op.TheVariants.{Iadd, Isub, Imul, Idiv, Irem, Ineg, Ieq, Ilt, Ladd, Lsub, Lmul, Ldiv, Lrem, Lneg, Leq, Llt, I2l, L2i, Not, Beq, Concat, Seq, Len}
use Rattle.mh_type.specs.Operations.{op_signature}
use Rattle.mh_type.specs.Signature.{Signature, with_parameters, without_parameters}
use Rattle.std.proofs.lemmas.List.{take-append-drop, take-append-le, take_all, drop_at, take-set, drop-set}
use Rattle.mh_tree.specs.Tree.{Tree, Filters, constant, identity, operation, insert, discard, permute, filter, filter_return, fold, guard, point, invoke, no_more, absent, present}
use Rattle.mh_tree.specs.TypeOf.{type_of, filtered_kinds}
use Rattle.mh_tree.specs.Typing.{IsTyped, AreTyped, kind_at}
use Rattle.mh_tree.specs.Laws.LeadingArguments.{same_count}

-- a list with an element at an index: the part up to and with it, and the part after it
pub split_at : (p : ℕ) (ks rest : List Kind) (k : Kind) → drop p ks ≡ k ∷ rest
    → (take (suc p) ks ≡ take p ks ++ (k ∷ [])) × (drop (suc p) ks ≡ rest)
split_at zero [] rest k h = cc
split_at zero (x ∷ xs) rest k h = let a : x ≡ k = cc in let b : xs ≡ rest = cc in ((λ i. a i ∷ []), b)
split_at (suc p) [] rest k h = cc
split_at (suc p) (x ∷ xs) rest k h =
    let more = split_at p xs rest k h in (ap (λ (ys : List Kind). x ∷ ys) more.0, more.1)

-- a list with the element at an index replaced: the part up to and with it, and the part after it
pub set_at : (p : ℕ) (ks rest : List Kind) (k j : Kind) → drop p ks ≡ k ∷ rest
    → (take (suc p) (slice_set ks p j) ≡ take p ks ++ (j ∷ [])) × (drop (suc p) (slice_set ks p j) ≡ rest)
set_at zero [] rest k j h = cc
set_at zero (x ∷ xs) rest k j h = let b : xs ≡ rest = cc in (refl, b)
set_at (suc p) [] rest k j h = cc
set_at (suc p) (x ∷ xs) rest k j h =
    let more = set_at p xs rest k j h in (ap (λ (ys : List Kind). x ∷ ys) more.0, more.1)

mutual
  pub type_computed : (t : Tree) (m : Signature) → IsTyped t m → type_of t ≡ m
  type_computed (constant x) m h = sym h
  type_computed (identity k) m h = sym h
  type_computed (operation o) m h = sym h
  type_computed (insert t p xs) m (n, typed, inserts) =
      ap (λ (s : Signature). record { ret = s.ret; parameters = without_parameters s.parameters p (length xs) }) (type_computed t n typed) ∙ sym inserts.made
  type_computed (discard t p ks) m (n, typed, discards) =
      ap (λ (s : Signature). record { ret = s.ret; parameters = with_parameters s.parameters p ks }) (type_computed t n typed) ∙ sym discards.made
  type_computed (permute t new_type r) m (n, typed, reorders, made) = sym made
  type_computed (filter t p fs) m (n, typed, inside, returns, firsts, filters) =
      let target = type_computed t n typed in
      let kinds : filtered_kinds fs p n.parameters ≡ m.parameters =
      kinds_by fs p n.parameters (drop p n.parameters) (drop p m.parameters) refl filters ∙ ap (λ (ks : List Kind). ks ++ drop p m.parameters) (sym firsts) ∙ take-append-drop p m.parameters in
      ap (λ (s : Signature). record { ret = s.ret; parameters = filtered_kinds fs p s.parameters }) target
      ∙ (λ i. record { ret = sym returns i; parameters = kinds i })
  type_computed (filter_return t f) m (k, typed, last) =
      let target = type_computed t _ typed in
      let filter = type_computed f _ last in
      λ i. record { ret = (filter i).ret; parameters = (target i).parameters }
  type_computed (fold t c) m (k, ks, typed, combiner, begins) =
      ap (λ (s : Signature). record { ret = s.ret; parameters = without_parameters s.parameters 0 1 }) (type_computed t _ typed)
  type_computed (guard c x y) m (ks, test, begins, first, second) = type_computed x m first
  type_computed (point p x y) m (first, second) = type_computed x m first
  type_computed (invoke s n) m (few, made) = sym made

  -- filters return the parameters that replace the target's
  kinds_by : (fs : Filters) (p : ℕ) (ks old new : List Kind) → drop p ks ≡ old → AreTyped fs old new → filtered_kinds fs p ks ≡ take p ks ++ new
  kinds_by no_more p ks old new e h =
      sym (take-append-drop p ks) ∙ ap (λ (js : List Kind). take p ks ++ js) (e ∙ sym h)
  kinds_by (absent fs) p ks (k ∷ old) (j ∷ new) e h =
      let parts = split_at p ks old k e in
      let behind : drop (p + 1) ks ≡ old = rw add-one parts.1 in
      let before : take (p + 1) ks ≡ take p ks ++ (k ∷ []) = rw add-one parts.0 in
      kinds_by fs (p + 1) ks old new behind h.1
      ∙ ap (λ (js : List Kind). js ++ new) before
      ∙ append_assoc (take p ks) (k ∷ []) new
      ∙ (λ i. take p ks ++ (sym h.0 i ∷ new))
  kinds_by (absent fs) p ks [] new e h = absurd h
  kinds_by (absent fs) p ks (k ∷ old) [] e h = absurd h
  kinds_by (present f fs) p ks (k ∷ old) (j ∷ new) e h =
      let kind : kind_at (type_of f).parameters 0 ≡ j = ap (λ (s : Signature). kind_at s.parameters 0) (type_computed f _ h.0) in
      let parts = set_at p ks old k j e in
      let behind : drop (p + 1) (slice_set ks p j) ≡ old = rw add-one parts.1 in
      let before : take (p + 1) (slice_set ks p j) ≡ take p ks ++ (j ∷ []) = rw add-one parts.0 in
      ap (λ (x : Kind). filtered_kinds fs (p + 1) (slice_set ks p x)) kind
      ∙ kinds_by fs (p + 1) (slice_set ks p j) old new behind h.1
      ∙ ap (λ (js : List Kind). js ++ new) before
      ∙ append_assoc (take p ks) (j ∷ []) new
  kinds_by (present f fs) p ks [] new e h = absurd h
  kinds_by (present f fs) p ks (k ∷ old) [] e h = absurd h

-- an operation has one or two parameters
op_few : (o : Op) → length (op_signature o).parameters ≤ 16
op_few Iadd = lit≤ tt
op_few Isub = lit≤ tt
op_few Imul = lit≤ tt
op_few Idiv = lit≤ tt
op_few Irem = lit≤ tt
op_few Ineg = lit≤ tt
op_few Ieq = lit≤ tt
op_few Ilt = lit≤ tt
op_few Ladd = lit≤ tt
op_few Lsub = lit≤ tt
op_few Lmul = lit≤ tt
op_few Ldiv = lit≤ tt
op_few Lrem = lit≤ tt
op_few Lneg = lit≤ tt
op_few Leq = lit≤ tt
op_few Llt = lit≤ tt
op_few I2l = lit≤ tt
op_few L2i = lit≤ tt
op_few Not = lit≤ tt
op_few Beq = lit≤ tt
op_few Concat = lit≤ tt
op_few Seq = lit≤ tt
op_few Len = lit≤ tt

pub few_parameters : (t : Tree) (m : Signature) → IsTyped t m → length m.parameters ≤ 16
few_parameters (constant x) m h = let e = ap (λ (s : Signature). length s.parameters) h in omega arith
few_parameters (identity k) m h = let e = ap (λ (s : Signature). length s.parameters) h in omega arith
few_parameters (operation o) m h = let e = ap (λ (s : Signature). length s.parameters) h in omega (arith, op_few o)
few_parameters (insert t p xs) m (n, typed, inserts) =
    let made = ap (λ (s : Signature). length s.parameters) inserts.made in
    let count = simp (length-append, length-take, length-drop) at made in
    omega (arith, few_parameters t n typed)
few_parameters (discard t p ks) m (n, typed, discards) =
    let made = ap (λ (s : Signature). length s.parameters) discards.made in
    let count = simp (length-append, length-take, length-drop) at made in
    let few = discards.few in
    let inside = discards.inside in
    omega arith
few_parameters (permute t new_type r) m (n, typed, reorders, made) = reorders.few
few_parameters (filter t p fs) m (n, typed, inside, returns, firsts, filters) =
    omega (arith, same_count p fs n.parameters m.parameters inside firsts filters, few_parameters t n typed)
few_parameters (filter_return t f) m (k, typed, last) = few_parameters t _ typed
few_parameters (fold t c) m (k, ks, typed, combiner, begins) = omega (arith, few_parameters t _ typed)
few_parameters (guard c x y) m (ks, test, begins, first, second) = few_parameters x m first
few_parameters (point p x y) m (first, second) = few_parameters x m first
few_parameters (invoke s n) m (few, made) = let many = ap (λ (k : Signature). length k.parameters) made in omega (arith, few)

-- a parameter that is removed and inserted again with another kind is replaced
pub replaced : (ks : List Kind) (p : ℕ) (k : Kind) → p < length ks → with_parameters (without_parameters ks p 1) p (k ∷ []) ≡ slice_set ks p k
replaced ks p k inside =
    let front : length (take p ks) ≡ p = omega (arith, length-take p ks) in
    let room : p ≤ length (take p ks) = omega arith in
    let first : take p (take p ks ++ drop (p + 1) ks) ≡ take p ks =
    take-append-le p (take p ks) (drop (p + 1) ks) (omega arith) ∙ take_all p (take p ks) (omega arith) in
    let behind : drop p (take p ks ++ drop (p + 1) ks) ≡ drop (p + 1) ks = drop_at (take p ks) (drop (p + 1) ks) p front in
    (λ i. first i ++ (k ∷ behind i))
    ∙ (λ i. sym (take-set ks p k) i ++ sym (drop-set ks p k inside) i)
    ∙ take-append-drop p (slice_set ks p k)

-- a filter at a position: the position is inside, the filter has one parameter, and the rest is typed after it
pub record FilterAt (f : Tree) (rest : Filters) (p : ℕ) (ks : List Kind) : Type 0 where
  pub inside : p < length ks
  pub typed : (m : Signature) × IsTyped f m
  pub unary : length (type_of f).parameters ≡ 1
  pub behind : (x : Kind) (q : ℕ) → q ≡ p + 1 → (new : List Kind) × AreTyped rest (drop q (slice_set ks p x)) new

filter_by : (f : Tree) (rest : Filters) (p : ℕ) (ks old new : List Kind) → drop p ks ≡ old → AreTyped (present f rest) old new → FilterAt f rest p ks
filter_by f rest p ks (k ∷ old) (j ∷ new) e h =
    let whole = type_computed f _ h.0 in
    let some = ap (λ (xs : List Kind). length xs) e in
    record {
      inside = omega (arith, length-drop p ks);
      typed = (_, h.0);
      unary = ap (λ (s : Signature). length s.parameters) whole;
      behind = λ x q next.
          let place : q ≡ suc p = omega arith in
          (new, subst (λ xs. AreTyped rest xs new) (sym (set_at p ks old k x e).1 ∙ ap (λ n. drop n (slice_set ks p x)) (sym place)) h.1);
    }
filter_by f rest p ks [] new e h = absurd h
filter_by f rest p ks (k ∷ old) [] e h = absurd h

pub filter_at : (f : Tree) (rest : Filters) (p : ℕ) (ks new : List Kind) → AreTyped (present f rest) (drop p ks) new → FilterAt f rest p ks
filter_at f rest p ks new h = filter_by f rest p ks (drop p ks) new refl h

none_by : (rest : Filters) (p q : ℕ) (ks old new : List Kind) → q ≡ p + 1 → drop p ks ≡ old → AreTyped (absent rest) old new → (js : List Kind) × AreTyped rest (drop q ks) js
none_by rest p q ks (k ∷ old) (j ∷ new) next e h =
    let place : q ≡ suc p = omega arith in
    (new, subst (λ xs. AreTyped rest xs new) (sym (split_at p ks old k e).1 ∙ ap (λ n. drop n ks) (sym place)) h.1)
none_by rest p q ks [] new next e h = absurd h
none_by rest p q ks (k ∷ old) [] next e h = absurd h

pub none_at : (rest : Filters) (p q : ℕ) (ks new : List Kind) → q ≡ p + 1 → AreTyped (absent rest) (drop p ks) new → (js : List Kind) × AreTyped rest (drop q ks) js
none_at rest p q ks new next h = none_by rest p q ks (drop p ks) new next refl h

-- the first kind of a list with one
pub first_kind : (ks : List Kind) (k : Kind) → length ks ≡ 1 → k ≡ slice_index_or ks 0 k → k ≡ kind_at ks 0
first_kind [] k one h = absurd (omega arith)
first_kind (x ∷ xs) k one h = h

-- the facts of their target's type that the parts of a typed tree need
pub insert_inside : (t : Tree) (p : ℕ) (xs : List Value) (m : Signature) → IsTyped (insert t p xs) m → p + length xs ≤ length (type_of t).parameters
insert_inside t p xs m (n, typed, inserts) =
    let same = ap (λ (s : Signature). length s.parameters) (type_computed t n typed) in omega (arith, inserts.inside)

pub drop_inside : (t : Tree) (p : ℕ) (ks : List Kind) (m : Signature) → IsTyped (discard t p ks) m
    → (p ≤ length (type_of t).parameters) × (length (type_of t).parameters + length ks ≤ 16)
drop_inside t p ks m (n, typed, discards) =
    let same = ap (λ (s : Signature). length s.parameters) (type_computed t n typed) in
    (omega (arith, discards.inside), omega (arith, discards.few))

pub fold_inside : (t c : Tree) (m : Signature) → IsTyped (fold t c) m → 1 ≤ length (type_of t).parameters
fold_inside t c m (k, ks, typed, combiner, begins) =
    let same = ap (λ (s : Signature). length s.parameters) (type_computed t _ typed) in omega arith

pub filter_inside : (t : Tree) (p : ℕ) (fs : Filters) (m : Signature) → IsTyped (filter t p fs) m
    → ((new : List Kind) × AreTyped fs (drop p (type_of t).parameters) new) × (length (type_of t).parameters ≤ 16)
filter_inside t p fs m (n, typed, inside, returns, firsts, filters) =
    let same = type_computed t n typed in
    let count = ap (λ (s : Signature). length s.parameters) same in (
      (drop p m.parameters, subst (λ (s : Signature). AreTyped fs (drop p s.parameters) (drop p m.parameters)) (sym same) filters),
      omega (arith, few_parameters t n typed),
    )
