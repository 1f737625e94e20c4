-- A typed tree returns a value of its return kind for arguments that fit, if the sites that it invokes do; and two environments that agree
-- on the points, and on the results of its sites for arguments that fit, agree on it.
use Rattle.std.proofs.Common.{◌≡◌, ℕ, zero, suc, ◌+◌, ◌≤◌, ◌<◌, refl, ap, sym, ◌∙◌, subst, List, [], ◌∷◌, ◌++◌, append_assoc, take, drop, map, length, arith, Bool, true, false, Result, Ok, Err, length-take, length-drop, ℤ, if◌then◌else◌}
use Rattle.std.specs.Prelude.{slice_set, slice_index_or, nat_le}
use Rattle.std.specs.List.{All}
use Rattle.std.proofs.lemmas.List.{map-append, take-map, drop-map, take-append-drop, take-append-le, take_all, drop_at, drop-drop, length-map, map-set}
use Rattle.mh_type.specs.declared.kind.Kind.{Kind}
use Rattle.mh_type.specs.declared.kind.Kind.TheVariants as kind
use Rattle.mh_type.specs.declared.operation.Op.{Op}
use Rattle.mh_type.specs.declared.operation.Op.TheVariants.{Iadd, Isub, Imul, Idiv, Irem, Ineg, Ieq, Ilt, Ladd, Lsub, Lmul, Ldiv, Lrem, Lneg, Leq, Llt, I2l, L2i, Not, Beq, Concat, Seq, Len}
use Rattle.mh_type.specs.declared.value.Value.{Value}
use Rattle.mh_type.specs.declared.value.Value.TheVariants.{Int, Long, Boolean, Text}
use Rattle.mh_type.specs.declared.outcome.Throw.{Throw}
use Rattle.mh_type.specs.declared.outcome.Outcome.{Outcome}
use Rattle.mh_type.specs.declared.outcome.Outcome.TheVariants.{Thrown, Value as Value'}
use Rattle.mh_type.specs.Fits.{Fits}
use Rattle.mh_type.specs.Kinds.{kind_of}
use Rattle.mh_type.specs.Operations.{operate, op_signature, two_ints, two_longs, two_booleans, two_texts, one_int, one_long, first, with_boolean, with_text, is_zero, joined}
use Rattle.mh_type.specs.Limits.{longest_text}
use Rattle.mh_type.specs.declared.outcome.Throw.TheVariants.{TextTooLong}
use Rattle.mh_type.specs.Signature.{Signature}
use Rattle.mh_tree.specs.Arity.{arity}
use Rattle.mh_tree.specs.Environment.{Environment}
use Rattle.mh_tree.specs.Meaning.{◌>>=◌, mean, filtered, with_arguments, with_value, argument, put_in, taken_out, choose, is_valid}
use Rattle.mh_tree.specs.Sites.{EachInvoke, EachInvokes}
use Rattle.mh_tree.specs.Tree.{Tree, Filters, constant, identity, operation, insert, discard, permute, filter, filter_return, fold, guard, point, invoke, no_more, absent, present}
use Rattle.mh_tree.specs.Typing.{IsTyped, AreTyped, Inserts, Discards, Reorders, BeginsWith, kind_at}
use Rattle.mh_tree.specs.Laws.LeadingArguments.{arity_counts}
use Rattle.mh_tree.specs.Laws.Types.{split_at, set_at}

-- a value of a kind, or a throw
abbrev pub GivesKind : Kind → Outcome → Type 0
GivesKind k (Value' x) = kind_of x ≡ k
GivesKind k (Thrown t) = Unit {0}

of_ints : (b : List Value) (go : ℤ → ℤ → Outcome) (k : Kind) → map kind_of b ≡ kind.Int ∷ kind.Int ∷ [] → ((x y : ℤ) → GivesKind k (go x y)) → GivesKind k (two_ints b go)
of_ints [] go k h g = cc
of_ints (x ∷ []) go k h g = cc
of_ints (Int x ∷ Int y ∷ r) go k h g = g x y
of_ints (Int x ∷ Long y ∷ r) go k h g = cc
of_ints (Int x ∷ Boolean y ∷ r) go k h g = cc
of_ints (Int x ∷ Text y ∷ r) go k h g = cc
of_ints (Long x ∷ y ∷ r) go k h g = cc
of_ints (Boolean x ∷ y ∷ r) go k h g = cc
of_ints (Text x ∷ y ∷ r) go k h g = cc

of_longs : (b : List Value) (go : ℤ → ℤ → Outcome) (k : Kind) → map kind_of b ≡ kind.Long ∷ kind.Long ∷ [] → ((x y : ℤ) → GivesKind k (go x y)) → GivesKind k (two_longs b go)
of_longs [] go k h g = cc
of_longs (x ∷ []) go k h g = cc
of_longs (Long x ∷ Long y ∷ r) go k h g = g x y
of_longs (Long x ∷ Int y ∷ r) go k h g = cc
of_longs (Long x ∷ Boolean y ∷ r) go k h g = cc
of_longs (Long x ∷ Text y ∷ r) go k h g = cc
of_longs (Int x ∷ y ∷ r) go k h g = cc
of_longs (Boolean x ∷ y ∷ r) go k h g = cc
of_longs (Text x ∷ y ∷ r) go k h g = cc

of_booleans : (b : List Value) (go : Bool → Bool → Outcome) (k : Kind) → map kind_of b ≡ kind.Boolean ∷ kind.Boolean ∷ [] → ((x y : Bool) → GivesKind k (go x y)) → GivesKind k (two_booleans b go)
of_booleans [] go k h g = cc
of_booleans (x ∷ []) go k h g = cc
of_booleans (Boolean x ∷ Boolean y ∷ r) go k h g = g x y
of_booleans (Boolean x ∷ Int y ∷ r) go k h g = cc
of_booleans (Boolean x ∷ Long y ∷ r) go k h g = cc
of_booleans (Boolean x ∷ Text y ∷ r) go k h g = cc
of_booleans (Int x ∷ y ∷ r) go k h g = cc
of_booleans (Long x ∷ y ∷ r) go k h g = cc
of_booleans (Text x ∷ y ∷ r) go k h g = cc

of_texts : (b : List Value) (go : List ℕ → List ℕ → Outcome) (k : Kind) → map kind_of b ≡ kind.Text ∷ kind.Text ∷ [] → ((x y : List ℕ) → GivesKind k (go x y)) → GivesKind k (two_texts b go)
of_texts [] go k h g = cc
of_texts (x ∷ []) go k h g = cc
of_texts (Text x ∷ Text y ∷ r) go k h g = g x y
of_texts (Text x ∷ Int y ∷ r) go k h g = cc
of_texts (Text x ∷ Long y ∷ r) go k h g = cc
of_texts (Text x ∷ Boolean y ∷ r) go k h g = cc
of_texts (Int x ∷ y ∷ r) go k h g = cc
of_texts (Long x ∷ y ∷ r) go k h g = cc
of_texts (Boolean x ∷ y ∷ r) go k h g = cc

of_int : (b : List Value) (go : ℤ → Outcome) (k : Kind) → map kind_of b ≡ kind.Int ∷ [] → ((x : ℤ) → GivesKind k (go x)) → GivesKind k (one_int b go)
of_int [] go k h g = cc
of_int (Int x ∷ r) go k h g = g x
of_int (Long x ∷ r) go k h g = cc
of_int (Boolean x ∷ r) go k h g = cc
of_int (Text x ∷ r) go k h g = cc

of_long : (b : List Value) (go : ℤ → Outcome) (k : Kind) → map kind_of b ≡ kind.Long ∷ [] → ((x : ℤ) → GivesKind k (go x)) → GivesKind k (one_long b go)
of_long [] go k h g = cc
of_long (Long x ∷ r) go k h g = g x
of_long (Int x ∷ r) go k h g = cc
of_long (Boolean x ∷ r) go k h g = cc
of_long (Text x ∷ r) go k h g = cc

of_boolean : (b : List Value) (go : Bool → Outcome) (k : Kind) → map kind_of b ≡ kind.Boolean ∷ [] → ((x : Bool) → GivesKind k (go x)) → GivesKind k (first b (λ x. with_boolean x go))
of_boolean [] go k h g = cc
of_boolean (Boolean x ∷ r) go k h g = g x
of_boolean (Int x ∷ r) go k h g = cc
of_boolean (Long x ∷ r) go k h g = cc
of_boolean (Text x ∷ r) go k h g = cc

of_text : (b : List Value) (go : List ℕ → Outcome) (k : Kind) → map kind_of b ≡ kind.Text ∷ [] → ((x : List ℕ) → GivesKind k (go x)) → GivesKind k (first b (λ x. with_text x go))
of_text [] go k h g = cc
of_text (Text x ∷ r) go k h g = g x
of_text (Int x ∷ r) go k h g = cc
of_text (Long x ∷ r) go k h g = cc
of_text (Boolean x ∷ r) go k h g = cc

if_kind : (c : Bool) (k : Kind) (x y : Outcome) → GivesKind k x → GivesKind k y → GivesKind k (if c then x else y)
if_kind true k x y h g = h
if_kind false k x y h g = g

of_joined : (s t : List ℕ) → GivesKind kind.Text (joined s t)
of_joined s t = if_kind (nat_le (length s + length t) longest_text) kind.Text (Value' (Text (s ++ t))) (Thrown TextTooLong) refl tt

of_operation : (o : Op) (b : List Value) → Fits (op_signature o) b → GivesKind (op_signature o).ret (operate o b)
of_operation Iadd b h = of_ints b _ _ h (λ x y. refl)
of_operation Isub b h = of_ints b _ _ h (λ x y. refl)
of_operation Imul b h = of_ints b _ _ h (λ x y. refl)
of_operation Idiv b h = of_ints b _ _ h (λ x y. if_kind (is_zero y) _ _ _ tt refl)
of_operation Irem b h = of_ints b _ _ h (λ x y. if_kind (is_zero y) _ _ _ tt refl)
of_operation Ineg b h = of_int b _ _ h (λ x. refl)
of_operation Ieq b h = of_ints b _ _ h (λ x y. refl)
of_operation Ilt b h = of_ints b _ _ h (λ x y. refl)
of_operation Ladd b h = of_longs b _ _ h (λ x y. refl)
of_operation Lsub b h = of_longs b _ _ h (λ x y. refl)
of_operation Lmul b h = of_longs b _ _ h (λ x y. refl)
of_operation Ldiv b h = of_longs b _ _ h (λ x y. if_kind (is_zero y) _ _ _ tt refl)
of_operation Lrem b h = of_longs b _ _ h (λ x y. if_kind (is_zero y) _ _ _ tt refl)
of_operation Lneg b h = of_long b _ _ h (λ x. refl)
of_operation Leq b h = of_longs b _ _ h (λ x y. refl)
of_operation Llt b h = of_longs b _ _ h (λ x y. refl)
of_operation I2l b h = of_int b _ _ h (λ x. refl)
of_operation L2i b h = of_long b _ _ h (λ x. refl)
of_operation Not b h = of_boolean b _ _ h (λ x. refl)
of_operation Beq b h = of_booleans b _ _ h (λ x y. refl)
of_operation Concat b h = of_texts b _ _ h (λ x y. of_joined x y)
of_operation Seq b h = of_texts b _ _ h (λ x y. refl)
of_operation Len b h = of_text b _ _ h (λ x. refl)

-- the kind of an argument
kind_there : (a : List Value) (i : ℕ) → i < length a → kind_of (argument a i) ≡ kind_at (map kind_of a) i
kind_there [] i h = absurd (omega arith)
kind_there (x ∷ a) zero h = refl
kind_there (x ∷ a) (suc i) h = kind_there a i (omega arith)

first_kind : (a : List Value) (k : Kind) → map kind_of a ≡ k ∷ [] → kind_of (argument a 0) ≡ k
first_kind [] k h = cc
first_kind (x ∷ a) k h = cc

-- kinds that are removed and inserted again
kinds_back : (ks : List Kind) (p n : ℕ) → p + n ≤ length ks → take p (take p ks ++ drop (p + n) ks) ++ (take n (drop p ks) ++ drop p (take p ks ++ drop (p + n) ks)) ≡ ks
kinds_back ks p n inside =
    let front : length (take p ks) ≡ p = omega (arith, length-take p ks) in
    let before : take p (take p ks ++ drop (p + n) ks) ≡ take p ks = take-append-le p (take p ks) (drop (p + n) ks) (omega arith) ∙ take_all p (take p ks) (omega arith) in
    let behind : drop p (take p ks ++ drop (p + n) ks) ≡ drop (p + n) ks = drop_at (take p ks) (drop (p + n) ks) p front in
    let rest : take n (drop p ks) ++ drop (p + n) ks ≡ drop p ks = ap (λ (js : List Kind). take n (drop p ks) ++ js) (sym (drop-drop n p ks)) ∙ take-append-drop n (drop p ks) in
    (λ i. before i ++ (take n (drop p ks) ++ behind i)) ∙ ap (λ (js : List Kind). take p ks ++ js) rest ∙ take-append-drop p ks

kinds_without : (ks more : List Kind) (p : ℕ) → p ≤ length ks → take p (take p ks ++ (more ++ drop p ks)) ++ drop (p + length more) (take p ks ++ (more ++ drop p ks)) ≡ ks
kinds_without ks more p inside =
    let front : length (take p ks) ≡ p = omega (arith, length-take p ks) in
    let before : take p (take p ks ++ (more ++ drop p ks)) ≡ take p ks = take-append-le p (take p ks) (more ++ drop p ks) (omega arith) ∙ take_all p (take p ks) (omega arith) in
    let behind : drop (p + length more) (take p ks ++ (more ++ drop p ks)) ≡ drop p ks =
    sym (drop-drop (length more) p (take p ks ++ (more ++ drop p ks))) ∙ ap (drop (length more)) (drop_at (take p ks) (more ++ drop p ks) p front) ∙ drop_at more (drop p ks) (length more) refl in
    (λ i. before i ++ behind i) ∙ take-append-drop p ks

pub fits_inserted : (n m : Signature) (p : ℕ) (xs a : List Value) → Inserts n p xs m → Fits m a → Fits n (put_in a p xs)
fits_inserted n m p xs a inserts fits =
    let whole : map kind_of a ≡ take p n.parameters ++ drop (p + length xs) n.parameters = fits ∙ ap (λ (s : Signature). s.parameters) inserts.made in
    map-append kind_of (take p a) (xs ++ drop p a)
    ∙ (λ i. sym (take-map kind_of p a) i ++ map-append kind_of xs (drop p a) i)
    ∙ (λ i. take p (whole i) ++ (inserts.kinds i ++ (sym (drop-map kind_of p a) ∙ ap (λ (ks : List Kind). drop p ks) whole) i))
    ∙ kinds_back n.parameters p (length xs) inserts.inside

pub fits_discarded : (n m : Signature) (p : ℕ) (ks : List Kind) (a : List Value) → Discards n p ks m → Fits m a → Fits n (taken_out a p (length ks))
fits_discarded n m p ks a discards fits =
    let whole : map kind_of a ≡ take p n.parameters ++ (ks ++ drop p n.parameters) = fits ∙ ap (λ (s : Signature). s.parameters) discards.made in
    map-append kind_of (take p a) (drop (p + length ks) a)
    ∙ (λ i. sym (take-map kind_of p a) i ++ sym (drop-map kind_of (p + length ks) a) i)
    ∙ (λ i. take p (whole i) ++ drop (p + length ks) (whole i))
    ∙ kinds_without n.parameters ks p discards.inside

many : (m : Signature) (a : List Value) → Fits m a → length a ≡ length m.parameters
many m a fits = sym (length-map a kind_of) ∙ ap (λ (ks : List Kind). length ks) fits

reordered_kinds : (m : Signature) (a : List Value) → Fits m a → (r : List ℕ) → All (λ i. i < length m.parameters) r → map kind_of (map (argument a) r) ≡ map (λ i. kind_at m.parameters i) r
reordered_kinds m a fits [] all = refl
reordered_kinds m a fits (i ∷ r) all =
    let inside : i < length m.parameters = all 0 0 (omega arith) in
    let here : kind_of (argument a i) ≡ kind_at m.parameters i = kind_there a i (omega (arith, many m a fits)) ∙ ap (λ (ks : List Kind). kind_at ks i) fits in
    let rest = reordered_kinds m a fits r (λ k d below. all (suc k) d (omega arith)) in
    λ j. here j ∷ rest j

pub fits_permuted : (n m : Signature) (r : List ℕ) (a : List Value) → Reorders n m r → Fits m a → Fits n (map (argument a) r)
fits_permuted n m r a reorders fits = reordered_kinds m a fits r reorders.inside ∙ sym reorders.same

pub fits_leading : (c : Tree) (ret : Kind) (ks : List Kind) (m : Signature) (a : List Value) → IsTyped c (record { ret = ret; parameters = ks }) → BeginsWith m.parameters ks → Fits m a → Fits (record { ret = ret; parameters = ks }) (take (arity c) a)
fits_leading c ret ks m a typed begins fits =
    sym (take-map kind_of (arity c) a) ∙ (λ i. take (arity_counts c _ typed i) (fits i)) ∙ sym begins

-- the kinds after a filter
set_kinds : (a : List Value) (p : ℕ) (x : Value) → map kind_of (slice_set a p x) ≡ slice_set (map kind_of a) p (kind_of x)
set_kinds a p x = map-set kind_of a p x

-- continues with a value of the kind
then_kind : (k j : Kind) (o : Outcome) (go : Value → Outcome) → GivesKind k o → ((x : Value) → kind_of x ≡ k → GivesKind j (go x)) → GivesKind j (o >>= go)
then_kind k j (Value' x) go h g = g x h
then_kind k j (Thrown t) go h g = tt

choose_kind : (k : Kind) (z : Value) (x y : Outcome) → GivesKind k x → GivesKind k y → GivesKind k (choose z x y)
choose_kind k (Boolean true) x y h g = h
choose_kind k (Boolean false) x y h g = g
choose_kind k (Int n) x y h g = g
choose_kind k (Long n) x y h g = g
choose_kind k (Text t) x y h g = g

-- arguments after filters that fit, if none threw
abbrev FitAfter : List Kind → Result (List Value) Throw → Type 0
FitAfter ks (Ok a) = map kind_of a ≡ ks
FitAfter ks (Err t) = Unit {0}

then_fits : (k : Kind) (ks : List Kind) (o : Outcome) (go : Value → Result (List Value) Throw) → GivesKind k o → ((x : Value) → kind_of x ≡ k → FitAfter ks (go x)) → FitAfter ks (with_value o go)
then_fits k ks (Value' x) go h g = g x h
then_fits k ks (Thrown t) go h g = tt

after_fits : (k : Kind) (ks : List Kind) (r : Result (List Value) Throw) (go : List Value → Outcome) → FitAfter ks r → ((a : List Value) → map kind_of a ≡ ks → GivesKind k (go a)) → GivesKind k (with_arguments r go)
after_fits k ks (Ok a) go h g = g a h
after_fits k ks (Err t) go h g = tt

-- the kind at the first of the remaining positions
found : (ks old : List Kind) (p : ℕ) (j : Kind) → drop p ks ≡ j ∷ old → kind_at ks p ≡ j
found [] old zero j h = cc
found [] old (suc p) j h = cc
found (k ∷ ks) old zero j h = cc
found (k ∷ ks) old (suc p) j h = found ks old p j h

-- the kinds from a position on, if the first of them is replaced
next_kinds : (ks old : List Kind) (p : ℕ) (j k : Kind) → drop p ks ≡ j ∷ old → (take (p + 1) (slice_set ks p k) ≡ take p ks ++ (k ∷ [])) × (drop (p + 1) (slice_set ks p k) ≡ old) × (p < length ks)
next_kinds ks old p j k h =
    let some = ap (λ (js : List Kind). length js) h in
    let one : p + 1 ≡ suc p = omega arith in
    let both = set_at p ks old j k h in
    (ap (λ n. take n (slice_set ks p k)) one ∙ both.0, ap (λ n. drop n (slice_set ks p k)) one ∙ both.1, omega (arith, some, length-drop p ks))

same_kinds : (ks old : List Kind) (p : ℕ) (j : Kind) → drop p ks ≡ j ∷ old → (take (p + 1) ks ≡ take p ks ++ (j ∷ [])) × (drop (p + 1) ks ≡ old)
same_kinds ks old p j h =
    let one : p + 1 ≡ suc p = omega arith in
    let both = split_at p ks old j h in
    (ap (λ n. take n ks) one ∙ both.0, ap (λ n. drop n ks) one ∙ both.1)

module _ (v : Environment) (P : ℕ → Signature → Type 0) (gives : (s : ℕ) (n : Signature) → P s n → (a : List Value) → Fits n a → GivesKind n.ret (v.calls s a)) where
  mutual
    -- a value of the return kind
    pub result_kind : (t : Tree) (m : Signature) → IsTyped t m → EachInvoke P t → (a : List Value) → Fits m a → GivesKind m.ret (mean v t a)
    result_kind (constant x) m h e a fits = ap (λ (s : Signature). s.ret) (sym h)
    result_kind (identity k) m h e a fits = first_kind a k (fits ∙ ap (λ (s : Signature). s.parameters) h) ∙ ap (λ (s : Signature). s.ret) (sym h)
    result_kind (operation o) m h e a fits =
        subst (λ k. GivesKind k (operate o a)) (ap (λ (s : Signature). s.ret) (sym h)) (of_operation o a (fits ∙ ap (λ (s : Signature). s.parameters) h))
    result_kind (insert t p xs) m (n, typed, inserts) e a fits =
        subst (λ k. GivesKind k (mean v t (put_in a p xs))) (ap (λ (s : Signature). s.ret) (sym inserts.made)) (result_kind t n typed e (put_in a p xs) (fits_inserted n m p xs a inserts fits))
    result_kind (discard t p ks) m (n, typed, discards) e a fits =
        subst (λ k. GivesKind k (mean v t (taken_out a p (length ks)))) (ap (λ (s : Signature). s.ret) (sym discards.made)) (result_kind t n typed e (taken_out a p (length ks)) (fits_discarded n m p ks a discards fits))
    result_kind (permute t new_type r) m (n, typed, reorders, made) e a fits =
        subst (λ k. GivesKind k (mean v t (map (argument a) r))) reorders.returns (result_kind t n typed e (map (argument a) r) (fits_permuted n m r a reorders fits))
    result_kind (filter t p fs) m (n, typed, inside, returns, firsts, filters) e a fits =
        let start : drop p (map kind_of a) ≡ drop p m.parameters = ap (λ (ks : List Kind). drop p ks) fits in
        let whole : take p (map kind_of a) ++ drop p n.parameters ≡ n.parameters = ap (λ (ks : List Kind). take p ks ++ drop p n.parameters) fits ∙ ap (λ (ks : List Kind). ks ++ drop p n.parameters) firsts ∙ take-append-drop p n.parameters in
        after_fits m.ret n.parameters (filtered v fs p a) (mean v t)
        (subst (λ ks. FitAfter ks (filtered v fs p a)) whole (filtered_fits fs (drop p n.parameters) (drop p m.parameters) filters e.1 p a start))
        (λ b is. subst (λ k. GivesKind k (mean v t b)) (sym returns) (result_kind t n typed e.0 b is))
    result_kind (filter_return t f) m (k, typed, last) e a fits =
        then_kind k m.ret (mean v t a) (λ x. mean v f (x ∷ [])) (result_kind t _ typed e.0 a fits) (λ x is. result_kind f _ last e.1 (x ∷ []) (ap (λ j. j ∷ []) is))
    result_kind (fold t c) m (k, ks, typed, combiner, begins) e a fits =
        then_kind k m.ret (mean v c (take (arity c) a)) (λ x. mean v t (x ∷ a)) (result_kind c _ combiner e.1 (take (arity c) a) (fits_leading c k ks m a combiner begins fits))
        (λ x is. result_kind t _ typed e.0 (x ∷ a) (λ i. is i ∷ fits i))
    result_kind (guard c x y) m (ks, test, begins, one, two) e a fits =
        then_kind kind.Boolean m.ret (mean v c (take (arity c) a)) (λ z. choose z (mean v x a) (mean v y a)) (result_kind c _ test e.0 (take (arity c) a) (fits_leading c kind.Boolean ks m a test begins fits))
        (λ z is. choose_kind m.ret z _ _ (result_kind x m one e.1 a fits) (result_kind y m two e.2 a fits))
    result_kind (point p x y) m (one, two) e a fits = if_kind (is_valid v p) m.ret _ _ (result_kind x m one e.0 a fits) (result_kind y m two e.1 a fits)
    result_kind (invoke s n) m (few, made) e a fits =
        let same : map kind_of a ≡ n.parameters = fits ∙ ap (λ (q : Signature). q.parameters) made in
        let counts = ap (λ (ks : List Kind). length ks) same in
        let all : take (length n.parameters) a ≡ a = take_all (length n.parameters) a (omega (arith, counts, length-map a kind_of)) in
        subst (λ k. GivesKind k (v.calls s (take (length n.parameters) a))) (ap (λ (q : Signature). q.ret) (sym made)) (gives s n e (take (length n.parameters) a) (ap (map kind_of) all ∙ same))

    -- filters preserve the kinds before them, and those that they return
    pub filtered_fits : (fs : Filters) (old new : List Kind) → AreTyped fs old new → EachInvokes P fs → (p : ℕ) (a : List Value) → drop p (map kind_of a) ≡ new → FitAfter (take p (map kind_of a) ++ old) (filtered v fs p a)
    filtered_fits no_more old new h e p a is = sym (ap (λ (ks : List Kind). take p (map kind_of a) ++ ks) (sym h ∙ sym is) ∙ take-append-drop p (map kind_of a))
    filtered_fits (absent fs) (k ∷ old) (j ∷ new) h e p a is =
        let here = same_kinds (map kind_of a) new p j is in
        let split : take (p + 1) (map kind_of a) ++ old ≡ take p (map kind_of a) ++ (k ∷ old) =
        ap (λ (ks : List Kind). ks ++ old) here.0 ∙ append_assoc (take p (map kind_of a)) (j ∷ []) old ∙ ap (λ i. take p (map kind_of a) ++ (i ∷ old)) h.0 in
        subst (λ ks. FitAfter ks (filtered v fs (p + 1) a)) split (filtered_fits fs old new h.1 e (p + 1) a here.1)
    filtered_fits (absent fs) [] new h e p a is = absurd h
    filtered_fits (absent fs) (k ∷ old) [] h e p a is = absurd h
    filtered_fits (present f fs) (k ∷ old) (j ∷ new) h e p a is =
        let ks = map kind_of a in
        let inside : p < length a = omega (arith, (next_kinds ks new p j k is).2, length-map a kind_of) in
        let here : kind_of (argument a p) ≡ j = kind_there a p inside ∙ found ks new p j is in
        then_fits k (take p ks ++ (k ∷ old)) (mean v f (argument a p ∷ [])) (λ x. filtered v fs (p + 1) (slice_set a p x))
        (result_kind f _ h.0 e.0 (argument a p ∷ []) (ap (λ i. i ∷ []) here))
        (λ x same.
        let set : map kind_of (slice_set a p x) ≡ slice_set ks p k = set_kinds a p x ∙ ap (λ i. slice_set ks p i) same in
        let next = next_kinds ks new p j k is in
        let split : take (p + 1) (map kind_of (slice_set a p x)) ++ old ≡ take p ks ++ (k ∷ old) =
        ap (λ (js : List Kind). take (p + 1) js ++ old) set ∙ ap (λ (js : List Kind). js ++ old) next.0 ∙ append_assoc (take p ks) (k ∷ []) old in
        subst (λ js. FitAfter js (filtered v fs (p + 1) (slice_set a p x))) split
        (filtered_fits fs old new h.1 e.1 (p + 1) (slice_set a p x) (ap (λ (js : List Kind). drop (p + 1) js) set ∙ next.1)))
    filtered_fits (present f fs) [] new h e p a is = absurd h
    filtered_fits (present f fs) (k ∷ old) [] h e p a is = absurd h

-- continues in the same way with a value of the kind
bind_alike : (k : Kind) (o u : Outcome) (go to : Value → Outcome) → o ≡ u → GivesKind k o → ((x : Value) → kind_of x ≡ k → go x ≡ to x) → (o >>= go) ≡ (u >>= to)
bind_alike k o u go to same h g = by_outcome o h ∙ ap (λ q. q >>= to) same
  where
    by_outcome : (q : Outcome) → GivesKind k q → (q >>= go) ≡ (q >>= to)
    by_outcome (Value' x) is = g x is
    by_outcome (Thrown t) is = refl

filter_alike : (k : Kind) (o u : Outcome) (go to : Value → Result (List Value) Throw) → o ≡ u → GivesKind k o → ((x : Value) → kind_of x ≡ k → go x ≡ to x) → with_value o go ≡ with_value u to
filter_alike k o u go to same h g = by_outcome o h ∙ ap (λ q. with_value q to) same
  where
    by_outcome : (q : Outcome) → GivesKind k q → with_value q go ≡ with_value q to
    by_outcome (Value' x) is = g x is
    by_outcome (Thrown t) is = refl

after_alike : (ks : List Kind) (r q : Result (List Value) Throw) (go to : List Value → Outcome) → r ≡ q → FitAfter ks r → ((a : List Value) → map kind_of a ≡ ks → go a ≡ to a) → with_arguments r go ≡ with_arguments q to
after_alike ks r q go to same h g = by_result r h ∙ ap (λ z. with_arguments z to) same
  where
    by_result : (z : Result (List Value) Throw) → FitAfter ks z → with_arguments z go ≡ with_arguments z to
    by_result (Ok a) is = g a is
    by_result (Err t) is = refl

module _ (v w : Environment) (P : ℕ → Signature → Type 0) (gives : (s : ℕ) (n : Signature) → P s n → (a : List Value) → Fits n a → GivesKind n.ret (v.calls s a)) (valid : v.valid ≡ w.valid) (agree : (s : ℕ) (n : Signature) → P s n → (a : List Value) → Fits n a → v.calls s a ≡ w.calls s a) where
  mutual
    pub mean_alike : (t : Tree) (m : Signature) → IsTyped t m → EachInvoke P t → (a : List Value) → Fits m a → mean v t a ≡ mean w t a
    mean_alike (constant x) m h e a fits = refl
    mean_alike (identity k) m h e a fits = refl
    mean_alike (operation o) m h e a fits = refl
    mean_alike (insert t p xs) m (n, typed, inserts) e a fits = mean_alike t n typed e (put_in a p xs) (fits_inserted n m p xs a inserts fits)
    mean_alike (discard t p ks) m (n, typed, discards) e a fits = mean_alike t n typed e (taken_out a p (length ks)) (fits_discarded n m p ks a discards fits)
    mean_alike (permute t new_type r) m (n, typed, reorders, made) e a fits = mean_alike t n typed e (map (argument a) r) (fits_permuted n m r a reorders fits)
    mean_alike (filter t p fs) m (n, typed, inside, returns, firsts, filters) e a fits =
        let start : drop p (map kind_of a) ≡ drop p m.parameters = ap (λ (ks : List Kind). drop p ks) fits in
        let whole : take p (map kind_of a) ++ drop p n.parameters ≡ n.parameters = ap (λ (ks : List Kind). take p ks ++ drop p n.parameters) fits ∙ ap (λ (ks : List Kind). ks ++ drop p n.parameters) firsts ∙ take-append-drop p n.parameters in
        after_alike n.parameters (filtered v fs p a) (filtered w fs p a) (mean v t) (mean w t) (filtered_alike fs (drop p n.parameters) (drop p m.parameters) filters e.1 p a start)
        (subst (λ ks. FitAfter ks (filtered v fs p a)) whole (filtered_fits v P gives fs (drop p n.parameters) (drop p m.parameters) filters e.1 p a start))
        (λ b is. mean_alike t n typed e.0 b is)
    mean_alike (filter_return t f) m (k, typed, last) e a fits =
        bind_alike k (mean v t a) (mean w t a) (λ x. mean v f (x ∷ [])) (λ x. mean w f (x ∷ [])) (mean_alike t _ typed e.0 a fits) (result_kind v P gives t _ typed e.0 a fits)
        (λ x is. mean_alike f _ last e.1 (x ∷ []) (ap (λ j. j ∷ []) is))
    mean_alike (fold t c) m (k, ks, typed, combiner, begins) e a fits =
        let lead = fits_leading c k ks m a combiner begins fits in
        bind_alike k (mean v c (take (arity c) a)) (mean w c (take (arity c) a)) (λ x. mean v t (x ∷ a)) (λ x. mean w t (x ∷ a)) (mean_alike c _ combiner e.1 (take (arity c) a) lead) (result_kind v P gives c _ combiner e.1 (take (arity c) a) lead)
        (λ x is. mean_alike t _ typed e.0 (x ∷ a) (λ i. is i ∷ fits i))
    mean_alike (guard c x y) m (ks, test, begins, one, two) e a fits =
        let lead = fits_leading c kind.Boolean ks m a test begins fits in
        λ i. mean_alike c _ test e.0 (take (arity c) a) lead i >>= (λ z. choose z (mean_alike x m one e.1 a fits i) (mean_alike y m two e.2 a fits i))
    mean_alike (point p x y) m (one, two) e a fits =
        λ i. if slice_index_or (valid i) p false then mean_alike x m one e.0 a fits i else mean_alike y m two e.1 a fits i
    mean_alike (invoke s n) m (few, made) e a fits =
        let same : map kind_of a ≡ n.parameters = fits ∙ ap (λ (q : Signature). q.parameters) made in
        let counts = ap (λ (ks : List Kind). length ks) same in
        let all : take (length n.parameters) a ≡ a = take_all (length n.parameters) a (omega (arith, counts, length-map a kind_of)) in
        agree s n e (take (length n.parameters) a) (ap (map kind_of) all ∙ same)

    filtered_alike : (fs : Filters) (old new : List Kind) → AreTyped fs old new → EachInvokes P fs → (p : ℕ) (a : List Value) → drop p (map kind_of a) ≡ new → filtered v fs p a ≡ filtered w fs p a
    filtered_alike no_more old new h e p a is = refl
    filtered_alike (absent fs) (k ∷ old) (j ∷ new) h e p a is = filtered_alike fs old new h.1 e (p + 1) a (same_kinds (map kind_of a) new p j is).1
    filtered_alike (absent fs) [] new h e p a is = absurd h
    filtered_alike (absent fs) (k ∷ old) [] h e p a is = absurd h
    filtered_alike (present f fs) (k ∷ old) (j ∷ new) h e p a is =
        let ks = map kind_of a in
        let inside : p < length a = omega (arith, (next_kinds ks new p j k is).2, length-map a kind_of) in
        let here : kind_of (argument a p) ≡ j = kind_there a p inside ∙ found ks new p j is in
        let fit = ap (λ i. i ∷ []) here in
        filter_alike k (mean v f (argument a p ∷ [])) (mean w f (argument a p ∷ [])) (λ x. filtered v fs (p + 1) (slice_set a p x)) (λ x. filtered w fs (p + 1) (slice_set a p x))
        (mean_alike f _ h.0 e.0 (argument a p ∷ []) fit) (result_kind v P gives f _ h.0 e.0 (argument a p ∷ []) fit)
        (λ x same.
        let set : map kind_of (slice_set a p x) ≡ slice_set ks p k = set_kinds a p x ∙ ap (λ i. slice_set ks p i) same in
        filtered_alike fs old new h.1 e.1 (p + 1) (slice_set a p x) (ap (λ (js : List Kind). drop (p + 1) js) set ∙ (next_kinds ks new p j k is).1))
    filtered_alike (present f fs) [] new h e p a is = absurd h
    filtered_alike (present f fs) (k ∷ old) [] h e p a is = absurd h
