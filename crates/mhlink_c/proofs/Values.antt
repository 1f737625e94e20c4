-- Values that are read one behind another.
use Rattle.std.proofs.Common.{◌≡◌, ◌+◌, ◌-◌, ◌<◌, ◌≤◌, ℕ, min, List, [], ◌∷◌, ◌++◌, Result, Ok, Err, arith, drop, get_or, inr, nat_abs, refl, length, take, subst, sym, ◌∙◌, ap}
use Rattle.std.proofs.lemmas.List.{drop_more, length-drop, length-take, take-append-drop, take_all, take_more}
use Rattle.mh_core.specs.Value.{Value}
use Rattle.mh_core.specs.Value.TheVariants.{Int, Long, Boolean, Text}
use Rattle.mhlink_c.specs.Crossing.{AreNoValues, AreValues, IsValue, bytes_of, value_kind, value_number}
use Rattle.mhlink_c.specs.declared.value.MhlinkValue.{MhlinkValue}

-- the values in order, and the bytes that are left behind the last
abbrev pub AreRead : List MhlinkValue → List ℕ → List Value → List ℕ → Type 0
AreRead [] texts [] rest = rest ≡ texts
AreRead (v ∷ vs) texts (x ∷ xs) rest = IsValue v texts x × AreRead vs (drop (length (bytes_of x)) texts) xs rest
AreRead _ texts _ rest = ⊥

pub read_are : (vs : List MhlinkValue) (texts : List ℕ) (xs : List Value) (rest : List ℕ) → AreRead vs texts xs rest → AreValues vs texts xs
read_are [] texts [] rest is = tt
read_are (v ∷ vs) texts (x ∷ xs) rest is = (is.0, read_are vs (drop (length (bytes_of x)) texts) xs rest is.1)
read_are [] texts (x ∷ xs) rest is = absurd is
read_are (v ∷ vs) texts [] rest is = absurd is

-- one more
pub read_more : (vs : List MhlinkValue) (texts : List ℕ) (xs : List Value) (rest : List ℕ) (v : MhlinkValue) (x : Value) (left : List ℕ) → AreRead vs texts xs rest → IsValue v rest x → left ≡ drop (length (bytes_of x)) rest → AreRead (vs ++ v ∷ []) texts (xs ++ x ∷ []) left
read_more [] texts [] rest v x left is one then =
    (subst (λ (bytes : List ℕ). IsValue v bytes x) is one, then ∙ ap (λ (bytes : List ℕ). drop (length (bytes_of x)) bytes) is)
read_more (w ∷ vs) texts (y ∷ xs) rest v x left is one then =
    (is.0, read_more vs (drop (length (bytes_of y)) texts) xs rest v x left is.1 one then)
read_more [] texts (y ∷ xs) rest v x left is one then = absurd is
read_more (w ∷ vs) texts [] rest v x left is one then = absurd is

-- the next of the values
pub read_next : (given : List MhlinkValue) (i : ℕ) (d : MhlinkValue) (texts : List ℕ) (xs : List Value) (rest : List ℕ) (x : Value) (left : List ℕ) (ys : List Value) → i < length given → AreRead (take i given) texts xs rest → IsValue (get_or given i d) rest x → left ≡ drop (length (bytes_of x)) rest → ys ≡ xs ++ x ∷ [] → AreRead (take (i + 1) given) texts ys left
read_next given i d texts xs rest x left ys lt before one then push =
    subst (λ (zs : List Value). AreRead (take (i + 1) given) texts zs left) (sym push)
    (subst (λ (vs : List MhlinkValue). AreRead vs texts (xs ++ x ∷ []) left) (sym (take_more given i d lt))
    (read_more (take i given) texts xs rest (get_or given i d) x left before one then))

-- all of them
pub read_all : (given : List MhlinkValue) (i : ℕ) (texts : List ℕ) (xs : List Value) (rest : List ℕ) → length given ≤ i → AreRead (take i given) texts xs rest → AreValues given texts xs
read_all given i texts xs rest le is =
    read_are given texts xs rest (subst (λ (vs : List MhlinkValue). AreRead vs texts xs rest) (take_all i given le) is)

-- what a value leaves of the texts
pub left_is : (bytes rest : List ℕ) (n m : ℕ) → take (length bytes) rest ≡ bytes → n ≡ length bytes → m ≡ min n (length rest) → take (length rest - m) (drop m rest) ≡ drop (length bytes) rest
left_is bytes rest n m begins all least =
    let count : length (take (length bytes) rest) ≡ length bytes = ap length begins in
    let short : length bytes ≤ length rest = omega (arith, count, length-take (length bytes) rest) in
    let same : m ≡ length bytes = omega (arith, all, least, short) in
    take_all (length rest - m) (drop m rest) (omega (arith, length-drop m rest)) ∙ ap (λ (k : ℕ). drop k rest) same

-- the only value
pub one_is : (given : List MhlinkValue) (d : MhlinkValue) (texts : List ℕ) (x : Value) → 1 ≤ length given → length given < 2 → IsValue (get_or given 0 d) texts x → AreValues given texts (x ∷ [])
one_is [] d texts x some few is = absurd (omega (arith, some))
one_is (v ∷ []) d texts x some few is = (is, tt)
one_is (v ∷ w ∷ vs) d texts x some few is = absurd (omega (arith, few))

-- values that begin the same bytes and are passed alike are as long
as_long : (v : MhlinkValue) (texts : List ℕ) (x y : Value) → IsValue v texts x → IsValue v texts y → length (bytes_of x) ≡ length (bytes_of y)
as_long v texts x y one other = lengths_same x y (sym one.kind ∙ other.kind) (sym one.number ∙ other.number)
  where
    lengths_same : (x y : Value) → value_kind x ≡ value_kind y → value_number x ≡ value_number y → length (bytes_of x) ≡ length (bytes_of y)
    lengths_same (Text t) (Text u) kind number = ap nat_abs number
    lengths_same (Text t) (Int n) kind number = absurd (omega (arith, kind))
    lengths_same (Text t) (Long n) kind number = absurd (omega (arith, kind))
    lengths_same (Text t) (Boolean b) kind number = absurd (omega (arith, kind))
    lengths_same (Int n) (Text u) kind number = absurd (omega (arith, kind))
    lengths_same (Long n) (Text u) kind number = absurd (omega (arith, kind))
    lengths_same (Boolean b) (Text u) kind number = absurd (omega (arith, kind))
    lengths_same (Int n) (Int m) kind number = refl
    lengths_same (Int n) (Long m) kind number = refl
    lengths_same (Int n) (Boolean b) kind number = refl
    lengths_same (Long n) (Int m) kind number = refl
    lengths_same (Long n) (Long m) kind number = refl
    lengths_same (Long n) (Boolean b) kind number = refl
    lengths_same (Boolean b) (Int m) kind number = refl
    lengths_same (Boolean b) (Long m) kind number = refl
    lengths_same (Boolean b) (Boolean d) kind number = refl

-- of values, the one behind those that are read
one_behind : (vs ws : List MhlinkValue) (v : MhlinkValue) (texts : List ℕ) (xs : List Value) (rest : List ℕ) (a : List Value) → AreRead vs texts xs rest → AreValues (vs ++ v ∷ ws) texts a → (x : Value) × IsValue v rest x
one_behind [] ws v texts [] rest (y ∷ ys) is are = (y, subst (λ (bytes : List ℕ). IsValue v bytes y) (sym is) are.0)
one_behind (w ∷ vs) ws v texts (x ∷ xs) rest (y ∷ ys) is are =
    one_behind vs ws v (drop (length (bytes_of x)) texts) xs rest ys is.1
    (subst (λ (n : ℕ). AreValues (vs ++ v ∷ ws) (drop n texts) ys) (as_long w texts y x are.0 is.0) are.1)
one_behind [] ws v texts (x ∷ xs) rest a is are = absurd is
one_behind (w ∷ vs) ws v texts [] rest a is are = absurd is
one_behind [] ws v texts [] rest [] is are = absurd are
one_behind (w ∷ vs) ws v texts (x ∷ xs) rest [] is are = absurd are

-- where the next is no value
pub none_next : (given : List MhlinkValue) (i : ℕ) (d : MhlinkValue) (texts : List ℕ) (xs : List Value) (rest : List ℕ) → i < length given → AreRead (take i given) texts xs rest → ((x : Value) → IsValue (get_or given i d) rest x → ⊥) → AreNoValues given texts
none_next given i d texts xs rest lt before none a are =
    let parts : given ≡ take i given ++ get_or given i d ∷ drop (i + 1) given =
    sym (take-append-drop i given) ∙ ap (λ (rest : List MhlinkValue). take i given ++ rest) (drop_more given i d lt) in
    let one = one_behind (take i given) (drop (i + 1) given) (get_or given i d) texts xs rest a before (subst (λ (vs : List MhlinkValue). AreValues vs texts a) parts are) in
    none one.0 one.1
