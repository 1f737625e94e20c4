-- What tables lead to.
use Rattle.std.proofs.Common.{◌≡◌, ◌≢◌, Bool, true, false, ℕ, zero, suc, ◌+◌, ◌<◌, List, [], ◌∷◌, ◌++◌, length, get_or, refl, ap, sym, ◌∙◌, arith, if◌then◌else◌}
use Rattle.std.specs.Prelude.{Some, ℤ, pos, ◌+ℤ◌, int_lt, Option}
use Rattle.std.proofs.lemmas.Int.{ints}
use Rattle.mh_type.specs.Operations.{int_eq}
use Rattle.std.specs.Arc.{arc_value}
use Rattle.std.specs.declared.alloc.Global.{Global}
use Rattle.std.specs.declared.sync.Arc.{Arc}
use Rattle.std.proofs.lemmas.Bool.{true≢false}
use Rattle.mh_words.specs.Routine.{WordRoutine, give, pick}
use Rattle.mh_words.specs.RoutineOf.{constants, table, word_routine, word_routines}
use Rattle.mh_words.specs.Running.{answer, answer_steps, word_at}
use Rattle.mh_words.specs.inner.Switches.{AllWithin, Same, entry_of, keys_below, keys_from, target_of, tests}
use Rattle.mh_words.specs.declared.constant.Constant.{Constant as ConstantAnswer}
use Rattle.mh_words.specs.declared.keyed.Keyed.{Keyed}
use Rattle.mh_words.specs.declared.piece.WordPiece.{WordPiece}
use Rattle.mh_words.specs.declared.slot.Slot.{Slot}
use Rattle.mh_words.specs.declared.word_source.WordSource.TheVariants.{Constant}
use Rattle.mh_words.specs.declared.word_test.WordTest.TheVariants.{Below, Is}

pub same_int : (x y : ℤ) → x ≡ y → int_eq x y ≡ true
same_int x y h = grind (arith, ints)

pub other_int : (x y : ℤ) → x ≢ y → int_eq x y ≡ false
other_int x y h = grind (arith, ints)

-- a test chooses one of two, and both readings of the choice are the same
pub one_of : {A : Type 0} (b : Bool) (F : WordRoutine → A) (p q r : WordRoutine) → F q ≡ F r → (if b then F p else F q) ≡ F (if b then p else r)
one_of true F p q r h = refl
one_of false F p q r h = h

one_or : {A : Type 0} (b : Bool) (F : WordRoutine → A) (p q r : WordRoutine) → F q ≡ F r → F (if b then p else q) ≡ F (if b then p else r)
one_or true F p q r h = refl
one_or false F p q r h = h

pub table_answer : (valid : List Bool) (f : List ℤ) (s : Slot) (n : ℤ) (ps : List WordRoutine) (o : WordRoutine) → answer valid (table s n ps o) f ≡ answer valid (entry_of (word_at f s.place) n ps o) f
table_answer valid f s n [] o = refl
table_answer valid f s n (p ∷ ps) o = one_of (int_eq (word_at f s.place) n) (λ r. answer valid r f) p (table s (n +ℤ pos 1) ps o) (entry_of (word_at f s.place) (n +ℤ pos 1) ps o) (table_answer valid f s (n +ℤ pos 1) ps o)

pub table_steps : (valid : List Bool) (f : List ℤ) (s : Slot) (n : ℤ) (ps : List WordRoutine) (o : WordRoutine) → answer_steps valid (table s n ps o) f ≡ answer_steps valid (entry_of (word_at f s.place) n ps o) f
table_steps valid f s n [] o = refl
table_steps valid f s n (p ∷ ps) o = one_of (int_eq (word_at f s.place) n) (λ r. answer_steps valid r f) p (table s (n +ℤ pos 1) ps o) (entry_of (word_at f s.place) (n +ℤ pos 1) ps o) (table_steps valid f s (n +ℤ pos 1) ps o)

pub entry_found : (w n : ℤ) (ps : List WordRoutine) (o : WordRoutine) (i : ℕ) → w ≡ n +ℤ pos i → i < length ps → entry_of w n ps o ≡ get_or ps i o
entry_found w n [] o i is inside = absurd (omega arith)
entry_found w n (p ∷ ps) o zero is inside =
    let same : w ≡ n = omega (arith, ints) in
    ap (λ b. if b then p else entry_of w (n +ℤ pos 1) ps o) (same_int w n same)
entry_found w n (p ∷ ps) o (suc i) is inside =
    let other : w ≢ n = λ e. omega (arith, ints) in
    let next : w ≡ n +ℤ pos 1 +ℤ pos i = omega (arith, ints) in
    ap (λ b. if b then p else entry_of w (n +ℤ pos 1) ps o) (other_int w n other) ∙ entry_found w (n +ℤ pos 1) ps o i next (omega arith)

pub entry_missing : (w n : ℤ) (ps : List WordRoutine) (o : WordRoutine) → ((i : ℕ) → i < length ps → w ≢ n +ℤ pos i) → entry_of w n ps o ≡ o
entry_missing w n [] o none = refl
entry_missing w n (p ∷ ps) o none =
    let other : w ≢ n = λ e. none 0 (omega arith) (omega (arith, ints)) in
    let rest : (i : ℕ) → i < length ps → w ≢ n +ℤ pos 1 +ℤ pos i = λ i inside e. none (i + 1) (omega arith) (omega (arith, ints)) in
    ap (λ b. if b then p else entry_of w (n +ℤ pos 1) ps o) (other_int w n other) ∙ entry_missing w (n +ℤ pos 1) ps o rest

-- a run that comes to a table goes on with the entry
pub led_on : (valid : List Bool) (f : List ℤ) (s : Slot) (n : ℤ) (ps : List WordRoutine) (o p q : WordRoutine) (x : Option ℤ) (m : ℕ) → entry_of (word_at f s.place) n ps o ≡ p → table s n ps o ≡ q → (answer valid q f ≡ x) × (answer_steps valid q f ≡ m) → (answer valid p f ≡ x) × (answer_steps valid p f ≡ m)
led_on valid f s n ps o p q x m to is h = (
  sym (ap (λ r. answer valid r f) to) ∙ sym (table_answer valid f s n ps o) ∙ ap (λ r. answer valid r f) is ∙ h.0,
  sym (ap (λ r. answer_steps valid r f) to) ∙ sym (table_steps valid f s n ps o) ∙ ap (λ r. answer_steps valid r f) is ∙ h.1,
)

-- two routines after all tests that return the same may be exchanged
target_behind : {A : Type 0} (F : WordRoutine → A) (w : ℤ) (o q : WordRoutine) (ks : List Keyed) → F o ≡ F q → F (target_of w o ks) ≡ F (target_of w q ks)
target_behind F w o q [] h = h
target_behind F w o q (k ∷ ks) h =
    let p = word_routine (arc_value k.target) in
    target_behind F w (if int_eq w k.key then p else o) (if int_eq w k.key then p else q) ks (one_or (int_eq w k.key) F (word_routine (arc_value k.target)) o q h)

tests_return : {A : Type 0} (F : WordRoutine → A) (s : Slot) (w : ℤ) → ((n : ℤ) (p q : WordRoutine) → F (pick (Is s n) p q) ≡ F (if int_eq w n then p else q)) → (o : WordRoutine) (ks : List Keyed) → F (tests s o ks) ≡ F (target_of w o ks)
tests_return F s w tested o [] = refl
tests_return F s w tested o (k ∷ ks) =
    let p = word_routine (arc_value k.target) in
    tests_return F s w tested (pick (Is s k.key) p o) ks
    ∙ target_behind F w (pick (Is s k.key) p o) (if int_eq w k.key then p else o) ks (tested k.key p o)

-- a test that is made returns what the chosen routine returns
taken_through : {A : Type 0} (b : Bool) (F : WordRoutine → A) (p q : WordRoutine) → (if b then F p else F q) ≡ F (if b then p else q)
taken_through true F p q = refl
taken_through false F p q = refl

tests_answer : (valid : List Bool) (f : List ℤ) (s : Slot) (o : WordRoutine) (ks : List Keyed) → answer valid (tests s o ks) f ≡ answer valid (target_of (word_at f s.place) o ks) f
tests_answer valid f s o ks = tests_return (λ r. answer valid r f) s (word_at f s.place) (λ n p q. taken_through (int_eq (word_at f s.place) n) (λ r. answer valid r f) p q) o ks

tests_steps : (valid : List Bool) (f : List ℤ) (s : Slot) (o : WordRoutine) (ks : List Keyed) → answer_steps valid (tests s o ks) f ≡ answer_steps valid (target_of (word_at f s.place) o ks) f
tests_steps valid f s o ks = tests_return (λ r. answer_steps valid r f) s (word_at f s.place) (λ n p q. taken_through (int_eq (word_at f s.place) n) (λ r. answer_steps valid r f) p q) o ks

-- a word that is not a key leads to the routine after all tests
none_found : (w n : ℤ) (c : ℕ) (o : WordRoutine) (ks : List Keyed) → AllWithin n c ks → ((i : ℕ) → i < c → w ≢ n +ℤ pos i) → target_of w o ks ≡ o
none_found w n c o [] h none = refl
none_found w n c o (k ∷ ks) (h, hs) none =
    let other : w ≢ k.key = λ e. none h.0 h.1 (e ∙ h.2) in
    ap (λ b. target_of w (if b then word_routine (arc_value k.target) else o) ks) (other_int w k.key other) ∙ none_found w n c o ks hs none

-- the entry of a word, if each entry is what its key leads to, and o what any other word leads to
entry_is : (to : ℤ → WordRoutine) (w n : ℤ) (ps : List WordRoutine) (o : WordRoutine) → ((i : ℕ) → i < length ps → get_or ps i o ≡ to (n +ℤ pos i)) → (((i : ℕ) → i < length ps → w ≢ n +ℤ pos i) → o ≡ to w) → entry_of w n ps o ≡ to w
entry_is to w n [] o each missing = missing (λ i inside. absurd (omega arith))
entry_is to w n (p ∷ ps) o each missing = by (int_eq w n) refl (λ other. entry_is to w (n +ℤ pos 1) ps o (later each) (missed other missing))
  where
    later : ((i : ℕ) → i < length (p ∷ ps) → get_or (p ∷ ps) i o ≡ to (n +ℤ pos i)) → (i : ℕ) → i < length ps → get_or ps i o ≡ to (n +ℤ pos 1 +ℤ pos i)
    later each i inside = let next : n +ℤ pos (suc i) ≡ n +ℤ pos 1 +ℤ pos i = omega (arith, ints) in each (suc i) (omega arith) ∙ ap to next

    further : w ≢ n → ((i : ℕ) → i < length ps → w ≢ n +ℤ pos 1 +ℤ pos i) → (i : ℕ) → i < length (p ∷ ps) → w ≢ n +ℤ pos i
    further other none zero inside same = let here : w ≡ n = omega (arith, ints) in other here
    further other none (suc i) inside same = let there : w ≡ n +ℤ pos 1 +ℤ pos i = omega (arith, ints) in none i (omega arith) there

    missed : w ≢ n → (((i : ℕ) → i < length (p ∷ ps) → w ≢ n +ℤ pos i) → o ≡ to w) → ((i : ℕ) → i < length ps → w ≢ n +ℤ pos 1 +ℤ pos i) → o ≡ to w
    missed other missing none = missing (further other none)

    by : (b : Bool) → int_eq w n ≡ b → (w ≢ n → entry_of w (n +ℤ pos 1) ps o ≡ to w) → (if b then p else entry_of w (n +ℤ pos 1) ps o) ≡ to w
    by true e rest = let same : n +ℤ pos 0 ≡ w = grind (arith, ints) in each 0 (omega arith) ∙ ap to same
    by false e rest = rest (λ same. absurd (true≢false (sym (same_int w n same) ∙ e)))

-- a table returns what the tests of its keys return
pub table_same : (s : Slot) (n : ℤ) (c : ℕ) (ps : List WordRoutine) (o : WordRoutine) (ks : List Keyed) → AllWithin n c ks → length ps ≡ c → ((i : ℕ) → i < length ps → get_or ps i o ≡ target_of (n +ℤ pos i) o ks) → Same (table s n ps o) (tests s o ks)
table_same s n c ps o ks within count each =
    let led : (w : ℤ) → entry_of w n ps o ≡ target_of w o ks = λ w.
    entry_is (λ z. target_of z o ks) w n ps o each (λ none. sym (none_found w n c o ks within (λ i inside. none i (omega (arith, count))))) in
    record {
      answer_is = λ valid f. table_answer valid f s n ps o ∙ ap (λ r. answer valid r f) (led (word_at f s.place)) ∙ sym (tests_answer valid f s o ks);
      steps_are = λ valid f. table_steps valid f s n ps o ∙ ap (λ r. answer_steps valid r f) (led (word_at f s.place)) ∙ sym (tests_steps valid f s o ks);
    }

-- a further test, which is made first
pub tests_pushed : (s : Slot) (o : WordRoutine) (ks : List Keyed) (k : Keyed) → tests s o (ks ++ k ∷ []) ≡ pick (Is s k.key) (word_routine (arc_value k.target)) (tests s o ks)
tests_pushed s o [] k = refl
tests_pushed s o (j ∷ ks) k = tests_pushed s (pick (Is s j.key) (word_routine (arc_value j.target)) o) ks k

pub same_is : (p q : WordRoutine) → p ≡ q → Same p q
same_is p q e = record { answer_is = λ valid f. ap (λ r. answer valid r f) e; steps_are = λ valid f. ap (λ r. answer_steps valid r f) e }

-- a further entry
pub entry_pushed : (ts : List (Arc WordPiece Global)) (t : Arc WordPiece Global) (o : WordRoutine) (to : ℕ → WordRoutine) → ((i : ℕ) → i < length ts → get_or (word_routines ts) i o ≡ to i) → word_routine (arc_value t) ≡ to (length ts) → (i : ℕ) → i < length (ts ++ t ∷ []) → get_or (word_routines (ts ++ t ∷ [])) i o ≡ to i
entry_pushed [] t o to each last zero inside = last
entry_pushed [] t o to each last (suc i) inside = absurd (omega arith)
entry_pushed (x ∷ ts) t o to each last zero inside = each 0 (omega arith)
entry_pushed (x ∷ ts) t o to each last (suc i) inside = entry_pushed ts t o (λ j. to (suc j)) (λ j there. each (suc j) (omega arith)) last i (omega arith)

-- a further key
below_pushed : (p : ℤ) (ks : List Keyed) (k : Keyed) → keys_below p (ks ++ k ∷ []) ≡ (if int_lt k.key p then keys_below p ks ++ k ∷ [] else keys_below p ks)
below_pushed p [] k = refl
below_pushed p (j ∷ ks) k = ap (λ rest. if int_lt j.key p then j ∷ rest else rest) (below_pushed p ks k) ∙ by (int_lt j.key p) (int_lt k.key p)
  where
    by : (b c : Bool) → (if b then j ∷ (if c then keys_below p ks ++ k ∷ [] else keys_below p ks) else (if c then keys_below p ks ++ k ∷ [] else keys_below p ks)) ≡ (if c then (if b then j ∷ keys_below p ks else keys_below p ks) ++ k ∷ [] else (if b then j ∷ keys_below p ks else keys_below p ks))
    by true true = refl
    by true false = refl
    by false true = refl
    by false false = refl

from_pushed : (p : ℤ) (ks : List Keyed) (k : Keyed) → keys_from p (ks ++ k ∷ []) ≡ (if int_lt k.key p then keys_from p ks else keys_from p ks ++ k ∷ [])
from_pushed p [] k = refl
from_pushed p (j ∷ ks) k = ap (λ rest. if int_lt j.key p then rest else j ∷ rest) (from_pushed p ks k) ∙ by (int_lt j.key p) (int_lt k.key p)
  where
    by : (b c : Bool) → (if b then (if c then keys_from p ks else keys_from p ks ++ k ∷ []) else j ∷ (if c then keys_from p ks else keys_from p ks ++ k ∷ [])) ≡ (if c then (if b then keys_from p ks else j ∷ keys_from p ks) else (if b then keys_from p ks else j ∷ keys_from p ks) ++ k ∷ [])
    by true true = refl
    by true false = refl
    by false true = refl
    by false false = refl

pub kept_below : (p : ℤ) (ks : List Keyed) (k : Keyed) → int_lt k.key p ≡ true → keys_below p ks ++ k ∷ [] ≡ keys_below p (ks ++ k ∷ [])
kept_below p ks k h = sym (below_pushed p ks k ∙ ap (λ b. if b then keys_below p ks ++ k ∷ [] else keys_below p ks) h)

pub passed_below : (p : ℤ) (ks : List Keyed) (k : Keyed) → int_lt k.key p ≡ false → keys_below p ks ≡ keys_below p (ks ++ k ∷ [])
passed_below p ks k h = sym (below_pushed p ks k ∙ ap (λ b. if b then keys_below p ks ++ k ∷ [] else keys_below p ks) h)

pub passed_from : (p : ℤ) (ks : List Keyed) (k : Keyed) → int_lt k.key p ≡ true → keys_from p ks ≡ keys_from p (ks ++ k ∷ [])
passed_from p ks k h = sym (from_pushed p ks k ∙ ap (λ b. if b then keys_from p ks else keys_from p ks ++ k ∷ []) h)

pub kept_from : (p : ℤ) (ks : List Keyed) (k : Keyed) → int_lt k.key p ≡ false → keys_from p ks ++ k ∷ [] ≡ keys_from p (ks ++ k ∷ [])
kept_from p ks k h = sym (from_pushed p ks k ∙ ap (λ b. if b then keys_from p ks else keys_from p ks ++ k ∷ []) h)

-- a word less than a key leads where the lesser keys lead, and any other where the others lead
target_below : (w p : ℤ) (o : WordRoutine) (ks : List Keyed) → int_lt w p ≡ true → target_of w o (keys_below p ks) ≡ target_of w o ks
target_below w p o [] h = refl
target_below w p o (k ∷ ks) h = by (int_lt k.key p) refl (λ q. target_below w p q ks h)
  where
    t : WordRoutine
    t = word_routine (arc_value k.target)

    by : (b : Bool) → int_lt k.key p ≡ b → ((q : WordRoutine) → target_of w q (keys_below p ks) ≡ target_of w q ks) → target_of w o (if b then k ∷ keys_below p ks else keys_below p ks) ≡ target_of w (if int_eq w k.key then t else o) ks
    by true e rest = rest (if int_eq w k.key then t else o)
    by false e rest =
        let other : w ≢ k.key = λ same. grind (arith, ints) in
        rest o ∙ ap (λ b. target_of w (if b then t else o) ks) (sym (other_int w k.key other))

target_from : (w p : ℤ) (o : WordRoutine) (ks : List Keyed) → int_lt w p ≡ false → target_of w o (keys_from p ks) ≡ target_of w o ks
target_from w p o [] h = refl
target_from w p o (k ∷ ks) h = by (int_lt k.key p) refl (λ q. target_from w p q ks h)
  where
    t : WordRoutine
    t = word_routine (arc_value k.target)

    by : (b : Bool) → int_lt k.key p ≡ b → ((q : WordRoutine) → target_of w q (keys_from p ks) ≡ target_of w q ks) → target_of w o (if b then keys_from p ks else k ∷ keys_from p ks) ≡ target_of w (if int_eq w k.key then t else o) ks
    by false e rest = rest (if int_eq w k.key then t else o)
    by true e rest =
        let other : w ≢ k.key = λ same. grind (arith, ints) in
        rest o ∙ ap (λ b. target_of w (if b then t else o) ks) (sym (other_int w k.key other))

halves : {A : Type 0} (F : WordRoutine → A) (w p : ℤ) (a b o : WordRoutine) (ks : List Keyed) → F a ≡ F (target_of w o (keys_below p ks)) → F b ≡ F (target_of w o (keys_from p ks)) → (if int_lt w p then F a else F b) ≡ F (target_of w o ks)
halves F w p a b o ks h g = by (int_lt w p) refl
  where
    by : (c : Bool) → int_lt w p ≡ c → (if c then F a else F b) ≡ F (target_of w o ks)
    by true e = h ∙ ap F (target_below w p o ks e)
    by false e = g ∙ ap F (target_from w p o ks e)

-- two halves of tests return what the tests do
pub halves_same : (s : Slot) (p : ℤ) (a b o : WordRoutine) (ks : List Keyed) → Same a (tests s o (keys_below p ks)) → Same b (tests s o (keys_from p ks)) → Same (pick (Below s p) a b) (tests s o ks)
halves_same s p a b o ks h g = record {
  answer_is = λ valid f.
      halves (λ r. answer valid r f) (word_at f s.place) p a b o ks (h.answer_is valid f ∙ tests_answer valid f s o (keys_below p ks)) (g.answer_is valid f ∙ tests_answer valid f s o (keys_from p ks))
      ∙ sym (tests_answer valid f s o ks);
  steps_are = λ valid f.
      halves (λ r. answer_steps valid r f) (word_at f s.place) p a b o ks (h.steps_are valid f ∙ tests_steps valid f s o (keys_below p ks)) (g.steps_are valid f ∙ tests_steps valid f s o (keys_from p ks))
      ∙ sym (tests_steps valid f s o ks);
}

pub constants_count : (cs : List ConstantAnswer) → length (constants cs) ≡ length cs
constants_count [] = refl
constants_count (c ∷ cs) = omega (arith, constants_count cs)

pub constants_at : (cs : List ConstantAnswer) (i : ℕ) (d : ConstantAnswer) (o : WordRoutine) → i < length cs → get_or (constants cs) i o ≡ give (get_or cs i d).steps (Constant (get_or cs i d).word)
constants_at [] i d o inside = absurd (omega arith)
constants_at (c ∷ cs) zero d o inside = refl
constants_at (c ∷ cs) (suc i) d o inside = constants_at cs i d o (omega arith)

-- a run that comes to a table of constants ends with one
pub constant_told : (valid : List Bool) (f : List ℤ) (s : Slot) (n : ℤ) (cs : List ConstantAnswer) (o q : WordRoutine) (i : ℕ) (k : ConstantAnswer) (x : Option ℤ) (m : ℕ) → word_at f s.place ≡ n +ℤ pos i → i < length cs → k ≡ get_or cs i k → table s n (constants cs) o ≡ q → (answer valid q f ≡ x) × (answer_steps valid q f ≡ m) → (Some k.word ≡ x) × (k.steps ≡ m)
constant_told valid f s n cs o q i k x m at inside found is h =
    let to : entry_of (word_at f s.place) n (constants cs) o ≡ give k.steps (Constant k.word) =
    entry_found (word_at f s.place) n (constants cs) o i at (omega (arith, constants_count cs))
    ∙ constants_at cs i k o inside ∙ ap (λ (d : ConstantAnswer). give d.steps (Constant d.word)) (sym found) in
    led_on valid f s n (constants cs) o (give k.steps (Constant k.word)) q x m to is h

pub constants_pushed : (cs : List ConstantAnswer) (k : ConstantAnswer) → constants (cs ++ k ∷ []) ≡ constants cs ++ give k.steps (Constant k.word) ∷ []
constants_pushed [] k = refl
constants_pushed (c ∷ cs) k = ap (λ rs. give c.steps (Constant c.word) ∷ rs) (constants_pushed cs k)
