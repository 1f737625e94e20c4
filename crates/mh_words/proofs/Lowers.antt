-- Routines over words that do what routines of prepared code do, one constructor at a time.
use Rattle.std.proofs.Common.{◌≡◌, Bool, true, false, ℕ, ◌+◌, ◌<◌, ◌≤◌, List, [], ◌∷◌, ◌++◌, take, Option, Some, None, refl, ap, sym, ◌∙◌, subst, arith, if◌then◌else◌, not}
use Rattle.std.specs.Prelude.{ℤ, IfSome, slice_set}
use Rattle.mh_type.specs.declared.kind.Kind.{Kind}
use Rattle.mh_type.specs.declared.kind.Kind.TheVariants as kind
use Rattle.mh_type.specs.declared.outcome.Outcome.{Outcome}
use Rattle.mh_type.specs.declared.outcome.Outcome.TheVariants as outcome
use Rattle.mh_type.specs.declared.value.Value.{Value}
use Rattle.mh_type.specs.declared.value.Value.TheVariants.{Boolean}
use Rattle.mh_type.specs.Operations.{is_zero}
use Rattle.mh_type.specs.Signature.{Signature}
use Rattle.mh_tree.specs.Environment.{Environment}
use Rattle.mh_tree.specs.Meaning.{◌>>=◌, after, choose, choose_steps}
use Rattle.mh_code.specs.Routine.{Source, Routine, give, keep, pick, point}
use Rattle.mh_code.specs.RoutineOf.{after_steps}
use Rattle.mh_code.specs.inner.Runs.{source_outcome, source_steps, run_routine, routine_steps, put}
use Rattle.mh_words.specs.Routine.{WordRoutine, give as give_word, keep as keep_word, pick as pick_word, point as point_word}
use Rattle.mh_words.specs.Running.{and_then, answer, answer_steps, holds, is_valid, outcome_of, source_word, steps_then}
use Rattle.mh_words.specs.Values.{IsWord, value_of_word}
use Rattle.mh_words.specs.inner.Agrees.{Agrees, AllBelow, input_word}
use Rattle.mh_words.specs.inner.Lowered.{Asks, Copies, Lowers, Makes, Tests}
use Rattle.mh_words.specs.inner.Switches.{Same}
use Rattle.mh_words.specs.declared.input.Input.{Input}
use Rattle.mh_words.specs.declared.input.Input.TheVariants.{Read}
use Rattle.mh_words.specs.declared.known.Known.{Known}
use Rattle.mh_words.specs.declared.made.Made.{Made}
use Rattle.mh_words.specs.declared.slot.Slot.{Slot}
use Rattle.mh_words.specs.declared.word_source.WordSource.TheVariants.{Constant}
use Rattle.mh_words.specs.declared.word_test.WordTest.{WordTest}
use Rattle.mh_words.proofs.Frames.{agrees_copied, agrees_kept}
use Rattle.mh_words.proofs.WordValues.{truth_back}

abbrev Proper : Kind → Option ℤ → Type 0
Proper k r = IfSome r (λ w. IsWord (value_of_word k w) w)

-- what follows a word
then_outcome : (k : Kind) (r : Option ℤ) (go : Value → Outcome) (ret : Kind) (next : ℤ → Option ℤ) → Proper k r → ((w : ℤ) → IsWord (value_of_word k w) w → go (value_of_word k w) ≡ outcome_of ret (next w)) → (outcome_of k r >>= go) ≡ outcome_of ret (and_then r next)
then_outcome k (Some w) go ret next is h = h w is
then_outcome k None go ret next is h = refl

then_steps : (k : Kind) (r : Option ℤ) (b : ℕ) (go : Value → ℕ) (next : ℤ → ℕ) → Proper k r → ((w : ℤ) → IsWord (value_of_word k w) w → b + go (value_of_word k w) ≡ next w) → b + after (outcome_of k r) go ≡ steps_then r b next
then_steps k (Some w) b go next is h = h w is
then_steps k None b go next is h = omega arith

then_proper : (k ret : Kind) (r : Option ℤ) (next : ℤ → Option ℤ) → Proper k r → ((w : ℤ) → IsWord (value_of_word k w) w → Proper ret (next w)) → Proper ret (and_then r next)
then_proper k ret (Some w) next is h = h w is
then_proper k ret None next is h = tt

two_parts : (b s q t : ℕ) → q ≡ 0 → b + (s + (q + t)) ≡ (b + s) + t
two_parts b s q t e = omega (arith, e)

pub lowers_give : (m : Signature) (ks : List Known) (x : Source) (y : Made) (s b n : ℕ) → n ≡ b + s → Makes m ks x y → y.kind ≡ m.ret → Lowers m ks (give_word n y.source) (give s x) b
lowers_give m ks x y s b n is made same = record {
  outcome = λ v a l f h. (made.gives v a l f h).outcome ∙ ap (λ k. outcome_of k (source_word f y.source)) same;
  steps = λ v a l f h. omega (arith, made.quick v a l, is);
  proper = λ v a l f h. subst (λ k. Proper k (source_word f y.source)) same (made.gives v a l f h).proper;
}

pub lowers_kept : (m : Signature) (ks : List Known) (x : Source) (y : Made) (s b n i : ℕ) (t : Slot) (p : WordRoutine) (r : Routine) → n ≡ b + s → Makes m ks x y → AllBelow t.place (take i ks) → 16 ≤ t.place → t.place < 64 → Lowers m (take i ks ++ record { kind = y.kind; input = Read t } ∷ []) p r n → Lowers m ks (keep_word n y.source t.place p) (keep s x i r) b
lowers_kept m ks x y s b n i t p r is made free behind inside rest = record {
  outcome = λ v a l f h.
      let g = made.gives v a l f h in
      ap (λ o. o >>= (λ z. run_routine v r a (put l i z))) g.outcome
      ∙ then_outcome y.kind (source_word f y.source) (λ z. run_routine v r a (put l i z)) m.ret (λ w. answer v.valid p (slice_set f t.place w)) g.proper
      (λ w proper. rest.outcome v a (put l i (value_of_word y.kind w)) (slice_set f t.place w) (agrees_kept m ks a l f i y.kind t w h free behind inside proper));
  steps = λ v a l f h.
      let g = made.gives v a l f h in
      two_parts b s (source_steps v x a l) (after (source_outcome v x a l) (λ z. routine_steps v r a (put l i z))) (made.quick v a l)
      ∙ (λ j. sym is j + after (g.outcome j) (λ z. routine_steps v r a (put l i z)))
      ∙ then_steps y.kind (source_word f y.source) n (λ z. routine_steps v r a (put l i z)) (λ w. answer_steps v.valid p (slice_set f t.place w)) g.proper
      (λ w proper. rest.steps v a (put l i (value_of_word y.kind w)) (slice_set f t.place w) (agrees_kept m ks a l f i y.kind t w h free behind inside proper));
  proper = λ v a l f h.
      let g = made.gives v a l f h in
      then_proper y.kind m.ret (source_word f y.source) (λ w. answer v.valid p (slice_set f t.place w)) g.proper
      (λ w proper. rest.proper v a (put l i (value_of_word y.kind w)) (slice_set f t.place w) (agrees_kept m ks a l f i y.kind t w h free behind inside proper));
}

-- a word that is there becomes a local in no step of the frame
copied : (m : Signature) (ks : List Known) (x : Source) (y : Made) (j : Input) → Makes m ks x y → Copies y.source j → (v : Environment) (a l : List Value) (f : List ℤ) → Agrees m ks a l f → (source_outcome v x a l ≡ outcome.Value (value_of_word y.kind (input_word f j))) × IsWord (value_of_word y.kind (input_word f j)) (input_word f j)
copied m ks x y j made copies v a l f h =
    let g = made.gives v a l f h in
    (g.outcome ∙ ap (outcome_of y.kind) (copies f), subst (Proper y.kind) (copies f) g.proper)

pub lowers_copied : (m : Signature) (ks : List Known) (x : Source) (y : Made) (s b n i : ℕ) (j : Input) (p : WordRoutine) (r : Routine) → n ≡ b + s → Makes m ks x y → Copies y.source j → Lowers m (take i ks ++ record { kind = y.kind; input = j } ∷ []) p r n → Lowers m ks p (keep s x i r) b
lowers_copied m ks x y s b n i j p r is made copies rest = record {
  outcome = λ v a l f h.
      let c = copied m ks x y j made copies v a l f h in
      ap (λ o. o >>= (λ z. run_routine v r a (put l i z))) c.0
      ∙ rest.outcome v a (put l i (value_of_word y.kind (input_word f j))) f (agrees_copied m ks a l f i y.kind j h c.1);
  steps = λ v a l f h.
      let c = copied m ks x y j made copies v a l f h in
      two_parts b s (source_steps v x a l) (after (source_outcome v x a l) (λ z. routine_steps v r a (put l i z))) (made.quick v a l)
      ∙ (λ k. sym is k + after (c.0 k) (λ z. routine_steps v r a (put l i z)))
      ∙ rest.steps v a (put l i (value_of_word y.kind (input_word f j))) f (agrees_copied m ks a l f i y.kind j h c.1);
  proper = λ v a l f h.
      let c = copied m ks x y j made copies v a l f h in
      rest.proper v a (put l i (value_of_word y.kind (input_word f j))) f (agrees_copied m ks a l f i y.kind j h c.1);
}

-- the truth of a source, as a test
truth_of : (m : Signature) (ks : List Known) (x : Source) (y : Made) (t : WordTest) → Makes m ks x y → y.kind ≡ kind.Boolean → Tests y.source t → (v : Environment) (a l : List Value) (f : List ℤ) → Agrees m ks a l f → source_outcome v x a l ≡ outcome.Value (Boolean (holds f t))
truth_of m ks x y t made same tests v a l f h =
    let g = made.gives v a l f h in
    let proper = subst (λ k. Proper k (source_word f y.source)) same g.proper in
    g.outcome
    ∙ ap (λ k. outcome_of k (source_word f y.source)) same
    ∙ ap (outcome_of kind.Boolean) (tests f proper)
    ∙ ap (λ c. outcome.Value (Boolean c)) (sym (truth_back (holds f t)))

either : (c : Bool) (P : Outcome → Option ℤ → Type 0) (o1 o2 : Outcome) (r1 r2 : Option ℤ) → P o1 r1 → P o2 r2 → P (if c then o1 else o2) (if c then r1 else r2)
either true P o1 o2 r1 r2 h g = h
either false P o1 o2 r1 r2 h g = g

either_steps : (c : Bool) (b n1 n2 k1 k2 : ℕ) → b + n1 ≡ k1 → b + n2 ≡ k2 → b + (if c then n1 else n2) ≡ (if c then k1 else k2)
either_steps true b n1 n2 k1 k2 h g = h
either_steps false b n1 n2 k1 k2 h g = g

either_proper : (c : Bool) (ret : Kind) (r1 r2 : Option ℤ) → Proper ret r1 → Proper ret r2 → Proper ret (if c then r1 else r2)
either_proper true ret r1 r2 h g = h
either_proper false ret r1 r2 h g = g

pub lowers_asked : (m : Signature) (ks : List Known) (x : Source) (t : WordTest) (s b n : ℕ) (p q : WordRoutine) (r u : Routine) → n ≡ b + s → Asks m ks x t → Lowers m ks p r n → Lowers m ks q u n → Lowers m ks (pick_word t p q) (pick s x r u) b
lowers_asked m ks x t s b n p q r u is asks one other = record {
  outcome = λ v a l f h.
      ap (λ o. o >>= (λ z. choose z (run_routine v r a l) (run_routine v u a l))) (asks.truth v a l f h)
      ∙ either (holds f t) (λ o w. o ≡ outcome_of m.ret w) _ _ _ _ (one.outcome v a l f h) (other.outcome v a l f h);
  steps = λ v a l f h.
      two_parts b s (source_steps v x a l) (after (source_outcome v x a l) (λ z. choose_steps z (routine_steps v r a l) (routine_steps v u a l))) (asks.quick v a l)
      ∙ (λ k. sym is k + after (asks.truth v a l f h k) (λ z. choose_steps z (routine_steps v r a l) (routine_steps v u a l)))
      ∙ either_steps (holds f t) n _ _ _ _ (one.steps v a l f h) (other.steps v a l f h);
  proper = λ v a l f h. either_proper (holds f t) m.ret _ _ (one.proper v a l f h) (other.proper v a l f h);
}

pub lowers_pick : (m : Signature) (ks : List Known) (x : Source) (y : Made) (t : WordTest) (s b n : ℕ) (p q : WordRoutine) (r u : Routine) → n ≡ b + s → Makes m ks x y → y.kind ≡ kind.Boolean → Tests y.source t → Lowers m ks p r n → Lowers m ks q u n → Lowers m ks (pick_word t p q) (pick s x r u) b
lowers_pick m ks x y t s b n p q r u is made same tests one other =
    lowers_asked m ks x t s b n p q r u is (record { truth = truth_of m ks x y t made same tests; quick = made.quick }) one other

-- a routine that returns the same
pub lowers_same : (m : Signature) (ks : List Known) (p q : WordRoutine) (r : Routine) (n : ℕ) → Same p q → Lowers m ks q r n → Lowers m ks p r n
lowers_same m ks p q r n same h = record {
  outcome = λ v a l f g. h.outcome v a l f g ∙ ap (outcome_of m.ret) (sym (same.answer_is v.valid f));
  steps = λ v a l f g. h.steps v a l f g ∙ sym (same.steps_are v.valid f);
  proper = λ v a l f g. subst (Proper m.ret) (sym (same.answer_is v.valid f)) (h.proper v a l f g);
}

pub lowers_point : (m : Signature) (ks : List Known) (i s b n : ℕ) (p q : WordRoutine) (r u : Routine) → n ≡ b + s → Lowers m ks p r n → Lowers m ks q u n → Lowers m ks (point_word i p q) (point s i r u) b
lowers_point m ks i s b n p q r u is one other = record {
  outcome = λ v a l f h. either (is_valid v.valid i) (λ o w. o ≡ outcome_of m.ret w) _ _ _ _ (one.outcome v a l f h) (other.outcome v a l f h);
  steps = λ v a l f h.
      (let first : (t : ℕ) → b + (s + t) ≡ n + t = λ t. omega (arith, is) in first _)
      ∙ either_steps (is_valid v.valid i) n _ _ _ _ (one.steps v a l f h) (other.steps v a l f h);
  proper = λ v a l f h. either_proper (is_valid v.valid i) m.ret _ _ (one.proper v a l f h) (other.proper v a l f h);
}

-- a constant truth chooses when the code is lowered
truth_known : (m : Signature) (ks : List Known) (x : Source) (y : Made) (w : ℤ) (c : Bool) → Makes m ks x y → y.kind ≡ kind.Boolean → y.source ≡ Constant w → not (is_zero w) ≡ c → (v : Environment) (a l : List Value) (f : List ℤ) → Agrees m ks a l f → source_outcome v x a l ≡ outcome.Value (Boolean c)
truth_known m ks x y w c made same constant zero v a l f h =
    (made.gives v a l f h).outcome
    ∙ (λ k. outcome_of (same k) (source_word f (constant k)))
    ∙ ap (λ d. outcome.Value (Boolean d)) zero

pub lowers_target : (m : Signature) (ks : List Known) (x : Source) (y : Made) (w : ℤ) (s b n : ℕ) (p : WordRoutine) (r u : Routine) → n ≡ b + s → Makes m ks x y → y.kind ≡ kind.Boolean → y.source ≡ Constant w → not (is_zero w) ≡ true → Lowers m ks p r n → Lowers m ks p (pick s x r u) b
lowers_target m ks x y w s b n p r u is made same constant zero rest = record {
  outcome = λ v a l f h.
      ap (λ o. o >>= (λ z. choose z (run_routine v r a l) (run_routine v u a l))) (truth_known m ks x y w true made same constant zero v a l f h)
      ∙ rest.outcome v a l f h;
  steps = λ v a l f h.
      two_parts b s (source_steps v x a l) (after (source_outcome v x a l) (λ z. choose_steps z (routine_steps v r a l) (routine_steps v u a l))) (made.quick v a l)
      ∙ (λ k. sym is k + after (truth_known m ks x y w true made same constant zero v a l f h k) (λ z. choose_steps z (routine_steps v r a l) (routine_steps v u a l)))
      ∙ rest.steps v a l f h;
  proper = rest.proper;
}

pub lowers_fallback : (m : Signature) (ks : List Known) (x : Source) (y : Made) (w : ℤ) (s b n : ℕ) (p : WordRoutine) (r u : Routine) → n ≡ b + s → Makes m ks x y → y.kind ≡ kind.Boolean → y.source ≡ Constant w → not (is_zero w) ≡ false → Lowers m ks p u n → Lowers m ks p (pick s x r u) b
lowers_fallback m ks x y w s b n p r u is made same constant zero rest = record {
  outcome = λ v a l f h.
      ap (λ o. o >>= (λ z. choose z (run_routine v r a l) (run_routine v u a l))) (truth_known m ks x y w false made same constant zero v a l f h)
      ∙ rest.outcome v a l f h;
  steps = λ v a l f h.
      two_parts b s (source_steps v x a l) (after (source_outcome v x a l) (λ z. choose_steps z (routine_steps v r a l) (routine_steps v u a l))) (made.quick v a l)
      ∙ (λ k. sym is k + after (truth_known m ks x y w false made same constant zero v a l f h k) (λ z. choose_steps z (routine_steps v r a l) (routine_steps v u a l)))
      ∙ rest.steps v a l f h;
  proper = rest.proper;
}

-- steps before a routine
after_outcome : (v : Environment) (s : ℕ) (r : Routine) (a l : List Value) → run_routine v (after_steps s r) a l ≡ run_routine v r a l
after_outcome v s (give n x) a l = refl
after_outcome v s (keep n x i r) a l = refl
after_outcome v s (pick n x r q) a l = refl
after_outcome v s (point n p r q) a l = refl

after_count : (v : Environment) (s : ℕ) (r : Routine) (a l : List Value) → routine_steps v (after_steps s r) a l ≡ s + routine_steps v r a l
after_count v s (give n x) a l = omega arith
after_count v s (keep n x i r) a l = omega arith
after_count v s (pick n x r q) a l = omega arith
after_count v s (point n p r q) a l = omega arith

pub lowers_after : (m : Signature) (ks : List Known) (s b n : ℕ) (p : WordRoutine) (r : Routine) → n ≡ b + s → Lowers m ks p r n → Lowers m ks p (after_steps s r) b
lowers_after m ks s b n p r is h = record {
  outcome = λ v a l f g. after_outcome v s r a l ∙ h.outcome v a l f g;
  steps = λ v a l f g. omega (arith, is, after_count v s r a l, h.steps v a l f g);
  proper = h.proper;
}
