-- What a piece leads to, from what its source answers.
use Rattle.std.proofs.Common.{◌≡◌, Bool, true, false, ℕ, ◌+◌, ◌≤◌, ◌<◌, refl, ap, sym, subst, ◌∙◌, List, [], ◌∷◌, take, length, length-append, length-take, arith, if◌then◌else◌}
use Rattle.std.specs.Prelude.{max, Result, IfOk, IsOk}
use Rattle.mh_code.specs.Routine.{Source, Routine, give, keep, pick, point}
use Rattle.mh_code.specs.RoutineOf.{after_steps}
use Rattle.mh_code.specs.inner.Runs.{source_outcome, source_steps, source_weight, put, run_routine, routine_steps, weight}
use Rattle.mh_code.specs.inner.Scope.{IsRoutineIn}
use Rattle.mh_eval.specs.Answers.{Gives, Ran}
use Rattle.mh_eval.specs.Entered.{WithValue, Chosen, OneOf}
use Rattle.mh_run.specs.inner.Limits.{lower_room}
use Rattle.mh_eval.specs.Quiet.{IsAnswered}
use Rattle.mh_eval.proofs.AnswersGiven.{gives_ran}
use Rattle.mh_eval.specs.declared.answer.Answer.{Answer}
use Rattle.mh_eval.specs.declared.answer.Answer.TheVariants.{Int, Long, Boolean, Text, Thrown, NoMemory}
use Rattle.mh_run.specs.inner.Picks.{is_truth, picked, IsPut}
use Rattle.mh_run.specs.inner.Quiet.{IsSourceQuiet, IsTestQuiet, IsRoutineQuiet, slots}
use Rattle.mh_run.specs.inner.Runs.{Answers, Ends, Goes, Leaves, MayGo, MayRun, Stops, Told}
use Rattle.mh_tree.specs.Meaning.{◌>>=◌, after, choose, choose_steps, is_valid}
use Rattle.mh_tree.specs.Sites.{Setting, env, MayCall, most_at}
use Rattle.mh_type.specs.declared.outcome.Outcome.{Outcome}
use Rattle.mh_type.specs.declared.outcome.Outcome.TheVariants as outcome
use Rattle.mh_type.specs.declared.outcome.Throw.TheVariants.{ArithmeticException}
use Rattle.mh_type.specs.declared.value.Value.{Value}
use Rattle.mh_type.specs.declared.value.Value.TheVariants as value

pub ran_gives : (r : Answer) (n : ℕ) (o : Outcome) (m : ℕ) → Ran r n o m → Gives r o
ran_gives (Int x) n o m h = h.0
ran_gives (Long x) n o m h = h.0
ran_gives (Boolean x) n o m h = h.0
ran_gives (Text x) n o m h = h.0
ran_gives (Thrown t) n o m h = h.0
ran_gives NoMemory n o m h = tt

-- an answer whose steps are counted gives no more than one outcome
ran_steps : (r : Answer) (n : ℕ) (o q : Outcome) (m : ℕ) → (Gives r q → ⊥) → Ran r n o m → n ≡ m
ran_steps (Int x) n o q m never h = h.1
ran_steps (Long x) n o q m never h = h.1
ran_steps (Boolean x) n o q m never h = h.1
ran_steps (Text x) n o q m never h = h.1
ran_steps (Thrown t) n o q m never h = h.1
ran_steps NoMemory n o q m never h = absurd (never tt)

ran_more : (r : Answer) (n k : ℕ) (o : Outcome) (m j : ℕ) → Ran r n o m → (n ≡ m → k ≡ j) → Ran r k o j
ran_more (Int x) n k o m j h e = (h.0, e h.1)
ran_more (Long x) n k o m j h e = (h.0, e h.1)
ran_more (Boolean x) n k o m j h e = (h.0, e h.1)
ran_more (Text x) n k o m j h e = (h.0, e h.1)
ran_more (Thrown t) n k o m j h e = (h.0, e h.1)
ran_more NoMemory n k o m j h e = tt

of_value : (o : Outcome) (x : Value) (P : Value → Type 0) → o ≡ outcome.Value x → WithValue o P → P x
of_value o x P is h = subst (λ q. WithValue q P) is h

-- a part that ends what follows it ends it all
stops_at : (t r : Answer) (n : ℕ) (o : Outcome) (k : ℕ) (f : Value → Outcome) (g : Value → ℕ) (m s j : ℕ) → j ≡ (m + s) + n → Ran r n o k → ((q : Outcome) → Gives r q → Stops t q) → Ran t j (o >>= f) (m + (s + (k + after o g)))
stops_at (Thrown e) r n o k f g m s j total h ended =
    let is : o ≡ outcome.Thrown e = ended o (ran_gives r n o k h) in
    let none : Gives r (outcome.Value (value.Boolean false)) → ⊥ = λ q. let never = ended _ q in cc in
    let count : n ≡ k = ran_steps r n o _ k none h in
    let rest : after o g ≡ 0 = ap (λ w. after w g) is in
    (ap (λ w. w >>= f) is, omega (arith, total, count, rest))
stops_at NoMemory r n o k f g m s j total h ended = tt
stops_at (Int x) r n o k f g m s j total h ended = absurd (ended o (ran_gives r n o k h))
stops_at (Long x) r n o k f g m s j total h ended = absurd (ended o (ran_gives r n o k h))
stops_at (Boolean x) r n o k f g m s j total h ended = absurd (ended o (ran_gives r n o k h))
stops_at (Text x) r n o k f g m s j total h ended = absurd (ended o (ran_gives r n o k h))

-- what holds of both holds of the one that is picked
either_one : {A : Type 0} (P : A → Type 0) (b : Value) (x y : A) → P x → P y → P (picked b x y)
either_one P (value.Boolean true) x y p q = p
either_one P (value.Boolean false) x y p q = q
either_one P (value.Int i) x y p q = q
either_one P (value.Long i) x y p q = q
either_one P (value.Text s) x y p q = q

pick_outcome : (b : Value) (f : Routine → Outcome) (x y : Routine) → f (picked b x y) ≡ choose b (f x) (f y)
pick_outcome (value.Boolean true) f x y = refl
pick_outcome (value.Boolean false) f x y = refl
pick_outcome (value.Int i) f x y = refl
pick_outcome (value.Long i) f x y = refl
pick_outcome (value.Text s) f x y = refl

pick_steps : (b : Value) (f : Routine → ℕ) (x y : Routine) → f (picked b x y) ≡ choose_steps b (f x) (f y)
pick_steps (value.Boolean true) f x y = refl
pick_steps (value.Boolean false) f x y = refl
pick_steps (value.Int i) f x y = refl
pick_steps (value.Long i) f x y = refl
pick_steps (value.Text s) f x y = refl

pick_chosen : (b : Value) (P : Routine → Type 0) (x y : Routine) → Chosen b (P x) (P y) → P (picked b x y)
pick_chosen (value.Boolean true) P x y h = h
pick_chosen (value.Boolean false) P x y h = h
pick_chosen (value.Int i) P x y h = h
pick_chosen (value.Long i) P x y h = h
pick_chosen (value.Text s) P x y h = h

pub if_truth : {A : Type 0} (z : Value) (x y : A) → (if is_truth z then x else y) ≡ picked z x y
if_truth (value.Boolean true) x y = refl
if_truth (value.Boolean false) x y = refl
if_truth (value.Int i) x y = refl
if_truth (value.Long i) x y = refl
if_truth (value.Text s) x y = refl

module _ (v : Setting) (a l : List Value) (x : Source) (s m : ℕ) where
  -- a truth chooses
  pub picks_at : (q w p : Routine) (n j : ℕ) → j ≡ (m + s) + n → n ≡ source_steps (env v) x a l → n ≤ source_weight (most_at v.level) x → MayRun v a l (pick s x q w) m → (z : Value) → source_outcome (env v) x a l ≡ outcome.Value z → p ≡ picked z q w → Leaves v a l (pick s x q w) m l p j
  picks_at q w p n j total count small may z is at =
      let run = λ (r : Routine). run_routine (env v) r a l in
      let cost = λ (r : Routine). routine_steps (env v) r a l in
      let o = source_outcome (env v) x a l in
      let rest : after o (λ b. choose_steps b (cost q) (cost w)) ≡ cost p =
      ap (λ e. after e (λ b. choose_steps b (cost q) (cost w))) is ∙ sym (pick_steps z cost q w) ∙ ap cost (sym at) in
      let light : weight (most_at v.level) p ≤ max (weight (most_at v.level) q) (weight (most_at v.level) w) =
      subst (λ r. weight (most_at v.level) r ≤ max (weight (most_at v.level) q) (weight (most_at v.level) w)) (sym at)
      (either_one (λ r. weight (most_at v.level) r ≤ max (weight (most_at v.level) q) (weight (most_at v.level) w)) z q w (omega arith) (omega arith)) in
      let own_light : weight 0 p ≤ max (weight 0 q) (weight 0 w) =
      subst (λ r. weight 0 r ≤ max (weight 0 q) (weight 0 w)) (sym at)
      (either_one (λ r. weight 0 r ≤ max (weight 0 q) (weight 0 w)) z q w (omega arith) (omega arith)) in
      let less : j + weight (most_at v.level) p ≤ m + weight (most_at v.level) (pick s x q w) = omega (arith, total, small, light) in
      let inside = λ (r : Routine). IsRoutineIn (MayCall v.level v.targets (length v.valid)) (length v.valid) (length a) (length l) r in
      record {
        outcome = ap run at ∙ pick_outcome z run q w ∙ sym (ap (λ e. e >>= (λ b. choose b (run q) (run w))) is);
        steps = omega (arith, total, count, rest);
        few = less;
        may = record {
          scoped = subst inside (sym at) (either_one inside z q w may.scoped.1 may.scoped.2);
          few = omega (arith, less, may.few);
          room = subst (λ r. slots r ≤ lower_room) (sym at) (either_one (λ r. slots r ≤ lower_room) z q w (omega (arith, may.room)) (omega (arith, may.room)));
        };
        quiet = λ e. subst (λ r. IsRoutineQuiet v r a l) (sym at)
            (pick_chosen z (λ r. IsRoutineQuiet v r a l) q w (of_value o z (λ b. Chosen b (IsRoutineQuiet v q a l) (IsRoutineQuiet v w a l)) is e.1));
        own = omega (arith, own_light);
      }

module _ (v : Setting) (a l : List Value) (x : Source) (s m : ℕ) (r : Answer) (n j : ℕ) (total : j ≡ (m + s) + n) (h : Answers v a l x r n) where
  pub gives : Ends v a l (give s x) m r j
  gives = record {
    ran = ran_more r n j _ _ _ h.ran (λ e. omega (arith, total, e));
    few = omega (arith, total, h.few);
    quiet = h.quiet;
  }

  module _ (i : ℕ) (q : Routine) (may : MayRun v a l (keep s x i q) m) where
    pub keeps : (k : List Value) → ((o : Outcome) → Gives r o → (y : Value) × (o ≡ outcome.Value y) × (k ≡ put l i y)) → Leaves v a l (keep s x i q) m k q j
    keeps k kept =
        let o = source_outcome (env v) x a l in
        let (y, is, at) = kept o (ran_gives r n o _ h.ran) in
        let none : Gives r (outcome.Thrown ArithmeticException) → ⊥ = λ g. let (z, e, f) = kept _ g in cc in
        let count : n ≡ source_steps (env v) x a l = ran_steps r n o _ _ none h.ran in
        let rest : after o (λ z. routine_steps (env v) q a (put l i z)) ≡ routine_steps (env v) q a k =
        ap (λ w. after w (λ z. routine_steps (env v) q a (put l i z))) is ∙ ap (routine_steps (env v) q a) (sym at) in
        let many : length k ≡ i + 1 = ap (λ (t : List Value). length t) at ∙ length-append (take i l) (y ∷ []) ∙ omega (arith, length-take i l, may.scoped.1) in
        let less : j + weight (most_at v.level) q ≤ m + weight (most_at v.level) (keep s x i q) = omega (arith, total, h.few) in
        record {
          outcome = ap (run_routine (env v) q a) at ∙ sym (ap (λ w. w >>= (λ z. run_routine (env v) q a (put l i z))) is);
          steps = omega (arith, total, count, rest);
          few = less;
          may = record {
            scoped = subst (λ d. IsRoutineIn (MayCall v.level v.targets (length v.valid)) (length v.valid) (length a) d q) (sym many) may.scoped.2;
            few = omega (arith, less, may.few);
            room = omega (arith, may.room);
          };
          quiet = λ e. subst (λ t. IsRoutineQuiet v q a t) (sym at) (of_value o y (λ z. IsRoutineQuiet v q a (put l i z)) is e.1);
          own = omega arith;
        }

    pub keep_ends : (t : Answer) (c : ℕ) → lower_room ≤ c → ((o : Outcome) → Gives r o → Stops t o) → (i < c → IsAnswered r → IsAnswered t) → Ends v a l (keep s x i q) m t j
    keep_ends t c room ended memory = record {
      ran = stops_at t r n _ _ (λ y. run_routine (env v) q a (put l i y)) (λ y. routine_steps (env v) q a (put l i y)) m s j total h.ran ended;
      few = omega (arith, total, h.few);
      quiet = λ e. memory (omega (arith, room, may.room)) (h.quiet e.0);
    }

  module _ (q w : Routine) (may : MayRun v a l (pick s x q w) m) where
    pub picks : (p : Routine) → ((o : Outcome) → Gives r o → (b : Value) × (o ≡ outcome.Value b) × (p ≡ picked b q w)) → Leaves v a l (pick s x q w) m l p j
    picks p chooses =
        let o = source_outcome (env v) x a l in
        let (z, is, at) = chooses o (ran_gives r n o _ h.ran) in
        let none : Gives r (outcome.Thrown ArithmeticException) → ⊥ = λ g. let (b, e, f) = chooses _ g in cc in
        picks_at v a l x s m q w p n j total (ran_steps r n o _ _ none h.ran) h.few may z is at

    pub pick_ends : (t : Answer) → ((o : Outcome) → Gives r o → Stops t o) → (IsAnswered r → IsAnswered t) → (IsTestQuiet v x a l → IsAnswered r) → Ends v a l (pick s x q w) m t j
    pick_ends t ended memory answers = record {
      ran = stops_at t r n _ _ (λ b. choose b (run_routine (env v) q a l) (run_routine (env v) w a l)) (λ b. choose_steps b (routine_steps (env v) q a l) (routine_steps (env v) w a l)) m s j total h.ran ended;
      few = omega (arith, total, h.few);
      quiet = λ e. memory (answers e.0);
    }

-- one of two routines, by whether a point is valid
pub switches : (v : Setting) (a l : List Value) (s m j : ℕ) → j ≡ m + s → (p : ℕ) (q w r : Routine) → MayRun v a l (point s p q w) m → (b : Bool) → b ≡ is_valid (env v) p → r ≡ (if b then q else w) → Leaves v a l (point s p q w) m l r j
switches v a l s m j total p q w r may true is at = record {
  outcome = ap (λ e. run_routine (env v) e a l) at ∙ ap (λ b. if b then run_routine (env v) q a l else run_routine (env v) w a l) is;
  steps = omega (arith, total, ap (λ e. routine_steps (env v) e a l) at, ap (λ b. if b then routine_steps (env v) q a l else routine_steps (env v) w a l) is);
  few = omega (arith, total, ap (weight (most_at v.level)) at);
  may = record {
    scoped = subst (λ e. IsRoutineIn (MayCall v.level v.targets (length v.valid)) (length v.valid) (length a) (length l) e) (sym at) may.scoped.1;
    few = omega (arith, total, ap (weight (most_at v.level)) at, may.few);
    room = omega (arith, ap slots at, may.room);
  };
  quiet = λ e. subst (λ g. IsRoutineQuiet v g a l) (sym at) (subst (λ b. OneOf b (IsRoutineQuiet v q a l) (IsRoutineQuiet v w a l)) (sym is) e);
  own = omega (arith, ap (weight 0) at);
}
switches v a l s m j total p q w r may false is at = record {
  outcome = ap (λ e. run_routine (env v) e a l) at ∙ ap (λ b. if b then run_routine (env v) q a l else run_routine (env v) w a l) is;
  steps = omega (arith, total, ap (λ e. routine_steps (env v) e a l) at, ap (λ b. if b then routine_steps (env v) q a l else routine_steps (env v) w a l) is);
  few = omega (arith, total, ap (weight (most_at v.level)) at);
  may = record {
    scoped = subst (λ e. IsRoutineIn (MayCall v.level v.targets (length v.valid)) (length v.valid) (length a) (length l) e) (sym at) may.scoped.2;
    few = omega (arith, total, ap (weight (most_at v.level)) at, may.few);
    room = omega (arith, ap slots at, may.room);
  };
  quiet = λ e. subst (λ g. IsRoutineQuiet v g a l) (sym at) (subst (λ b. OneOf b (IsRoutineQuiet v q a l) (IsRoutineQuiet v w a l)) (sym is) e);
  own = omega (arith, ap (weight 0) at);
}

-- other code goes on
pub goes_on : (v : Setting) (a l : List Value) (s m j : ℕ) → j ≡ m + s → (r : Routine) → MayRun v a l (after_steps s r) m → Leaves v a l (after_steps s r) m l r j
goes_on v a l s m j total (give n x) may = record {
  outcome = refl;
  steps = omega (arith, total);
  few = omega (arith, total);
  may = record { scoped = may.scoped; few = omega (arith, total, may.few); room = may.room };
  quiet = λ e. e;
  own = omega arith;
}
goes_on v a l s m j total (keep n x i r) may = record {
  outcome = refl;
  steps = omega (arith, total);
  few = omega (arith, total);
  may = record { scoped = may.scoped; few = omega (arith, total, may.few); room = may.room };
  quiet = λ e. e;
  own = omega arith;
}
goes_on v a l s m j total (pick n x r q) may = record {
  outcome = refl;
  steps = omega (arith, total);
  few = omega (arith, total);
  may = record { scoped = may.scoped; few = omega (arith, total, may.few); room = may.room };
  quiet = λ e. e;
  own = omega arith;
}
goes_on v a l s m j total (point n p r q) may = record {
  outcome = refl;
  steps = omega (arith, total);
  few = omega (arith, total);
  may = record { scoped = may.scoped; few = omega (arith, total, may.few); room = may.room };
  quiet = λ e. e;
  own = omega arith;
}

-- one piece after another
module _ (v : Setting) (a l k : List Value) (r q : Routine) (m n : ℕ) (first : Leaves v a l r m k q n) where
  pub leaves_more : (z : List Value) (p : Routine) (j : ℕ) → Leaves v a k q n z p j → Leaves v a l r m z p j
  leaves_more z p j h = record {
    outcome = h.outcome ∙ first.outcome;
    steps = h.steps ∙ first.steps;
    few = omega (arith, h.few, first.few);
    may = h.may;
    quiet = λ e. h.quiet (first.quiet e);
    own = omega (arith, h.own, first.own);
  }

  pub ends_more : (t : Answer) (j : ℕ) → Ends v a k q n t j → Ends v a l r m t j
  ends_more t j h = record {
    ran = subst (λ o. Ran t j o (m + routine_steps (env v) r a l)) first.outcome (subst (λ c. Ran t j (run_routine (env v) q a k) c) first.steps h.ran);
    few = omega (arith, h.few, first.few);
    quiet = λ e. h.quiet (first.quiet e);
  }

-- nothing is done yet
pub leaves_all : (v : Setting) (a l : List Value) (r : Routine) (m : ℕ) → MayRun v a l r m → Leaves v a l r m l r m
leaves_all v a l r m may = record { outcome = refl; steps = refl; few = omega arith; may = may; quiet = λ e. e; own = omega arith }

-- the answer of an operand, and of an operation
pub plain_answers : (v : Setting) (a l : List Value) (x : Source) (r : Answer) (o : Outcome) → Gives r o → o ≡ source_outcome (env v) x a l → 0 ≡ source_steps (env v) x a l → (IsSourceQuiet v x a l → IsAnswered r) → Answers v a l x r 0
plain_answers v a l x r o given is none answers = record {
  ran = subst (λ n. Ran r 0 (source_outcome (env v) x a l) n) none (subst (λ w. Ran r 0 w 0) is (gives_ran r o 0 given));
  few = omega arith;
  quiet = answers;
}

-- a value as an answer
abbrev answered : Value → Answer
answered (value.Int x) = Int x
answered (value.Long x) = Long x
answered (value.Boolean x) = Boolean x
answered (value.Text x) = Text x

answered_gives : (y : Value) → Gives (answered y) (outcome.Value y)
answered_gives (value.Int x) = refl
answered_gives (value.Long x) = refl
answered_gives (value.Boolean x) = refl
answered_gives (value.Text x) = refl

answered_is : (y : Value) (o : Outcome) → Gives (answered y) o → o ≡ outcome.Value y
answered_is (value.Int x) o h = h
answered_is (value.Long x) o h = h
answered_is (value.Boolean x) o h = h
answered_is (value.Text x) o h = h

is_answered : (y : Value) → IsAnswered (answered y)
is_answered (value.Int x) = tt
is_answered (value.Long x) = tt
is_answered (value.Boolean x) = tt
is_answered (value.Text x) = tt

-- a value that was put
pub goes_put : (v : Setting) (a l : List Value) (x : Source) (s m i : ℕ) (q : Routine) (k : List Value) (j : ℕ) → j ≡ m + s → 0 ≡ source_steps (env v) x a l → (o : Outcome) → o ≡ source_outcome (env v) x a l → IsPut o l i k → MayGo v a l (keep s x i q) m → Goes v a l (keep s x i q) m k q j
goes_put v a l x s m i q k j total none (outcome.Value y) is put may = record {
  leaves = keeps v a l x s m (answered y) 0 j (omega (arith, total)) (plain_answers v a l x (answered y) (outcome.Value y) (answered_gives y) is none (λ e. is_answered y)) i q may.run k (λ o h. (y, answered_is y o h, put));
  own = omega (arith, total);
}
goes_put v a l x s m i q k j total none (outcome.Thrown t) is put may = absurd put

-- one after another
pub goes_all : (v : Setting) (a l : List Value) (r : Routine) (m : ℕ) → MayGo v a l r m → Goes v a l r m l r m
goes_all v a l r m may = record { leaves = leaves_all v a l r m may.run; own = omega arith }

pub goes_may : (v : Setting) (a l k : List Value) (r q : Routine) (m n : ℕ) → MayGo v a l r m → Goes v a l r m k q n → MayGo v a k q n
goes_may v a l k r q m n may h = record { run = h.leaves.may; own = omega (arith, h.own, may.own) }

pub goes_more : (v : Setting) (a l k z : List Value) (r q p : Routine) (m n j : ℕ) → Goes v a l r m k q n → Goes v a k q n z p j → Goes v a l r m z p j
goes_more v a l k z r q p m n j first h = record {
  leaves = leaves_more v a l k r q m n first.leaves z p j h.leaves;
  own = omega (arith, h.own, first.own);
}

-- an answer as a result
pub told_ends : {E : Type 0} (x : Result (Outcome × ℕ) E) (v : Setting) (a : List Value) (r : Routine) (m : ℕ) (t : Answer) (j : ℕ) → Ends v a [] r m t j → ((o : Outcome) (k : ℕ) → Ran t j o k → IfOk x (λ y. y.0 ≡ o)) → ((o : Outcome) (k : ℕ) → Ran t j o k → IfOk x (λ y. y.1 ≡ k)) → ((k : ℕ) → j ≤ k → IfOk x (λ y. y.1 ≤ k)) → (IsAnswered t → IsOk x) → Told x v a r m
told_ends x v a r m t j h outcome steps few memory = record {
  outcome = outcome _ _ h.ran;
  steps = steps _ _ h.ran;
  few = few _ h.few;
  quiet = λ q. memory (h.quiet q);
}
