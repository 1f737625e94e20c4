use Rattle.std.proofs.Common.{◌+◌, ◌≤◌, ℕ, List, [], ◌∷◌, sym, subst, arith}
use Rattle.mh_words.specs.inner.Agrees.{AllBelow, IsBelow}
use Rattle.mh_words.specs.declared.input.Input.{Input}
use Rattle.mh_words.specs.declared.input.Input.TheVariants.{Read, Constant}
use Rattle.mh_words.specs.declared.known.Known.{Known}
use Rattle.mh_words.proofs.sources.+first_free.Goals as goal

one_below : (n p : ℕ) (j : Input) → n ≤ p → IsBelow n j → IsBelow p j
one_below n p (Read s) h g = omega arith
one_below n p (Constant w) h g = tt

all_below : (n p : ℕ) (ks : List Known) → n ≤ p → AllBelow n ks → AllBelow p ks
all_below n p [] h g = tt
all_below n p (k ∷ ks) h g = (one_below n p k.input h g.0, all_below n p ks h g.1)

pub returns-in-Read-clause-above : goal.returns-in-Read-clause-above
returns-in-Read-clause-above t c =
    let p = c.in-Read.slot.place + 1 in
    let here : IsBelow p (Read c.in-Read.slot) = omega arith in
    let rest = all_below c.first_free-free.result p c.in-Some.rest.now (omega arith) c.first_free-free.ensures.above in
    subst (AllBelow p) (sym c.in-Some.ensures.cases.0) (subst (IsBelow p) (sym c.in-Read.is) here, rest)
