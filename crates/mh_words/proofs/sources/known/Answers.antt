use Rattle.std.proofs.Common.{◌<◌, Option, Some, None, IfSome, length, sym, subst, arith}
use Rattle.std.proofs.lemmas.Bool.Decides.{nat_tests}
use Rattle.mh_tree.specs.Running.{value_of}
use Rattle.mh_words.specs.inner.Agrees.{IsKnown}
use Rattle.mh_words.specs.inner.Lowered.{Reads}
use Rattle.mh_words.proofs.Frames.{known_at}
use Rattle.mh_words.proofs.sources.known.Goals as goal

if_some : {A : Type 0} (r : Option A) (P Q : A → Type 0) → ((x : A) → P x → Q x) → IfSome r P → IfSome r Q
if_some (Some x) P Q k h = k x h
if_some None P Q k h = h

pub returns-in-Argument : goal.returns-in-Argument
returns-in-Argument c =
    let m = c.args.place.now.of.now in
    let ks = c.args.place.now.locals.now in
    record { value = if_some c.argument.result _ _ (λ k h. subst (λ o. Reads m ks o k) (sym c.in-Argument.is) (h ks)) c.argument.ensures.value }

pub returns-in_ok-get-in-Local : goal.returns-in_ok-get-in-Local
returns-in_ok-get-in-Local c =
    let ks = c.args.place.now.locals.now in
    let i = c.in-Local.number in
    let k = c.in_ok-get-in-Local.field-0.now in
    let found = c.in_ok-get-in-Local.ensures.lookup in
    let inside : i < length ks = grind (arith, nat_tests, found.0) in
    record { value = λ a l f h. subst (λ o. IsKnown f k (value_of a l o)) (sym c.in-Local.is) (known_at f ks l i k inside found.1 h.locals) }
