-- A run goes on by one event.
use Rattle.std.proofs.Common.{◌≡◌, List, [], ◌∷◌, ◌++◌, refl, sym, subst}
use Rattle.mh_core.specs.declared.event.Event.{Event}
use Rattle.mh_core.specs.declared.reply.Reply.{Reply}
use Rattle.mh_core.specs.Legal.{Setting, Step, Run}

run_push : (x : Setting) (h : List Event) (es : List Event) (rs : List Reply) (mid : List Event) (e : Event) (reply : Reply) (new : List Event)
    → Run x h es rs mid → Step x mid e reply new → Run x h (es ++ e ∷ []) (rs ++ reply ∷ []) new
run_push x h [] [] mid e reply new same step = (new, subst (λ (g : List Event). Step x g e reply new) same step, refl)
run_push x h (d ∷ es) (q ∷ rs) mid e reply new run step = (run.0, run.1, run_push x run.0 es rs mid e reply new run.2 step)
run_push x h [] (q ∷ rs) mid e reply new run step = absurd run
run_push x h (d ∷ es) [] mid e reply new run step = absurd run

-- the same under equal settings, for the replies with one more
pub run_more : (x start : Setting) (h : List Event) (es : List Event) (rs more : List Reply) (mid : List Event) (e : Event) (reply : Reply) (new : List Event)
    → Run start h es rs mid → x ≡ start → Step x mid e reply new → more ≡ rs ++ reply ∷ [] → Run start h (es ++ e ∷ []) more new
run_more x start h es rs more mid e reply new run same step grown =
    let one = subst (λ (y : Setting). Step y mid e reply new) same step in
    subst (λ (ys : List Reply). Run start h (es ++ e ∷ []) ys new) (sym grown) (run_push start h es rs mid e reply new run one)
