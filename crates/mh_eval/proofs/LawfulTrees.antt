-- The tests decide.
use Rattle.std.proofs.Common.{◌≡◌, ℕ, List, length, refl, Bool, true, false, ◌&&◌}
use Rattle.std.specs.Bool.{Decides}
use Rattle.std.proofs.lemmas.Bool.Decides.{Decides-ltb}
use Rattle.mh_type.specs.Signature.{Signature}
use Rattle.mh_type.specs.Laws.{signature_eq_decides}
use Rattle.mh_tree.specs.Handle.{TypedTree}
use Rattle.mh_tree.specs.Sites.{EachInvoke, EachInvokes, MayInvoke, InvokesBelow, level_at, target_at}
use Rattle.mh_tree.specs.Tree.{Tree}
use Rattle.mh_tree.specs.Invocations.{each_invoke}
use Rattle.mh_tree.specs.Laws.{both_hold, each_decides, hold_both}
use Rattle.mh_eval.specs.inner.Lawful.{may_invoke}

pub may_decides : (levels : List ℕ) (targets : List TypedTree) (l s : ℕ) (n : Signature) → Decides (may_invoke levels targets l s n) (MayInvoke levels targets l s n)
may_decides levels targets l s n = (
  λ h. let one = both_hold _ _ h in let two = both_hold _ _ one.1 in let three = both_hold _ _ two.1 in record {
    known = (Decides-ltb s (length targets)).0 one.0;
    levelled = (Decides-ltb s (length levels)).0 two.0;
    lower = (Decides-ltb (level_at levels s) l).0 three.0;
    same = (signature_eq_decides n (target_at targets s).signature).0 three.1;
  },
  λ h. hold_both _ _ ((Decides-ltb s (length targets)).1 h.known) (hold_both _ _ ((Decides-ltb s (length levels)).1 h.levelled)
      (hold_both _ _ ((Decides-ltb (level_at levels s) l).1 h.lower) ((signature_eq_decides n (target_at targets s).signature).1 h.same))),
)

pub below_decides : (levels : List ℕ) (targets : List TypedTree) (l : ℕ) (t : Tree) → Decides (each_invoke (may_invoke levels targets l) t) (InvokesBelow levels targets l t)
below_decides levels targets l t = each_decides (may_invoke levels targets l) (MayInvoke levels targets l) (may_decides levels targets l) t
