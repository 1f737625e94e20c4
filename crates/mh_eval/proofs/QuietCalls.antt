-- What memory a handle's code takes in a call.
use Rattle.std.proofs.Common.{◌≡◌, ◌≤◌, ap, sym, List, [], length, map, arith, subst, suc}
use Rattle.std.specs.List.{range_with_len}
use Rattle.mh_type.specs.declared.value.Value.{Value}
use Rattle.mh_tree.specs.Code.{Code}
use Rattle.mh_tree.specs.Handle.{TypedTree, IsSound}
use Rattle.mh_tree.specs.Prepared.{handle_code}
use Rattle.mh_tree.specs.Running.{weight}
use Rattle.mh_tree.specs.Sites.{Setting, env, most_at, EachInvoke, MayReach}
use Rattle.mh_tree.specs.declared.operand.Operand.TheVariants.{Argument}
use Rattle.mh_tree.specs.Laws.{call_weighs, reads_arguments, steps_at}
use Rattle.mh_eval.specs.Entered.{EntersPlain}
use Rattle.mh_eval.specs.Quiet.{IsQuiet, NoTexts, deep}
use Rattle.mh_eval.proofs.QuietTrees.{quiet, shallow}

module _ (v : Setting) (h : TypedTree) (a : List Value) (code : Code) (kept : code ≡ handle_code h) (sound : IsSound h.tree h.signature) (count : length h.signature.parameters ≡ length a) where
  -- it takes at most the steps of its level
  pub call_small : weight (most_at v.level) code ≤ most_at (suc v.level)
  call_small = omega (arith, call_weighs (env v) h a code kept sound count (most_at v.level), steps_at v.level h.tree sound.small)

  pub call_quiet : EachInvoke (MayReach v.level v.targets (length v.valid)) h.tree → NoTexts a → EntersPlain v h.tree a → IsQuiet v code a []
  call_quiet reach none plain =
      let P : Code → Type 0 = λ k. IsQuiet v k a [] in
      subst P (sym kept)
      (quiet v h.tree h.signature _ 0 0 a [] a reach sound.typed (omega (arith, count)) (omega arith) (λ e. reads_arguments a e _ count) none plain)

  pub call_shallow : deep code ≤ 1536
  call_shallow =
      let e = ap deep kept in
      omega (arith, e, shallow h.tree h.signature (map (λ i. Argument i) (range_with_len 0 (length h.signature.parameters))) 0 0 sound.typed, sound.shallow)
