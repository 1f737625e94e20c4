use Rattle.std.proofs.Common.{◌≡◌, ℕ, Bor, List, [], ◌∷◌, ◌++◌, take, true, false, not, refl, ap, sym, ◌∙◌, subst, arith, rules}
use Rattle.std.specs.Arc.{arc_value}
use Rattle.std.specs.Int.{w64}
use Rattle.std.specs.Int.RustNames.{FitsSigned}
use Rattle.std.proofs.lemmas.Int.{to_z-of_z}
use Rattle.mh_code.specs.Laws.Switches.{routine_of_switch}
use Rattle.mh_code.specs.PieceOf.{chain, key_source, routine_of, routine_of_code, routines}
use Rattle.mh_code.specs.Routine.{Routine, keep, operand, operation, pick, point}
use Rattle.mh_type.specs.Operations.{is_zero}
use Rattle.mh_type.specs.Signature.{Signature}
use Rattle.mh_code.specs.RoutineOf.{after_steps}
use Rattle.mh_words.specs.Routine.{WordRoutine, pick as pick_word}
use Rattle.mh_words.specs.RoutineOf.{word_routine}
use Rattle.mh_words.specs.inner.Lowered.{Asks, Lowers}
use Rattle.mh_words.specs.inner.Switches.{tests}
use Rattle.mh_words.specs.declared.keyed.Keyed.{Keyed}
use Rattle.mh_words.specs.declared.known.Known.{Known}
use Rattle.mh_words.specs.declared.word_test.WordTest.TheVariants.{Is}
use Rattle.mh_words.proofs.Entries.{tests_pushed}
use Rattle.mh_words.proofs.Lowers.{lowers_after, lowers_asked, lowers_copied, lowers_fallback, lowers_kept, lowers_pick, lowers_point, lowers_same, lowers_target}
use Rattle.mh_words.proofs.Pieces.{of_apply, of_go, of_leaf, word_of_let, word_of_point}
use Rattle.mh_words.proofs.Placed.{if_ok, moved, placed_give}
use Rattle.mh_words.proofs.lowering.+lower.Goals as goal

-- another name of the routine, and of the steps before it
routine_at : (m : Signature) (ks : List Known) (p : WordRoutine) (r q : Routine) (n b : ℕ) → r ≡ q → n ≡ b → Lowers m ks p r n → Lowers m ks p q b
routine_at m ks p r q n b form before h = subst (Lowers m ks p q) before (subst (λ x. Lowers m ks p x n) form h)

pub lower_piece-returns-in_ok-made-in-Leaf : goal.lower_piece-returns-in_ok-made-in-Leaf
lower_piece-returns-in_ok-made-in-Leaf t c =
    let w = c.in-Leaf in
    let place = c.in_ok-place-in-Leaf in
    let made = c.in_ok-made-in-Leaf.made in
    let at = place.ensures.value in
    record {
      lowers = placed_give c.args.place.now.of place.place.of c.args.place.now.locals place.place.locals at.0 at.1
          c.give.result (operand w.operand) made w.steps c.args.place.now.before place.place.before (routine_of c.args.piece.now) at.2
          c.in_ok-made-in-Leaf.ensures.value (ap routine_of w.is ∙ of_leaf w.operand w.steps) c.give.ensures.value c.give.ensures.kind;
    }

pub lower_piece-returns-in_ok-made-in-Apply : goal.lower_piece-returns-in_ok-made-in-Apply
lower_piece-returns-in_ok-made-in-Apply t c =
    let w = c.in-Apply in
    let place = c.in_ok-place-in-Apply in
    let made = c.in_ok-made-in-Apply.made in
    let at = place.ensures.value in
    record {
      lowers = placed_give c.args.place.now.of place.place.of c.args.place.now.locals place.place.locals at.0 at.1
          c.give-in-Apply.result (operation w.op w.first w.second) made w.steps c.args.place.now.before place.place.before (routine_of c.args.piece.now) at.2
          c.in_ok-made-in-Apply.ensures.value (ap routine_of w.is ∙ of_apply w.op w.first w.second w.steps) c.give-in-Apply.ensures.value c.give-in-Apply.ensures.kind;
    }

pub lower_piece-returns-in_ok-place-in-Switch : goal.lower_piece-returns-in_ok-place-in-Switch
lower_piece-returns-in_ok-place-in-Switch t c =
    let w = c.in-Switch in
    let place = c.in_ok-place-in-Switch.place in
    let at = c.in_ok-place-in-Switch.ensures.value in
    let b = c.args.place.now.before in
    let before : place.before ≡ b = omega (arith, at.2) in
    let form : chain w.number c.rows.result.now (routines c.deref-in-Switch-2.result.now) (routine_of c.deref-in-Switch-3.result.now) ≡ routine_of c.args.piece.now =
    (λ i. chain w.number ((c.rows.ensures.value ∙ c.deref-in-Switch.ensures) i) (routines (c.deref-in-Switch-2.ensures.value i)) (routine_of (c.deref-in-Switch-3.ensures i)))
    ∙ sym (ap routine_of w.is ∙ routine_of_switch w.number w.index w.targets w.otherwise) in
    record {
      lowers = if_ok c.lower_switch.result _ _
          (λ a h. moved c.args.place.now.of place.of c.args.place.now.locals place.locals at.0 at.1 (word_routine (arc_value a)) (routine_of c.args.piece.now) b
          (routine_at place.of.now place.locals.now (word_routine (arc_value a)) _ _ _ _ form before h))
          c.lower_switch.ensures.lowers;
    }

pub lower_piece-returns-in_ok-after-in-Go : goal.lower_piece-returns-in_ok-after-in-Go
lower_piece-returns-in_ok-after-in-Go t c =
    let w = c.in-Go in
    let place = c.in_ok-after-in-Go.field-0 in
    let at = c.in_ok-after-in-Go.ensures.value in
    let b = c.args.place.now.before in
    let r = routine_of c.entry.result.now in
    let entry : r ≡ routine_of_code (arc_value w.code) = c.entry.ensures.value ∙ ap routine_of_code c.deref-in-Go.ensures in
    let form : after_steps w.steps r ≡ routine_of c.args.piece.now = ap (after_steps w.steps) entry ∙ sym (ap routine_of w.is ∙ of_go w.code w.steps) in
    record {
      lowers = if_ok c.lower_piece.result _ _
          (λ a h. moved c.args.place.now.of place.of c.args.place.now.locals place.locals at.0 at.1 (word_routine (arc_value a)) (routine_of c.args.piece.now) b
          (subst (λ q. Lowers place.of.now place.locals.now (word_routine (arc_value a)) q b) form
          (lowers_after place.of.now place.locals.now w.steps b place.before (word_routine (arc_value a)) r at.2 h)))
          c.lower_piece.ensures.lowers;
    }

pub lower_choice-returns-then-is_true : goal.lower_choice-returns-then-is_true
lower_choice-returns-then-is_true t c =
    let m = c.args.place.now.of.now in
    let ks = c.args.place.now.locals.now in
    let r = routine_of c.args.branches.target.now in
    let o = routine_of c.args.branches.fallback.now in
    let word = c.in-Constant.word in
    let fits : FitsSigned w64 word = search rules in
    let truth : not (is_zero word) ≡ true = ap (λ w. not (is_zero w)) (sym (to_z-of_z w64 word fits)) ∙ sym c.if-is_true.ensures.value in
    record {
      lowers = if_ok c.lower_piece.result _ _
          (λ a h x s b is made. lowers_target m ks x c.args.made.now c.in-Constant.word s b c.args.place.now.before (word_routine (arc_value a)) r o is made (c.if-not-is.ensures.same.0 refl) c.in-Constant.is truth h)
          c.lower_piece.ensures.lowers;
    }

pub lower_choice-returns-in-Constant : goal.lower_choice-returns-in-Constant
lower_choice-returns-in-Constant t c =
    let m = c.args.place.now.of.now in
    let ks = c.args.place.now.locals.now in
    let r = routine_of c.args.branches.target.now in
    let o = routine_of c.args.branches.fallback.now in
    let word = c.in-Constant.word in
    let fits : FitsSigned w64 word = search rules in
    let truth : not (is_zero word) ≡ false = ap (λ w. not (is_zero w)) (sym (to_z-of_z w64 word fits)) ∙ sym c.if-is_true.ensures.value in
    record {
      lowers = if_ok c.lower_piece-in-Constant.result _ _
          (λ a h x s b is made. lowers_fallback m ks x c.args.made.now c.in-Constant.word s b c.args.place.now.before (word_routine (arc_value a)) r o is made (c.if-not-is.ensures.same.0 refl) c.in-Constant.is truth h)
          c.lower_piece-in-Constant.ensures.lowers;
    }

pub lower_choice-returns : goal.lower_choice-returns
lower_choice-returns t c =
    let m = c.args.place.now.of.now in
    let ks = c.args.place.now.locals.now in
    let r = routine_of c.args.branches.target.now in
    let o = routine_of c.args.branches.fallback.now in
    let p = word_routine (arc_value c.in_ok-target.target) in
    let u = word_routine (arc_value c.in_ok-fallback.fallback) in
    record {
      lowers = if_ok c.choose.result _ _
          (λ a h x s b is made. subst (λ q. Lowers m ks q (pick s x r o) b) (sym h)
          (lowers_pick m ks x c.args.made.now c.in_ok-test.test s b c.args.place.now.before p u r o is made (c.if-not-is.ensures.same.0 refl) c.in_ok-test.ensures.value c.in_ok-target.ensures.lowers c.in_ok-fallback.ensures.lowers))
          c.choose.ensures.value;
    }

pub lower_kept-returns-in-Some : goal.lower_kept-returns-in-Some
lower_kept-returns-in-Some t c =
    let m = c.args.place.now.of.now in
    let ks = c.args.place.now.locals.now in
    let r = routine_of c.args.then.now in
    let b' = c.args.place.now.before in
    let j = c.in-Some.input in
    let locals : c.deref.result.now ≡ take c.args.local ks ++ record { kind = c.args.made.now.kind; input = j } ∷ [] = c.deref.ensures.value ∙ c.in_ok-locals.ensures.value in
    record {
      lowers = if_ok c.lower_piece.result _ _
          (λ a h x s b is made. lowers_copied m ks x c.args.made.now s b b' c.args.local j (word_routine (arc_value a)) r is made c.in-Some.ensures.value
          (subst (λ k. Lowers m k (word_routine (arc_value a)) r b') locals h))
          c.lower_piece.ensures.lowers;
    }

pub lower_kept-returns : goal.lower_kept-returns
lower_kept-returns t c =
    let m = c.args.place.now.of.now in
    let ks = c.args.place.now.locals.now in
    let r = routine_of c.args.then.now in
    let b' = c.args.place.now.before in
    let slot = c.in_ok-slot.slot in
    let then = c.in_ok-then.then in
    let p = word_routine (arc_value then) in
    let locals : c.deref-2.result.now ≡ take c.args.local ks ++ record { kind = c.args.made.now.kind; input = _ } ∷ [] = c.deref-2.ensures.value ∙ c.in_ok-locals-2.ensures.value in
    record {
      lowers = if_ok c.own.result _ _
          (λ a h x s b is made. subst (λ q. Lowers m ks q (keep s x c.args.local r) b) (sym (ap word_routine h ∙ word_of_let c.args.made.now.source slot then b'))
          (lowers_kept m ks x c.args.made.now s b b' c.args.local slot p r is made c.in_ok-slot.ensures.free c.in_ok-slot.ensures.behind slot.inside
          (subst (λ k. Lowers m k p r b') locals c.in_ok-then.ensures.lowers)))
          c.own.ensures.value;
    }

pub lower_point-returns : goal.lower_point-returns
lower_point-returns t c =
    let m = c.args.place.now.of.now in
    let ks = c.args.place.now.locals.now in
    let r = routine_of c.args.branches.target.now in
    let o = routine_of c.args.branches.fallback.now in
    let target = c.in_ok-target.target in
    let fallback = c.in_ok-fallback.fallback in
    record {
      lowers = if_ok c.own.result _ _
          (λ a h s b is. subst (λ q. Lowers m ks q (point s c.args.point r o) b) (sym (ap word_routine h ∙ word_of_point c.args.point target fallback))
          (lowers_point m ks c.args.point s b c.args.place.now.before (word_routine (arc_value target)) (word_routine (arc_value fallback)) r o is c.in_ok-target.ensures.lowers c.in_ok-fallback.ensures.lowers))
          c.own.ensures.value;
    }

pub lower_rows-returns : goal.lower_rows-returns
lower_rows-returns t c =
    let m = c.args.place.now.of.now in
    let ks = c.args.place.now.locals.now in
    let b = c.args.place.now.before in
    let inner = c.in_ok-inner.inner in
    let at = c.in_ok-inner.ensures.value in
    let row = c.in-Some.row.now in
    let place = c.args.chain.place in
    let slot = c.args.slot in
    let ts = routines c.args.chain.targets.now in
    let o = routine_of c.args.chain.otherwise.now in
    let test = key_source (record { place = place; key = row.key }) in
    let first = routine_of c.first_target-target.result.now in
    let rest = chain place c.in-Some.rows.now (routines c.without_first.result.now) o in
    let form : pick row.steps test first rest ≡ chain place c.args.chain.rows.now ts o =
    (λ i. pick row.steps test (c.first_target-target.ensures.value i) (chain place c.in-Some.rows.now (c.without_first.ensures.value i) o))
    ∙ sym (ap (λ rs. chain place rs ts o) c.in-Some.ensures.cases.0) in
    let behind = word_routine (arc_value c.in_ok-keyed.field-0.otherwise) in
    let keyed = c.in_ok-keyed.field-0.keyed.items in
    let key : Keyed = record { key = row.key; target = c.in_ok-target.target } in
    let items : c.push.new.self.items ≡ keyed ++ key ∷ [] = search rules in
    let p = word_routine (arc_value c.in_ok-target.target) in
    let asked : Asks inner.of.now inner.locals.now test (Is slot row.key) =
    subst (λ (k : Bor (List Known)). Asks inner.of.now k.now test (Is slot row.key)) (sym at.1)
    (subst (λ (x : Bor Signature). Asks x.now ks test (Is slot row.key)) (sym at.0) (c.requires.slot row.key)) in
    let lowered : Lowers inner.of.now inner.locals.now (pick_word (Is slot row.key) p (tests slot behind keyed)) (pick row.steps test first rest) b =
    lowers_asked inner.of.now inner.locals.now test (Is slot row.key) row.steps b inner.before p (tests slot behind keyed) first rest at.2 asked c.in_ok-target.ensures.lowers c.in_ok-keyed.ensures.lowers in
    record {
      lowers = subst (λ q. Lowers m ks q (chain place c.args.chain.rows.now ts o) b) (sym (ap (tests slot behind) items ∙ tests_pushed slot behind keyed key))
          (subst (λ r. Lowers m ks (pick_word (Is slot row.key) p (tests slot behind keyed)) r b) form
          (moved c.args.place.now.of inner.of c.args.place.now.locals inner.locals at.0 at.1 _ _ b lowered));
    }

pub lower_switch-returns : goal.lower_switch-returns
lower_switch-returns t c =
    record {
      lowers = if_ok c.switch.result _ _
          (λ a h. lowers_same c.args.place.now.of.now c.args.place.now.locals.now (word_routine (arc_value a)) _ _ c.args.place.now.before h c.in_ok-tests.ensures.lowers)
          c.switch.ensures.same;
    }
