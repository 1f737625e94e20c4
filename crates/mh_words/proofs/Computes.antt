-- Sources of words have the outcomes of operands and operations.
use Rattle.std.proofs.Common.{◌≡◌, ℕ, Option, Some, List, [], ◌∷◌, refl, ap, sym, ◌∙◌, subst}
use Rattle.std.specs.Prelude.{ℤ, IfSome}
use Rattle.mh_type.specs.declared.kind.Kind.{Kind}
use Rattle.mh_type.specs.declared.kind.Kind.TheVariants as kind
use Rattle.mh_type.specs.declared.operation.Op.{Op}
use Rattle.mh_type.specs.declared.operation.Op.TheVariants.{Ieq}
use Rattle.mh_type.specs.declared.outcome.Outcome.{Outcome}
use Rattle.mh_type.specs.declared.outcome.Outcome.TheVariants as outcome
use Rattle.mh_type.specs.declared.value.Value.{Value}
use Rattle.mh_type.specs.declared.value.Value.TheVariants.{Int}
use Rattle.mh_type.specs.Operations.{operate}
use Rattle.mh_type.specs.Signature.{Signature}
use Rattle.mh_tree.specs.Meaning.{argument}
use Rattle.mh_tree.specs.Running.{value_of}
use Rattle.mh_tree.specs.declared.operand.Operand.{Operand}
use Rattle.mh_tree.specs.declared.operand.Operand.TheVariants.{Argument}
use Rattle.mh_code.specs.Routine.{operand, operation}
use Rattle.mh_words.specs.Operations.{result}
use Rattle.mh_words.specs.Running.{outcome_of, source_word, word_at}
use Rattle.mh_words.specs.Values.{IsWord, value_of_word}
use Rattle.mh_words.specs.inner.Agrees.{Gives, HasWord, IsKnown, input_word}
use Rattle.mh_words.specs.inner.Forms.{form_of}
use Rattle.mh_words.specs.inner.Lowered.{Computes, Copies, IsKeySlot, Makes, Reads}
use Rattle.mh_words.specs.declared.form.Form.{Form}
use Rattle.mh_words.specs.declared.input.Input.TheVariants.{Read}
use Rattle.mh_words.specs.declared.known.Known.{Known}
use Rattle.mh_words.specs.declared.made.Made.{Made}
use Rattle.mh_words.specs.declared.slot.Slot.{Slot}
use Rattle.mh_words.specs.declared.word_source.WordSource.{WordSource}
use Rattle.mh_words.proofs.Forms.{Given, form_gives}
use Rattle.mh_words.proofs.WordValues.{proper, value_is}

made_gives : (k : Kind) (s : WordSource) (f : List ℤ) (o : Outcome) (r : Option ℤ) → source_word f s ≡ r → Given k o r → Gives (record { kind = k; source = s }) f o
made_gives k s f o r is g = record {
  outcome = g.outcome ∙ ap (outcome_of k) (sym is);
  proper = subst (λ q. IfSome q (λ w. IsWord (value_of_word k w) w)) (sym is) g.proper;
}

known_as : (f : List ℤ) (j : Known) (takes : Kind) (x : Value) → j.kind ≡ takes → IsKnown f j x → HasWord takes x (input_word f j.input)
known_as f j takes x same h = (h.0 ∙ same, h.1)

pub computes_one : (o : Op) (takes k : Kind) (j : Known) (s : WordSource) (by : ℤ → Option ℤ) → j.kind ≡ takes → ((f : List ℤ) → source_word f s ≡ by (input_word f j.input)) → ((w : ℤ) (z : Value) → IsWord (value_of_word takes w) w → Given k (operate o (value_of_word takes w ∷ z ∷ [])) (by w)) → (other : Known) → Computes o j other (record { kind = k; source = s })
computes_one o takes k j s by same is gives other = λ f x z p q.
    let w = input_word f j.input in
    let h = known_as f j takes x same p in
    subst (λ y. Gives (record { kind = k; source = s }) f (operate o (y ∷ z ∷ []))) (sym (value_is takes x w h))
    (made_gives k s f (operate o (value_of_word takes w ∷ z ∷ [])) (by w) (is f) (gives w z (proper takes x w h)))

pub computes_two : (o : Op) (m : Form) (i j : Known) (s : WordSource) → form_of o ≡ Some m → i.kind ≡ m.takes → j.kind ≡ m.takes → ((f : List ℤ) → source_word f s ≡ result m.operation (input_word f i.input) (input_word f j.input)) → Computes o i j (record { kind = m.returns; source = s })
computes_two o m i j s form one other is = λ f x z p q.
    let w = input_word f i.input in
    let u = input_word f j.input in
    let h = known_as f i m.takes x one p in
    let g = known_as f j m.takes z other q in
    subst (λ y. Gives (record { kind = m.returns; source = s }) f (operate o (y ∷ z ∷ []))) (sym (value_is m.takes x w h))
    (subst (λ y. Gives (record { kind = m.returns; source = s }) f (operate o (value_of_word m.takes w ∷ y ∷ []))) (sym (value_is m.takes z u g))
    (made_gives m.returns s f _ (result m.operation w u) (is f) (form_gives o m w u form (proper m.takes x w h) (proper m.takes z u g))))

pub makes_operand : (m : Signature) (ks : List Known) (o : Operand) (k : Known) (s : WordSource) → Reads m ks o k → Copies s k.input → Makes m ks (operand o) (record { kind = k.kind; source = s })
makes_operand m ks o k s reads copies = record {
  gives = λ v a l f h.
      let w = input_word f k.input in
      let r = reads a l f h in
      made_gives k.kind s f (outcome.Value (value_of a l o)) (Some w) (copies f)
      (record { outcome = ap outcome.Value (value_is k.kind (value_of a l o) w r); proper = proper k.kind (value_of a l o) w r });
  quick = λ v a l. refl;
}

pub makes_operation : (m : Signature) (ks : List Known) (op : Op) (x z : Operand) (i j : Known) (y : Made) → Reads m ks x i → Reads m ks z j → Computes op i j y → Makes m ks (operation op x z) y
makes_operation m ks op x z i j y one other computes = record {
  gives = λ v a l f h. computes f (value_of a l x) (value_of a l z) (one a l f h) (other a l f h);
  quick = λ v a l. refl;
}

-- an int argument in a slot is compared with keys
pub key_asked : (m : Signature) (ks : List Known) (i : ℕ) (k : Known) (s : Slot) → ((js : List Known) → Reads m js (Argument i) k) → k.kind ≡ kind.Int → k.input ≡ Read s → IsKeySlot m ks i s
key_asked m ks i k s reads same input key = record {
  truth = λ v a l f h.
      let x = argument a i in
      let r = reads ks a l f h in
      let w : HasWord kind.Int x (word_at f s.place) = (r.0 ∙ same, subst (λ j. IsWord x (input_word f j)) input r.1) in
      ap (λ y. operate Ieq (y ∷ Int key ∷ [])) (value_is kind.Int x (word_at f s.place) w);
  quick = λ v a l. refl;
}
