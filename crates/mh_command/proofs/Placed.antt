-- The first fault of a script, whose path is known, with the number of its event.
use Rattle.std.proofs.Common.{◌≡◌, ◌∙◌, ℕ, ◌+◌, List, [], ◌∷◌, Bool, true, false, Option, Some, None, Result, Ok, Err, refl, ap, sym}
use Rattle.std.specs.Prelude.{if◌then◌else◌, nat_le, nat_lt, ◌&&◌}
use Rattle.serde_json.specs.Data.{Data, null, boolean, number, string, array, object}
use Rattle.serde_json.specs.Find.{get}
use Rattle.mh_core.specs.Limits.{most_events, most_held, most_hits}
use Rattle.mh_json.specs.Gives.{◌>>=◌, at_place, or_fault}
use Rattle.mh_json.specs.Keys.{field_name}
use Rattle.mh_json.specs.Misreads.{MisreadData, behind, here, under}
use Rattle.mh_json.specs.Script.{definition_of, events_of, limits_in, limits_of, limits_where, preamble_of, script_of, script_read, script_with, step_list_of, step_of, workers_of}
use Rattle.mh_json.specs.Shape.{each_from, list_of, member_of}
use Rattle.mh_json.specs.declared.fault.Fault.{Fault}
use Rattle.mh_json.specs.declared.fault.InputFault.{InputFault}
use Rattle.mh_json.specs.declared.fault.InputFault.TheVariants.{BadShape}
use Rattle.mh_json.specs.declared.fault.TextFault.TheVariants.{Input}
use Rattle.mh_json.specs.declared.json.declarations.Declarations.{Declarations}
use Rattle.mh_json.specs.declared.json.script.Preamble.{Preamble}
use Rattle.mh_json.specs.declared.json.step.Step.{Step}
use Rattle.mh_json.specs.declared.key.Field.{Field}
use Rattle.mh_json.specs.declared.key.Field.TheVariants as field
use Rattle.mh_json.specs.declared.key.Key.{Key}
use Rattle.mh_json.specs.declared.key.Key.TheVariants.{Member, Item}
use Rattle.mh_command.specs.inner.Findings.{event_of, fault_in}

-- an error of this type
abbrev err : (A : Type 0) {E : Type 0} → E → Result A E
err A e = Err e

pub same_err : {A E : Type 0} (a b : E) → err A a ≡ Err b → a ≡ b
same_err a b is = cc

pub no_err : {A E : Type 0} (x : A) (e : E) → Ok x ≡ Err e → ⊥
no_err x e is = cc

-- a fault outside the events
abbrev pub IsOutside : MisreadData → Type 0
IsOutside m = event_of m.path ≡ 0

-- every fault of a reading is outside the events
abbrev pub AreOutside : {A : Type 0} → Result A MisreadData → Type 0
AreOutside r = (m : MisreadData) → r ≡ Err m → IsOutside m

pub ok_outside : {A : Type 0} (x : A) → AreOutside (Ok x)
ok_outside x m is = absurd (no_err x m is)

pub here_outside : {A : Type 0} (e : InputFault) → AreOutside (err A (here e))
here_outside e m is = ap (λ (m : MisreadData). event_of m.path) (sym (same_err (here e) m is))

pub both_outside : {A B : Type 0} (r : Result A MisreadData) (f : A → Result B MisreadData) → AreOutside r → ((x : A) → AreOutside (f x)) → AreOutside (r >>= f)
both_outside (Ok x) f first second m is = second x m is
both_outside (Err e) f first second m is = first m (ap Err (same_err e m is))

pub where_outside : {A : Type 0} (b : Bool) (x : A) (e : InputFault) → AreOutside (if b then Ok x else Err (here e))
where_outside true x e = ok_outside x
where_outside false x e = here_outside e

-- what stands at a key that is not that of the events
pub under_outside : {A : Type 0} (key : Field) → ((rest : List Key) → event_of (Member key ∷ rest) ≡ 0) → (r : Result A MisreadData) → AreOutside (under (Member key) r)
under_outside key away (Ok x) m is = absurd (no_err x m is)
under_outside key away (Err e) m is = ap (λ (m : MisreadData). event_of m.path) (sym (same_err (behind (Member key) e) m is)) ∙ away e.path

pub member_outside : {A : Type 0} (key : Field) → ((rest : List Key) → event_of (Member key ∷ rest) ≡ 0) → (read : Data → Result A MisreadData) (o : Option Data)
    → AreOutside (or_fault BadShape o >>= λ part. under (Member key) (read part))
member_outside key away read None = here_outside BadShape
member_outside key away read (Some part) = under_outside key away (read part)

limits_outside : (o : Option Data) → AreOutside (limits_where o)
limits_outside None =
    where_outside (nat_le most_events most_events && (nat_lt 0 most_held && nat_le most_held most_held) && nat_le most_hits most_hits)
    (record { history = most_events; ledger = most_held; total = most_hits }) BadShape
limits_outside (Some d) = under_outside field.Limits (λ rest. refl) (limits_in d)

preamble_outside : (d : Data) → AreOutside (preamble_of d)
unfolding preamble_of
preamble_outside d =
    both_outside (member_of field.Definition definition_of d) _ (member_outside field.Definition (λ rest. refl) definition_of (get (field_name field.Definition) d)) (λ declared.
    both_outside (member_of field.Workers workers_of d) _ (member_outside field.Workers (λ rest. refl) workers_of (get (field_name field.Workers) d)) (λ workers.
    both_outside (limits_of d) _ (limits_outside (get (field_name field.Limits) d)) (λ limits. ok_outside _)))

-- a fault behind the key of the events
abbrev among_events : MisreadData → Fault
among_events m = fault_in (behind (Member field.Events) m)

-- The first fault of items by its path is the same as by the number of its item.
module _ {A : Type 0} (f : Data → Result A MisreadData) where
  abbrev by_path : ℕ → List Data → Result (List A) MisreadData
  by_path n ds = each_from (λ i d. under (Item i) (f d)) n ds

  abbrev by_number : ℕ → List Data → Result (List A) Fault
  by_number n ds = each_from (λ i d. at_place i (f d)) n ds

  later_fails : (x : A) (rest : Result (List A) MisreadData) (told : Result (List A) Fault) → ((m : MisreadData) → rest ≡ Err m → told ≡ Err (among_events m))
      → (m : MisreadData) → (rest >>= λ xs. Ok (x ∷ xs)) ≡ Err m → (told >>= λ xs. Ok (x ∷ xs)) ≡ Err (among_events m)
  later_fails x (Ok xs) told same m is = absurd (no_err _ m is)
  later_fails x (Err e) told same m is = ap (λ (r : Result (List A) Fault). r >>= λ xs. Ok (x ∷ xs)) (same e refl) ∙ ap (λ (m : MisreadData). Err (among_events m)) (same_err e m is)

  item_fails : (n : ℕ) (r : Result A MisreadData) (rest : Result (List A) MisreadData) (told : Result (List A) Fault) → ((m : MisreadData) → rest ≡ Err m → told ≡ Err (among_events m))
      → (m : MisreadData) → (under (Item n) r >>= λ x. rest >>= λ xs. Ok (x ∷ xs)) ≡ Err m → (at_place (n + 1) r >>= λ x. told >>= λ xs. Ok (x ∷ xs)) ≡ Err (among_events m)
  item_fails n (Ok x) rest told same m is = later_fails x rest told same m is
  item_fails n (Err e) rest told same m is = ap (λ (m : MisreadData). Err (among_events m)) (same_err (behind (Item n) e) m is)

  items_fail : (n : ℕ) (ds : List Data) (m : MisreadData) → by_path n ds ≡ Err m → by_number (n + 1) ds ≡ Err (among_events m)
  items_fail n [] m is = absurd (no_err _ m is)
  items_fail n (d ∷ ds) m is = item_fails n (f d) (by_path (n + 1) ds) (by_number ((n + 1) + 1) ds) (items_fail (n + 1) ds) m is

no_list : (d : Data) (m : MisreadData) → list_of d ≡ Err m → m ≡ here BadShape
no_list (array ds) m is = absurd (no_err _ m is)
no_list null m is = sym (same_err (here BadShape) m is)
no_list (boolean b) m is = sym (same_err (here BadShape) m is)
no_list (number n) m is = sym (same_err (here BadShape) m is)
no_list (string s) m is = sym (same_err (here BadShape) m is)
no_list (object ms) m is = sym (same_err (here BadShape) m is)

module _ (declared : Declarations) where
  abbrev told_of : Result (List Data) MisreadData → Result (List Step) Fault
  told_of items = at_place 0 items >>= λ ds. each_from (λ n d. at_place n (step_of declared d)) 1 ds

  abbrev read_of : Result (List Data) MisreadData → Result (List Step) MisreadData
  read_of items = items >>= λ ds. each_from (λ i d. under (Item i) (step_of declared d)) 0 ds

  list_fails : (items : Result (List Data) MisreadData) → ((m : MisreadData) → items ≡ Err m → m ≡ here BadShape)
      → (m : MisreadData) → read_of items ≡ Err m → told_of items ≡ Err (among_events m)
  list_fails (Ok ds) none m is = items_fail (step_of declared) 0 ds m is
  list_fails (Err e) none m is =
      let bad = none e refl in
      ap (λ (m : MisreadData). Err (record { kind = Input m.fault; at = 0 })) bad ∙ ap (λ (m : MisreadData). Err (among_events m)) (sym bad ∙ same_err e m is)

  behind_fails : (r : Result (List Step) MisreadData) (told : Result (List Step) Fault) → ((m : MisreadData) → r ≡ Err m → told ≡ Err (among_events m))
      → (m : MisreadData) → under (Member field.Events) r ≡ Err m → told ≡ Err (fault_in m)
  behind_fails (Ok steps) told same m is = absurd (no_err steps m is)
  behind_fails (Err e) told same m is = same e refl ∙ ap (λ (m : MisreadData). Err (fault_in m)) (same_err (behind (Member field.Events) e) m is)

  part_fails : (o : Option Data) (m : MisreadData) → (or_fault BadShape o >>= λ part. under (Member field.Events) (events_of declared part)) ≡ Err m
      → (at_place 0 (or_fault BadShape o) >>= λ part. told_of (list_of part)) ≡ Err (fault_in m)
  unfolding events_of
  part_fails None m is = ap (λ (m : MisreadData). Err (fault_in m)) (same_err (here BadShape) m is)
  part_fails (Some part) m is = behind_fails (read_of (list_of part)) (told_of (list_of part)) (list_fails (list_of part) (no_list part)) m is

  steps_fail : (d : Data) (m : MisreadData) → member_of field.Events (events_of declared) d ≡ Err m → step_list_of declared d ≡ Err (fault_in m)
  steps_fail d m is = part_fails (get (field_name field.Events) d) m is

module _ (preamble : Preamble) where
  with_steps : (r : Result (List Step) MisreadData) (told : Result (List Step) Fault) → ((m : MisreadData) → r ≡ Err m → told ≡ Err (fault_in m))
      → (m : MisreadData) → (r >>= λ steps. Ok (script_with preamble steps)) ≡ Err m → (told >>= λ steps. Ok (script_with preamble steps)) ≡ Err (fault_in m)
  with_steps (Ok steps) told same m is = absurd (no_err _ m is)
  with_steps (Err e) told same m is = ap (λ (r : Result (List Step) Fault). r >>= λ steps. Ok (script_with preamble steps)) (same e refl) ∙ ap (λ (m : MisreadData). Err (fault_in m)) (same_err e m is)

from_preamble : (d : Data) (r : Result Preamble MisreadData) → AreOutside r → (m : MisreadData)
    → (r >>= λ preamble. member_of field.Events (events_of preamble.declared) d >>= λ steps. Ok (script_with preamble steps)) ≡ Err m
    → (at_place 0 r >>= λ preamble. step_list_of preamble.declared d >>= λ steps. Ok (script_with preamble steps)) ≡ Err (fault_in m)
from_preamble d (Ok preamble) outside m is =
    with_steps preamble (member_of field.Events (events_of preamble.declared) d) (step_list_of preamble.declared d) (steps_fail preamble.declared d) m is
from_preamble d (Err e) outside m is =
    ap (λ at. Err (record { kind = Input e.fault; at = at })) (sym (outside e refl)) ∙ ap (λ (m : MisreadData). Err (fault_in m)) (same_err e m is)

pub script_fails : (d : Data) (m : MisreadData) → script_read d ≡ Err m → script_of d ≡ Err (fault_in m)
script_fails d m is = from_preamble d (preamble_of d) (preamble_outside d) m is
