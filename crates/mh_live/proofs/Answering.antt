-- What an office answers over its book.
use Rattle.std.proofs.Common.{◌≡◌, Some, inr, ℕ, ◌+◌, ◌<◌, ◌^◌, List, [], ◌∷◌, ◌++◌, length, Result, Ok, Err, OnOk, IfErr, refl, sym, ap, subst, ◌∙◌, arith}
use Rattle.std.specs.Prelude.{reverse}
use Rattle.std.proofs.lemmas.List.Sums.{fold_push}
use Rattle.mh_site.specs.Defined.{DefinitionData}
use Rattle.mh_site.specs.Worlds.{WorldState, after, opened}
use Rattle.mh_site.specs.declared.control.Control.{Control}
use Rattle.mh_core.specs.Books.{BookState, IsBook, Legal, Rejects, Takes}
use Rattle.mh_core.specs.Pending.{IsReady, PendingState, SameBook, control_of}
use Rattle.mh_core.specs.Replayed.{controls, world}
use Rattle.mh_core.specs.Rows.{tests_of_record}
use Rattle.mh_base.specs.Tests.{Tests, test, may_tell, no_more, Passes, Refuses}
use Rattle.mh_core.specs.declared.record.Record.{Record}
use Rattle.mh_core.specs.declared.record.Record.TheVariants.{Flushed, Targeted, Invalidated, Snapped, Published, Installed}
use Rattle.mh_core.specs.Limits.{LimitsData}
use Rattle.mh_core.specs.declared.refusal.Refusal.{Refusal}
use Rattle.mh_core.specs.declared.refusal.Refusal.TheVariants.{NoMemory}
use Rattle.mh_core.specs.Laws.{change_of, stands, oldest_push, world_front, world_push}
use Rattle.mh_live.proofs.Replays.{after_front}
use Rattle.mh_live.specs.Offices.{list_of}
use Rattle.mh_live.specs.Receipts.{IsLegalRefusal}
use Rattle.mh_live.specs.Rules.{world_after}
use Rattle.mh_core.specs.Standing.{AreStanding}

-- ---- a book with perhaps more memory
pub takes_before : (old mid new : BookState) (e : Record) → SameBook old mid → Takes mid 0 e new → Takes old 0 e new
takes_before old mid new e same takes =
    let moved : Takes (record old { room = mid.room }) 0 e new = subst (λ (b : BookState). Takes b 0 e new) same takes in
    record { passes = moved.passes; records = moved.records; definition = moved.definition; limits = moved.limits }

pub list_same : (old mid : BookState) → SameBook old mid → list_of mid ≡ list_of old
list_same old mid same = ap list_of same

-- ---- the list of one record more
pub list_push : (b new : BookState) (e : Record) (c : Control) → controls b.definition (e ∷ b.records) ≡ c ∷ controls b.definition b.records → Takes b 0 e new → list_of new ≡ list_of b ++ c ∷ []
list_push b new e c changes takes =
    ap (λ (d : DefinitionData). reverse (controls d new.records)) takes.definition
    ∙ (ap (λ (r : List Record). reverse (controls b.definition r)) takes.records
    ∙ (ap reverse changes ∙ oldest_push c (controls b.definition b.records)))

pub list_stays : (b new : BookState) (e : Record) → controls b.definition (e ∷ b.records) ≡ controls b.definition b.records → Takes b 0 e new → list_of new ≡ list_of b
list_stays b new e changes takes =
    ap (λ (d : DefinitionData). reverse (controls d new.records)) takes.definition
    ∙ (ap (λ (r : List Record). reverse (controls b.definition r)) takes.records ∙ ap reverse changes)

-- a record that is no control, accepted or refused
pub list_kept : {X : Type 0} (r : Result X Refusal) (b new : BookState) (e : Record) → controls b.definition (e ∷ b.records) ≡ controls b.definition b.records
    → OnOk r (Takes b 0 e new) → IfErr r (λ told. Rejects b 0 e told new) → (list_of new ≡ list_of b) × (new.definition ≡ b.definition) × (new.limits ≡ b.limits)
list_kept (Ok x) b new e changes takes rejects = (list_stays b new e changes takes, takes.definition, takes.limits)
list_kept (Err told) b new e changes takes rejects = (ap list_of rejects.same, ap (λ (x : BookState). x.definition) rejects.same, ap (λ (x : BookState). x.limits) rejects.same)

pub list_few : (b : BookState) → IsBook b → length (list_of b) < 2 ^ 62
list_few b is = omega (arith, after_front b.definition (list_of b), world_front b.definition b.records, is.few, is.limits.history)

-- ---- the world of one record more
pub legal_push : (b : BookState) (p : PendingState) → IsBook b → IsReady b p → Legal b.definition b.limits (p.entry ∷ b.records)
legal_push b p is ready = ((length b.records + p.calls, (omega arith, ready.passes)), is.legal)

pub stands_after : (d : DefinitionData) (w : WorldState) (log : List Control) (b : BookState) (p : PendingState) (c : Control) → IsBook b → b.definition ≡ d → IsReady b p → w ≡ world_after d log → log ≡ list_of b → control_of p.effect ≡ Some c
    → AreStanding d (after w c)
stands_after d w log b p c is definition ready replays list own_control =
    let own : DefinitionData = b.definition in
    let now : w ≡ world own b.records = replays ∙ (ap (world_after d) list ∙ ap (λ (x : DefinitionData). world_after x (list_of b)) (sym definition)) in
    let pushed : after (world own b.records) c ≡ world own (p.entry ∷ b.records) =
    sym (fold_push after (opened own) (reverse (controls own b.records)) c) ∙ sym (world_push own (p.entry ∷ b.records) b.records c (change_of b p.entry p.effect c ready.effect own_control)) in
    let next : after w c ≡ world own (p.entry ∷ b.records) = ap (λ (v : WorldState). after v c) now ∙ pushed in
    let standing : AreStanding own (after w c) = subst (AreStanding own) (sym next) (λ s h. stands own b.limits (p.entry ∷ b.records) s is.definition (legal_push b p is ready) h) in
    subst (λ (x : DefinitionData). AreStanding x (after w c)) definition standing

-- the list that has the control of a change at its end is that of the records then
pub list_of_change : (b new : BookState) (p : PendingState) (c : Control) (front next : List Control) → IsReady b p → p.calls ≡ 0 → Takes b p.calls p.entry new → control_of p.effect ≡ Some c → front ≡ list_of b → next ≡ front ++ c ∷ []
    → Takes b 0 p.entry new × (next ≡ list_of new)
list_of_change b new p c front next ready none takes own known more =
    let plain : Takes b 0 p.entry new = subst (λ (n : ℕ). Takes b n p.entry new) none takes in
    (plain, more ∙ (ap (λ (cs : List Control). cs ++ c ∷ []) known ∙ sym (list_push b new p.entry c (change_of b p.entry p.effect c ready.effect own) plain)))

-- ---- refusals
-- out of memory may be the refusal where all tests pass
abbrev MayWant : Tests Refusal → Type 0
MayWant (no_more tells) = tells NoMemory
MayWant (test fact tells later) = MayWant later
MayWant (may_tell tells later) = MayWant later

passes_wanting : (t : Tests Refusal) → MayWant t → Passes t → Refuses t NoMemory
passes_wanting (no_more tells) may passes = may
passes_wanting (test fact tells later) may passes = inr (passes.0, passes_wanting later may passes.1)
passes_wanting (may_tell tells later) may passes = inr (passes_wanting later may passes)

may_want : (d : DefinitionData) (l : LimitsData) (n : ℕ) (r : List Record) (e : Record) → MayWant (tests_of_record d l n r e)
may_want d l n r (Flushed w hits) = refl
may_want d l n r (Targeted s tree) = refl
may_want d l n r (Invalidated points) = refl
may_want d l n r Snapped = refl
may_want d l n r (Published snapshot plan) = refl
may_want d l n r (Installed plan) = refl

-- where no call was accepted beside the records
pub plain_refusal : (b : BookState) (e : Record) (told : Refusal) → Refuses (tests_of_record b.definition b.limits (length b.records + 0) b.records e) told → IsLegalRefusal b e told
plain_refusal b e told refuses = subst (λ (n : ℕ). Refuses (tests_of_record b.definition b.limits n b.records e) told) (omega arith) refuses

pub ready_refusal : (old mid : BookState) (p : PendingState) (told : Refusal) → SameBook old mid → p.calls ≡ 0 → IsReady mid p → told ≡ NoMemory → IsLegalRefusal old p.entry told
ready_refusal old mid p told same none ready is =
    let moved : IsReady (record old { room = mid.room }) p = subst (λ (b : BookState). IsReady b p) same ready in
    let legal : Refuses (tests_of_record old.definition old.limits (length old.records + p.calls) old.records p.entry) NoMemory = passes_wanting (tests_of_record old.definition old.limits (length old.records + p.calls) old.records p.entry) (may_want old.definition old.limits (length old.records + p.calls) old.records p.entry) moved.passes in
    subst (IsLegalRefusal old p.entry) (sym is) (plain_refusal old p.entry NoMemory (subst (λ (n : ℕ). Refuses (tests_of_record old.definition old.limits (length old.records + n) old.records p.entry) NoMemory) none legal))
