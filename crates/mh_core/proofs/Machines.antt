-- What a machine keeps with one event more.
use Rattle.std.proofs.Common.{◌≡◌, inl, inr, ℕ, ◌+◌, ◌<◌, ◌≤◌, true, false, List, [], ◌∷◌, length, slice_set, refl, ap, sym, subst, ◌∙◌, arith}
use Rattle.std.specs.Prelude.{Option, Some, None}
use Rattle.std.proofs.lemmas.List.{length-set}
use Rattle.std.proofs.lemmas.List.FromFn.{length-map-range_with_len}
use Rattle.mh_type.specs.declared.value.Value.{Value}
use Rattle.mh_ledger.specs.Ledgers.{at, ledger_at, opened_ledger, settled, with_hit}
use Rattle.mh_site.specs.Defined.{DefinitionData}
use Rattle.mh_site.specs.Links.{links}
use Rattle.mh_core.specs.declared.event.Event.{Event}
use Rattle.mh_core.specs.declared.event.Event.TheVariants as event
use Rattle.mh_core.specs.declared.record.Record.{Record}
use Rattle.mh_core.specs.declared.record.Record.TheVariants.{Flushed, Targeted, Invalidated, Snapped, Published, Installed}
use Rattle.mh_core.specs.declared.refusal.Refusal.{Refusal}
use Rattle.mh_core.specs.declared.reply.Reply.{Reply}
use Rattle.mh_core.specs.declared.reply.Reply.TheVariants as answers
use Rattle.mh_core.specs.Books.{BookState, MayRefuse, MayTake, Rejects, Takes, reply_to}
use Rattle.mh_core.specs.Callers.{IsCallable}
use Rattle.mh_core.specs.Histories.{event_of, records}
use Rattle.mh_core.specs.Hits.{IsHitLink, hits, moved, unflushed}
use Rattle.mh_core.specs.Legal.{HasRoom, MachineState, Setting, answer, extended, record_tests, tests as event_tests}
use Rattle.mh_core.specs.Limits.{IsLimits, LimitsData, most_events}
use Rattle.mh_core.specs.Machines.{AreCounted, IsMachine, machine_of}
use Rattle.mh_core.specs.Pending.{IsNoFlush}
use Rattle.mh_core.specs.Records.{hits_in}
use Rattle.mh_core.specs.Rows.{HasRoomForPlan, tests_of_record}
use Rattle.mh_core.specs.Runtimes.{CountsHit, RefusesFlush, RuntimeState, flush_of, opened_runtime, room_tests}
use Rattle.mh_core.specs.Steps.{IsAccepted, IsRefused}
use Rattle.mh_core.specs.Runtimes as runtime
use Rattle.mh_base.specs.Tests.{Passes, Refuses}
use Rattle.mh_core.proofs.Growing.{fits_in}
use Rattle.mh_core.proofs.Ledgered.{call_counted, flush_counted, opened_counted, same_counted, unflushed_at}

-- there are no more records than events
pub few_records : (d : DefinitionData) (h : List Event) → length (records d h) ≤ length h
few_records d [] = omega arith
few_records d (event.Call w s a ∷ h) = omega (arith, few_records d h)
few_records d (event.Flush w ∷ h) = omega (arith, few_records d h)
few_records d (event.Target s tree ∷ h) = omega (arith, few_records d h)
few_records d (event.Invalidate points ∷ h) = omega (arith, few_records d h)
few_records d (event.Snapshot ∷ h) = omega (arith, few_records d h)
few_records d (event.Publish n plan ∷ h) = omega (arith, few_records d h)
few_records d (event.Install m ∷ h) = omega (arith, few_records d h)

module _ (r : RuntimeState) (h : List Event) (is : IsMachine r h) where
  abbrev x : Setting
  x = (machine_of r h).setting

  -- a flush of a worker is of what its calls have hit
  pub flush_is : (w : ℕ) → w < length r.ledgers → flush_of r w ≡ Flushed w (moved r.book.definition h w)
  flush_is w known = ap (λ (ns : List ℕ). Flushed w (hits_in ns)) (is.counted w known)

  -- beside so many calls
  module _ (n : ℕ) (count : length r.book.records + n ≡ length h) (e : Record) where
    pub passes : MayTake r.book n e → Passes (record_tests x h e)
    passes p =
        let behind = subst (λ (g : List Record). Passes (tests_of_record r.book.definition r.book.limits (length r.book.records + n) g e)) is.records p in
        subst (λ (k : ℕ). Passes (tests_of_record r.book.definition r.book.limits k (records r.book.definition h) e)) count behind

    pub refuses : (told : Refusal) → MayRefuse r.book n e told → Refuses (record_tests x h e) told
    refuses told p =
        let behind = subst (λ (g : List Record). Refuses (tests_of_record r.book.definition r.book.limits (length r.book.records + n) g e) told) is.records p in
        subst (λ (k : ℕ). Refuses (tests_of_record r.book.definition r.book.limits k (records r.book.definition h) e) told) count behind

    -- with one record more
    module _ (new : RuntimeState) (takes : Takes r.book n e new.book) where
      pub grows : e ∷ records r.book.definition h ≡ records r.book.definition (event_of e ∷ h) → AreCounted r.book.definition (event_of e ∷ h) new.ledgers → IsMachine new (event_of e ∷ h)
      grows same counted =
          let few = fits_in r.book.definition r.book.limits (length r.book.records + n) r.book.records e takes.passes in
          record {
            limits = subst IsLimits (sym takes.limits) is.limits;
            records =
                takes.records
                ∙ (ap (λ (g : List Record). e ∷ g) is.records ∙ (same ∙ ap (λ (d : DefinitionData). records d (event_of e ∷ h)) (sym takes.definition)));
            few = omega (arith, few, count, ap (λ (l : LimitsData). l.history) takes.limits);
            counted = subst (λ (d : DefinitionData). AreCounted d (event_of e ∷ h) new.ledgers) (sym takes.definition) counted;
          }

      pub view_grows : length new.ledgers ≡ length r.ledgers → machine_of new (event_of e ∷ h) ≡ extended (machine_of r h) (event_of e)
      view_grows workers =
          ap (λ (d : DefinitionData). by_parts d (length new.ledgers) new.book.limits) takes.definition
          ∙ (ap (λ (k : ℕ). by_parts r.book.definition k new.book.limits) workers ∙ ap (by_parts r.book.definition (length r.ledgers)) takes.limits)
        where
          by_parts : DefinitionData → ℕ → LimitsData → MachineState
          by_parts d k l = record { setting = record { definition = d; workers = k; limits = l }; history = event_of e ∷ h }

  -- the hits that a worker's ledger has
  pub hits_had : (w j : ℕ) → w < length r.ledgers → j < length (links r.book.definition) → at (ledger_at r.ledgers w).unflushed j ≡ unflushed r.book.definition h w j
  hits_had w j known inside = ap (λ (ns : List ℕ). at ns j) (is.counted w known) ∙ unflushed_at r.book.definition h w j inside

  -- what is not full has room for one event more
  pub room_left : length h < r.book.limits.history → length h < most_events
  room_left few = omega (arith, few, is.limits.history)

  -- a call of a worker that is there, which passes the tests that no hits decide
  module _ (w s : ℕ) (a : List Value) (link : Option ℕ) (known : w < length r.ledgers) (may : IsCallable r.book.definition s a) (hit : IsHitLink r.book.definition s a link) (few : length h < r.book.limits.history) where
    link_inside : (l : Option ℕ) → IsHitLink r.book.definition s a l → (j : ℕ) → hits r.book.definition s a j ≡ true → j < length (links r.book.definition)
    link_inside (Some k) is_hit j own = omega (arith, is_hit.0, is_hit.1.1 j own)
    link_inside None is_hit j own = let no : hits r.book.definition s a j ≡ false = is_hit j in cc

    room_there : runtime.HasRoom r w s a → HasRoom x h w s a
    room_there room j inside own = omega (arith, room j own, hits_had w j known inside)

    room_here : HasRoom x h w s a → runtime.HasRoom r w s a
    room_here room j own = let inside = link_inside link hit j own in omega (arith, room j inside own, hits_had w j known inside)

    pub passes_call : runtime.HasRoom r w s a → Passes (event_tests x h (event.Call w s a))
    passes_call room = (known, (may.inside, (may.fits, (few, (room_there room, tt)))))

    pub refuses_call : (told : Refusal) → Refuses (room_tests r w s a) told → Refuses (event_tests x h (event.Call w s a)) told
    refuses_call told p = inr (
      known,
      inr (
        may.inside,
        inr (
          may.fits,
          inr (
            few,
            elim p [
              | inl full ↦ inl ((λ room. full.0 (room_here room)), full.1)
              | inr memory ↦ inr (room_there memory.0, memory.1)
            ],
          ),
        ),
      ),
    )

    -- what it leaves
    module _ (new : RuntimeState) (same : new.book ≡ r.book) (counts : CountsHit r.book.definition w s a r.ledgers new.ledgers) where
      pub machine_calls : IsMachine new (event.Call w s a ∷ h)
      machine_calls = record {
        limits = subst (λ (b : BookState). IsLimits b.limits) (sym same) is.limits;
        records = ap (λ (b : BookState). b.records) same ∙ (is.records ∙ ap (λ (b : BookState). records b.definition h) (sym same));
        few = omega (arith, few, ap (λ (b : BookState). b.limits.history) same);
        counted = subst (λ (b : BookState). AreCounted b.definition (event.Call w s a ∷ h) new.ledgers) (sym same)
            (call_counted r.book.definition h r.ledgers new.ledgers w s a link is.counted known hit counts);
      }

      workers_same : (l : Option ℕ) → IsHitLink r.book.definition s a l → length new.ledgers ≡ length r.ledgers
      workers_same (Some k) is_hit = ap length (counts.hit k is_hit.1.0) ∙ length-set r.ledgers w (with_hit (ledger_at r.ledgers w) k)
      workers_same None is_hit = ap length (counts.none is_hit)

      pub view_calls : machine_of new (event.Call w s a ∷ h) ≡ extended (machine_of r h) (event.Call w s a)
      view_calls =
          ap (λ (b : BookState). machine_of record { book = b; ledgers = new.ledgers } (event.Call w s a ∷ h)) same
          ∙ ap (λ (k : ℕ). record { setting = record { definition = r.book.definition; workers = k; limits = r.book.limits }; history = event.Call w s a ∷ h }) (workers_same link hit)

-- before any event
pub machine_opened : (d : DefinitionData) (l : LimitsData) (workers : ℕ) → IsLimits l → IsMachine (opened_runtime d workers l) []
machine_opened d l workers limits = record { limits = limits; records = refl; few = omega arith; counted = opened_counted d l.ledger workers }

pub view_opened : (d : DefinitionData) (l : LimitsData) (workers : ℕ)
    → machine_of (opened_runtime d workers l) [] ≡ record { setting = record { definition = d; workers = workers; limits = l }; history = [] }
view_opened d l workers =
    ap (λ (k : ℕ). record { setting = record { definition = d; workers = k; limits = l }; history = [] }) (length-map-range_with_len (opened_ledger (length (links d)) l.ledger) 0 workers)

-- a record that is no flush is the one of its event, which leaves what was counted
pub record IsOwn (x : Setting) (h : List Event) (e : Record) : Type 0 where
  pub passes : Passes (record_tests x h e) → Passes (event_tests x h (event_of e))
  pub refuses : (told : Refusal) → Refuses (record_tests x h e) told → Refuses (event_tests x h (event_of e)) told
  pub answer : answer x h (event_of e) ≡ reply_to x.definition (records x.definition h) e
  pub records : e ∷ records x.definition h ≡ records x.definition (event_of e ∷ h)
  pub unflushed : (w j : ℕ) → unflushed x.definition (event_of e ∷ h) w j ≡ unflushed x.definition h w j

pub own_event : (x : Setting) (h : List Event) (e : Record) → IsNoFlush e → IsOwn x h e
own_event x h (Flushed w hits) other = absurd other
own_event x h (Targeted s tree) other = record { passes = λ p. p; refuses = λ told p. p; answer = refl; records = refl; unflushed = λ w j. refl }
own_event x h (Invalidated points) other = record { passes = λ p. p; refuses = λ told p. p; answer = refl; records = refl; unflushed = λ w j. refl }
own_event x h Snapped other = record { passes = λ p. p; refuses = λ told p. p; answer = refl; records = refl; unflushed = λ w j. refl }
own_event x h (Published n plan) other = record { passes = λ p. p; refuses = λ told p. p; answer = refl; records = refl; unflushed = λ w j. refl }
own_event x h (Installed m) other = record { passes = λ p. p; refuses = λ told p. p; answer = refl; records = refl; unflushed = λ w j. refl }

-- ---- beside what is seen of a machine
module _ (r : RuntimeState) (h : List Event) (is : IsMachine r h) (m : MachineState) (view : machine_of r h ≡ m) (n : ℕ) (seen : length (records m.setting.definition m.history) + n ≡ length m.history) where
  -- the calls beside the records
  pub calls_beside : length r.book.records + n ≡ length h
  calls_beside =
      omega (
        arith,
        seen,
        ap length is.records,
        ap (λ (y : MachineState). length (records y.setting.definition y.history)) view,
        ap (λ (y : MachineState). length y.history) view,
      )

  -- where the runtime has room for one more published plan, so has the machine
  pub room_for_plan : HasRoomForPlan r.book.limits (length r.book.records + n) r.book.records → HasRoomForPlan m.setting.limits (length m.history) (records m.setting.definition m.history)
  room_for_plan room =
      subst (λ (y : MachineState). HasRoomForPlan y.setting.limits (length y.history) (records y.setting.definition y.history)) view
      (subst (λ (k : ℕ). HasRoomForPlan r.book.limits k (records r.book.definition h)) calls_beside (subst (HasRoomForPlan r.book.limits (length r.book.records + n)) is.records room))

  -- a record that is no flush
  module _ (e : Record) (other : IsNoFlush e) (new : RuntimeState) (ledgers : new.ledgers ≡ r.ledgers) where
    own : IsOwn (machine_of r h).setting h e
    own = own_event (machine_of r h).setting h e other

    module _ (takes : Takes r.book n e new.book) (g : List Event) (noted : g ≡ event_of e ∷ h) where
      pub machine_takes : IsMachine new g
      machine_takes =
          subst (IsMachine new) (sym noted)
          (grows r h is n calls_beside e new takes own.records
          (subst (AreCounted r.book.definition (event_of e ∷ h)) (sym ledgers) (same_counted r.book.definition h (event_of e ∷ h) r.ledgers is.counted own.unflushed)))

      pub machine_accepts : (reply : Reply) → reply ≡ reply_to r.book.definition r.book.records e → IsAccepted m (event_of e) reply (machine_of new g)
      machine_accepts reply answers = subst (λ (y : MachineState). IsAccepted y (event_of e) reply (machine_of new g)) view record {
        passes = own.passes (passes r h is n calls_beside e takes.passes);
        answers = answers ∙ (ap (λ (k : List Record). reply_to r.book.definition k e) is.records ∙ sym own.answer);
        taken = ap (machine_of new) noted ∙ view_grows r h is n calls_beside e new takes (ap length ledgers);
      }

    pub machine_rejects : (told : Refusal) → Rejects r.book n e told new.book → IsRefused m (event_of e) told (machine_of new h)
    machine_rejects told rejects = subst (λ (y : MachineState). IsRefused y (event_of e) told (machine_of new h)) view record {
      refuses = own.refuses told (refuses r h is n calls_beside e told rejects.refuses);
      same =
          ap (λ (b : BookState). machine_of record { book = b; ledgers = new.ledgers } h) rejects.same
          ∙ ap (λ (k : ℕ). record { setting = record { definition = r.book.definition; workers = k; limits = r.book.limits }; history = h }) (ap length ledgers);
    }

  -- a flush
  module _ (w : ℕ) (new : RuntimeState) where
    abbrev flushed : Record
    flushed = flush_of r w

    module _ (known : w < length r.ledgers) (takes : Takes r.book n flushed new.book) (ledgers : new.ledgers ≡ slice_set r.ledgers w (settled (ledger_at r.ledgers w))) (g : List Event) (noted : g ≡ event.Flush w ∷ h) where
      pub machine_flushes : IsMachine new g
      machine_flushes =
          subst (IsMachine new) (sym noted)
          (grows r h is n calls_beside flushed new takes (ap (λ (e : Record). e ∷ records r.book.definition h) (flush_is r h is w known))
          (subst (AreCounted r.book.definition (event.Flush w ∷ h)) (sym ledgers) (flush_counted r.book.definition h r.ledgers w is.counted known)))

      pub flush_accepts : IsAccepted m (event.Flush w) answers.Done (machine_of new g)
      flush_accepts = subst (λ (y : MachineState). IsAccepted y (event.Flush w) answers.Done (machine_of new g)) view record {
        passes = (known, subst (λ (e : Record). Passes (record_tests (machine_of r h).setting h e)) (flush_is r h is w known) (passes r h is n calls_beside flushed takes.passes));
        answers = refl;
        taken = ap (machine_of new) noted ∙ view_grows r h is n calls_beside flushed new takes (ap length ledgers ∙ length-set r.ledgers w (settled (ledger_at r.ledgers w)));
      }

    pub flush_rejects : (told : Refusal) → RefusesFlush r n w told → new ≡ r → IsRefused m (event.Flush w) told (machine_of new h)
    flush_rejects told p same = subst (λ (y : MachineState). IsRefused y (event.Flush w) told (machine_of new h)) view record {
      refuses = elim p [
        | inl none ↦ inl none
        | inr there ↦ inr (there.0, subst (λ (e : Record). Refuses (record_tests (machine_of r h).setting h e) told) (flush_is r h is w there.0) (refuses r h is n calls_beside flushed told there.1))
      ];
      same = ap (λ (y : RuntimeState). machine_of y h) same;
    }
