use Rattle.std.proofs.Common.{rules, ◌≡◌, ◌∙◌, ◌++◌, [], ◌∷◌, List, ap, map, subst, sym}
use Rattle.std.specs.List.{All}
use Rattle.std.proofs.lemmas.List.{map-append}
use Rattle.std.proofs.lemmas.List.Elements.{All-append, All-cons, All-nil}
use Rattle.mh_live.specs.declared.opening.Seat.{Seat}
use Rattle.mh_live.proofs.opening.make_seats.Goals as goal

pub loop-ledger-preserved : goal.loop-ledger-preserved
loop-ledger-preserved c =
    let one : Seat = record { ledger = c.in-Some.ledger; stack = c.in_ok-new.field-0; definition = c.in_ok-share.field-0 } in
    let items : c.push.new.self.items ≡ c.loop-ledger.seats.items ++ one ∷ [] = search rules in
    let ledgers = ap (map (λ (s : Seat). s.ledger)) items ∙ (map-append (λ (s : Seat). s.ledger) c.loop-ledger.seats.items (one ∷ []) ∙ ap (λ ls. ls ++ c.in-Some.ledger ∷ []) c.loop-ledger.invariant.0) in
    let of_one : All (λ (s : Seat). s.definition ≡ c.args.definition.now) (one ∷ []) = All-cons (λ (s : Seat). s.definition ≡ c.args.definition.now) one [] c.in_ok-share.ensures.value (All-nil (λ (s : Seat). s.definition ≡ c.args.definition.now)) in
    (ledgers, subst (All (λ (s : Seat). s.definition ≡ c.args.definition.now)) (sym items) (All-append (λ (s : Seat). s.definition ≡ c.args.definition.now) c.loop-ledger.seats.items (one ∷ []) c.loop-ledger.invariant.1 of_one))
