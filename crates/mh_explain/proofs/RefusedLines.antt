-- Lines of refused events.
use Rattle.std.proofs.Common.{◌≡◌, ◌<◌, ◌+◌, ℕ, List, [], ◌∷◌, ◌++◌, ap, refl, subst, sym, ◌∙◌, append_assoc, get_or, length, take}
use Rattle.std.proofs.lemmas.List.{append-nil, take_more}
use Rattle.std.specs.Prelude.{codes, decimal}
use Rattle.mh_core.specs.Refusals.{refusal_text}
use Rattle.mh_json.specs.declared.refused.RefusedEvent.{RefusedEvent}
use Rattle.mh_explain.specs.Refused.{NamesRefused, refused_line}

-- the lines so far, and those of one more event
pub one_more : (before : List RefusedEvent) (r : RefusedEvent) (lines text why : List ℕ) → NamesRefused before lines → text ≡ refused_line r ++ why
    → NamesRefused (before ++ r ∷ []) (lines ++ text)
one_more [] r lines text why none is =
    (why, [], ap (λ (xs : List ℕ). xs ++ text) none ∙ (is ∙ ap (λ (xs : List ℕ). refused_line r ++ xs) (sym (append-nil why))), refl)
one_more (q ∷ before) r lines text why (first, later, split, rest) is = (
  first,
  later ++ text,
  ap (λ (xs : List ℕ). xs ++ text) split ∙ (append_assoc (refused_line q) (first ++ later) text ∙ ap (λ (xs : List ℕ). refused_line q ++ xs) (append_assoc first later text)),
  one_more before r later text why rest is,
)

-- the text of a refused event is its line, and what stands behind that
pub line_and_rest : (r : RefusedEvent) (why : List ℕ)
    → codes "event " ++ (decimal r.event ++ (codes ": refused " ++ (refusal_text r.refusal ++ (10 ∷ why)))) ≡ refused_line r ++ why
line_and_rest r why =
    let number = decimal r.event in
    let name = refusal_text r.refusal in
    ap (λ (xs : List ℕ). codes "event " ++ (number ++ (codes ": refused " ++ xs))) (sym (append_assoc name (10 ∷ []) why))
    ∙ ap (λ (xs : List ℕ). codes "event " ++ xs) (sym (append_assoc number (codes ": refused " ++ (name ++ 10 ∷ [])) why))

-- the lines of the first i events, and those of the next
pub next_named : (rs : List RefusedEvent) (i : ℕ) (d : RefusedEvent) (lines text why : List ℕ) → i < length rs → NamesRefused (take i rs) lines
    → text ≡ refused_line (get_or rs i d) ++ why → NamesRefused (take (i + 1) rs) (lines ++ text)
next_named rs i d lines text why inside named is =
    subst (λ (before : List RefusedEvent). NamesRefused before (lines ++ text)) (sym (take_more rs i d inside)) (one_more (take i rs) (get_or rs i d) lines text why named is)
