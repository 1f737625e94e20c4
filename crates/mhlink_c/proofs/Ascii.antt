-- Texts that C passes.
use Rattle.std.proofs.Common.{◌≡◌, ℕ, List, true, arith, inl, inr, length, slice_index}
use Rattle.std.specs.Prelude.{nat_le}
use Rattle.std.specs.List.{list_all}
use Rattle.std.specs.Str.{IsUtf8}
use Rattle.std.proofs.lemmas.Bool.{and_parts, cases_lt, leb-true}
use Rattle.std.proofs.lemmas.List.{get_or_past}
use Rattle.std.proofs.lemmas.List.Sums.{AllPass-from_list_all}
use Rattle.std.proofs.lemmas.Str.{IsUtf8-from_ascii}
use Rattle.mh_type.specs.Limits.{longest_text}
use Rattle.mh_type.specs.Printable.{is_printable, is_text}

-- a text is ASCII, and so UTF-8
pub text_is_utf8 : (t : List ℕ) → is_text t ≡ true → IsUtf8 t
text_is_utf8 t is =
    let all = AllPass-from_list_all is_printable t (and_parts (nat_le (length t) longest_text) (list_all is_printable t) is).1 in
    IsUtf8-from_ascii t (λ i. elim (cases_lt i (length t)) [
      | inl lt ↦ omega (arith, leb-true (slice_index t i) 0x7E (and_parts (nat_le 0x20 (slice_index t i)) (nat_le (slice_index t i) 0x7E) (all i 0 lt)).1)
      | inr past ↦ omega (arith, get_or_past t i 0 past)
    ])
