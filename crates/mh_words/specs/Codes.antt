-- A code of code over words, by which a proof tells two of them apart.
use Rattle.std.specs.Prelude.{refl}
use Rattle.std.specs.Coded.{Coded, coded×, code_by}
use Rattle.mh_type.specs.contracts.kind.Kind as kind
use Rattle.mh_words.specs.contracts.piece.WordPiece as piece
use Rattle.mh_type.specs.declared.kind.Kind.{Kind}
use Rattle.mh_words.specs.declared.piece.WordPiece.{WordPiece}
use Rattle.mh_words.specs.Words.{Words}

abbrev pub coded_words : Coded Words
coded_words =
    code_by (Kind × WordPiece) (coded× kind.the_row.coded piece.the_row.coded) (λ w. (w.kind, w.entry)) (λ p. record { kind = p.0; entry = p.1 }) (λ _. refl)
