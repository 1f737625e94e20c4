-- The view of code over words that contracts use.
use Rattle.mh_type.specs.declared.kind.Kind.{Kind}
use Rattle.mh_words.specs.declared.piece.WordPiece.{WordPiece}

-- the first piece, and the kind of the answers
pub record Words : Type 0 where
  pub kind : Kind
  pub entry : WordPiece
